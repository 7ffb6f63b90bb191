-- Demand 3: each statement by one law. Example 9 and two damaged groups by the same laws, their hypotheses by tests that compute.
use mathlib.Core.Path.{refl}
use mathlib.Core.List.{[], ◌∷◌, ◌++◌, flat_map, flatten}
use lib.ListN.{drop, set}
use Rattle.layout.specs.declared.edition.Edition.TheVariants.{First}
use Rattle.layout.specs.Lists.{same, has, distinct, every}
use Rattle.layout.specs.Scan.{first_of, first, run_of, run}
use Rattle.layout.specs.Bytes.{number, word, tag_at, tagged}
use Rattle.layout.specs.Ranges.{inside}
use Rattle.layout.specs.Sdec.{first_name, later_names, names, sound_text}
use Rattle.layout.specs.Group.{head_fault, ctabs_over, ctab_at, ctab_turn, cntt_at, cntt_turn, cntts_of, ctabs_of, after_cntts, after_ctb2s, after_ctabs, edition_at, contents, payload, group_size, behind_header, group_at}
use Rattle.layout.specs.Salvage.{cseg, front, pieces, rest, listed, judged, parts, entries_from, salvage}
use Rattle.law_salvage.specs.Salvage.{GroupsBody, NoneCompleted, groups_from, moved, moved_by_change, groups_were, bytes_are, NoneCompletedIn, list_from}
use Rattle.law_salvage.proofs.Entries.{entries_cover_body, entries_give_back, kinds_exact, entries_alone}
use Rattle.law_salvage.proofs.Starts.{Lone, groups_body}
use Rattle.law_salvage.proofs.Stretches.{damages_local}
use Rattle.law_salvage.proofs.Damage.{groups_listed, damage_local}
use Rattle.law_salvage.proofs.Calls.{accepted_lists, damages_local_call, damage_local_call}
use Rattle.law_salvage.proofs.Tested.{free, free_by, apart, none_by}
use Rattle.demands.specs.Examples.{M, N}
use Rattle.demands.specs.Salvage.{EachGroupIsListed, DamageStaysLocal, DamageStaysLocalAtTheCall, SeveralDamagesStayLocal, SeveralDamagesStayLocalAtTheCall, EachEntryAlone, EntriesCover, EntriesGiveBack, KindsAreExact, CallsList, ExampleNine, two_damaged, TwoDamaged}

pub each_group_is_listed : EachGroupIsListed
each_group_is_listed = groups_listed

pub damage_stays_local : DamageStaysLocal
damage_stays_local = damage_local

pub damage_stays_local_at_the_call : DamageStaysLocalAtTheCall
damage_stays_local_at_the_call = damage_local_call

pub several_damages_stay_local : SeveralDamagesStayLocal
several_damages_stay_local = damages_local

pub several_damages_stay_local_at_the_call : SeveralDamagesStayLocalAtTheCall
several_damages_stay_local_at_the_call = damages_local_call

pub each_entry_alone : EachEntryAlone
each_entry_alone = entries_alone

pub entries_cover : EntriesCover
entries_cover = entries_cover_body

pub entries_give_the_body_back : EntriesGiveBack
entries_give_the_body_back = entries_give_back

pub kinds_are_exact : KindsAreExact
kinds_are_exact = kinds_exact

pub calls_list : CallsList
calls_list = accepted_lists

-- ---- the examples

-- M and N are sound groups, and CSEG stands nowhere else in them
lone : Lone M × Lone N
unfolding same has distinct every first_of first run_of run number word tag_at tagged inside first_name later_names names sound_text head_fault ctabs_over ctab_at ctab_turn cntt_at cntt_turn cntts_of ctabs_of after_cntts after_ctb2s after_ctabs edition_at contents payload group_size behind_header group_at cseg free
lone = (
  record { group = record { edition = First; text = 6; ctabs = 0; cntts = 0; sound = refl; whole = refl }; only = free_by (drop 1 M) refl },
  record { group = record { edition = First; text = 6; ctabs = 0; cntts = 0; sound = refl; whole = refl }; only = free_by (drop 1 N) refl },
)

groups : GroupsBody (M ∷ M ∷ N ∷ [])
groups = groups_body (M ∷ M ∷ N ∷ []) (lone.0, (lone.0, (lone.1, tt)))

none : NoneCompleted (flatten (M ∷ [])) (set M 0 0x44)
unfolding same tag_at tagged cseg apart flatten
none = none_by M (set M 0 0x44) refl

pub example_nine : ExampleNine
unfolding same tag_at tagged cseg front pieces rest listed judged parts entries_from salvage groups_from moved moved_by_change flat_map flatten
example_nine =
    record {
      groups = groups;
      none = none;
      was = refl;
      now = refl;
      listed = damage_stays_local (M ∷ []) M (N ∷ []) (set M 0 0x44) groups none;
    }

several : GroupsBody (groups_were two_damaged)
unfolding groups_were
several = groups_body (M ∷ N ∷ M ∷ []) (lone.0, (lone.1, (lone.0, tt)))

none_in : NoneCompletedIn [] two_damaged
unfolding same tag_at tagged cseg apart flatten
none_in = (none_by [] (set M 0 0x44) refl, (none_by (set M 0 0x44 ++ flatten (N ∷ [])) (set M 7 0x0F) refl, tt))

pub two_damaged_listed : TwoDamaged
unfolding same number word tag_at tagged head_fault group_at cseg front pieces rest listed judged parts entries_from salvage groups_from moved bytes_are list_from flat_map flatten
two_damaged_listed = record { parted = tt; groups = several; none = none_in; listed = several_damages_stay_local two_damaged tt several none_in }
