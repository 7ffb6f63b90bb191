-- The records of a sound group are of its edition.
use Prim.Native.Nat.{ℕ, ◌+◌, ◌<◌}
use mathlib.Core.Path.{◌≡◌}
use mathlib.Core.List.{List}
use lib.ListN.{get_or, take, drop}
use Rattle.layout.specs.declared.edition.Edition.{Edition}
use Rattle.layout.specs.Group.{Sound}
use Rattle.layout.specs.Editions.{held}
use Rattle.layout.specs.Records.{blank, edition_of}
use Rattle.layout.specs.Group.{ctab_place, ctab_channel, second_of, position_of, record_at, payload, group_at, group_of}
use Rattle.layout.proofs.Lists.{get_d_rows}
use Rattle.layout.proofs.BytesBack.{edition_made}

pub group_of_one_edition : (p : List ℕ) (e : Edition) (t n m : ℕ) → group_at p ≡ Sound e t n m → (i : ℕ) → i < n → edition_of (get_or (group_of e (payload p) t n m).records i blank) ≡ e
unfolding group_of record_at
group_of_one_edition p e t n m sound i l =
    let c = payload p in
    let q = ctab_place e (8 + t) n in
    let channel = ctab_channel e c (8 + t) i in
    rw (get_d_rows (record_at e c (8 + t) q m) blank n i l) (edition_made (take (held e) (drop (ctab_place e (8 + t) i + 8) c)) (second_of c q m channel) (position_of c q m channel) e)
