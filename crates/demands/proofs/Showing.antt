-- What a tool shows of a file: each statement by one law.
use Rattle.law_salvage.proofs.Entries.{entries_judged, groups_judged}
use Rattle.law_salvage.proofs.Reading.{sections_read}
use Rattle.law_refusals.proofs.ShownExact.{section_given, section_nothing, entry_given, entry_nothing, site_given, site_nothing}
use Rattle.law_rounds.proofs.SitesRead.{site_of_record}
use Rattle.demands.specs.Showing.{SectionsAreRead, SectionReadRefused, NoSectionTold, EntriesAreJudged, GroupsAreJudged, EntryJudgedRefused, NoSizeTold, RecordsAreSited, PlaceFoundRefused, NoSiteTold}

pub sections_are_read : SectionsAreRead
sections_are_read = sections_read

pub section_read_refused : SectionReadRefused
section_read_refused = section_given

pub no_section_told : NoSectionTold
no_section_told = section_nothing

pub entries_are_judged : EntriesAreJudged
entries_are_judged = entries_judged

pub groups_are_judged : GroupsAreJudged
groups_are_judged = groups_judged

pub entry_judged_refused : EntryJudgedRefused
entry_judged_refused = entry_given

pub no_size_told : NoSizeTold
no_size_told = entry_nothing

pub records_are_sited : RecordsAreSited
records_are_sited body n g i b e l = site_of_record body n e g l i b

pub place_found_refused : PlaceFoundRefused
place_found_refused = site_given

pub no_site_told : NoSiteTold
no_site_told = site_nothing
