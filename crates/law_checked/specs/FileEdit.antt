-- What an edit inside a style file leaves as it was: every other section, every other group, and of its group every other record.
use Rattle.std.specs.Prelude.{ℕ, ◌+◌, List}
use Rattle.layout.specs.declared.record.Record.{Record}
use Rattle.layout.specs.Listing.{body_in}
use Rattle.law_rounds.specs.Rounds.{EditRead}
use Rattle.law_refusals.specs.Body.{Named}
use Rattle.law_checked.specs.Alike.{AlikeOutside, record_place, record_size}
use Rattle.law_checked.specs.Others.{OthersAsBefore}
use Rattle.law_checked.specs.Files.{SectionsAsBefore}

-- the file is another in one record only, that of a source channel in the group that has the part, and there the new record is read
pub record EditedAlone (before name : List ℕ) (channel : ℕ) (new : Record) (after : List ℕ) : Type 0 where
  pub group : ℕ
  -- the CASM section stands where it stood and is as long; what stands before its body and behind it, which is every other section, is as it was
  pub sections : SectionsAsBefore before after group channel
  pub named : Named (body_in before sections.casm) group name
  -- no byte of the file differs outside that record
  pub alike : AlikeOutside before after (sections.casm.start + 8 + record_place (body_in before sections.casm) group channel) (record_size (body_in before sections.casm) group)
  -- every other group, and every other record of this one
  pub others : OthersAsBefore (body_in before sections.casm) (body_in after sections.casm) group channel
  pub read : EditRead (body_in before sections.casm) (body_in after sections.casm) group channel new
