-- Demand 1, what is sound: each statement by one law.
use Rattle.law_refusals.proofs.Sound.{text_sound, group_stands}
use Rattle.law_refusals.proofs.Reasons.{refused_kinds}
use Rattle.demands.specs.Sound.{SoundTextExactly, GroupStandsExactly, RefusalsAreKinds}

pub sound_text_exactly : SoundTextExactly
sound_text_exactly = text_sound

pub group_stands_exactly : GroupStandsExactly
group_stands_exactly = group_stands

pub refusals_are_kinds : RefusalsAreKinds
refusals_are_kinds = refused_kinds
