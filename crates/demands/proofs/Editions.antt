-- Document 02, §4: each statement by one law.
use Rattle.read_salvage.proofs.Bounds.{salvage_kinds}
use Rattle.law_rounds.proofs.OneEdition as rounds
use Rattle.law_refusals.proofs.Bodies.{has_groups}
use Rattle.law_refusals.proofs.PlacedBySet as placing
use Rattle.demands.specs.Editions.{GroupOfOneEdition, BodyOfOneEdition, PlacedByItsSet, RuleTwoIsRefused, EachGroupByItself}

pub group_of_one_edition : GroupOfOneEdition
group_of_one_edition = rounds.group_of_one_edition

pub body_of_one_edition : BodyOfOneEdition
body_of_one_edition s n run = (has_groups s n run).before.alike

pub placed_by_its_set : PlacedByItsSet
placed_by_its_set = placing.placed_by_its_set

pub rule_two_is_refused : RuleTwoIsRefused
rule_two_is_refused = placing.rule_two_refused

pub each_group_by_itself : EachGroupByItself
each_group_by_itself = salvage_kinds
