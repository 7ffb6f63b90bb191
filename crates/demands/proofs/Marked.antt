-- The marked examples hold: each row computes to its answer.
use mathlib.Core.Path.{refl}
use mathlib.Core.List.{flat_map}
use Rattle.layout.specs.Lists.{same, has, distinct, every, any}
use Rattle.layout.specs.Scan.{first_of, first, run_of, run}
use Rattle.layout.specs.Bytes.{number, word, four, tag_at, tagged, chunk}
use Rattle.layout.specs.Answers.{number_of, place_of, value_or, after_run, part_of, counted}
use Rattle.layout.specs.Ranges.{inside, common_ranges, set_ranges, ranges, sound_table, out_of, rule_at, out_at, first_out}
use Rattle.layout.specs.Records.{head_bytes, set_bytes, form_bytes, bytes_of, form_edition, form_second, bad_second, bad_byte, first_bad}
use Rattle.layout.specs.Sdec.{first_name, later_names, names, sound_text, shares}
use Rattle.layout.specs.Group.{head_fault, ctabs_over, ctab_at, ctab_turn, cntt_at, cntt_turn, cntts_of, ctabs_of, after_cntts, after_ctb2s, after_ctabs, edition_at, contents, payload, group_size, behind_header, group_at}
use Rattle.layout.specs.Editions.{alike}
use Rattle.layout.specs.Body.{group_place, text_at, sharing, records_of, edition_in, fixing, unlike_body, after_contents, group_turn_at, group_turn, body_run, body_read}
use Rattle.layout.specs.Asked.{of_group, text_of}
use Rattle.layout.specs.Style.{no_style, section_place, section_tagged, section_turn_at, section_turn, sections_run, casm_among, casm_found}
use Rattle.layout.specs.Salvage.{cseg, front, pieces, rest, listed, judged, parts, entries_from, salvage, entry_numbers, list_numbers, salvaged}
use Rattle.layout.specs.Listing.{numeral, places, decimal, spaced, refused_line, casm_line, entry_line, end_line, text_listed, body_in, text_found, list_text}
use Rattle.layout.specs.Plays.{bit, root_mask, chord_mask, plays_under}
use Rattle.layout.specs.Place.{becomes, effective, set_for, table_for, bypass, shift, fixed, octaves, folded, octave_of, stands_below, stands_above, distance, nearest, heard, note_placed, placed}
use Rattle.demands.specs.Examples.{Hold, examples, list_example}

pub marked : Hold examples
unfolding same has distinct every any first_of first run_of run number word four tag_at tagged number_of place_of value_or after_run part_of counted inside common_ranges set_ranges ranges sound_table out_of rule_at out_at first_out head_bytes set_bytes form_bytes bytes_of form_edition form_second bad_second bad_byte first_bad first_name later_names names sound_text shares head_fault ctabs_over ctab_at ctab_turn cntt_at cntt_turn cntts_of ctabs_of after_cntts after_ctb2s after_ctabs edition_at contents payload group_size behind_header group_at group_place text_at sharing records_of edition_in fixing unlike_body alike after_contents group_turn_at group_turn body_run body_read of_group text_of cseg front pieces rest listed judged parts entries_from salvage bit root_mask chord_mask plays_under becomes effective set_for table_for bypass shift fixed octaves folded octave_of stands_below stands_above distance nearest heard note_placed placed flat_map
marked = (refl, (refl, (refl, (refl, (refl, (refl, (refl, (refl, (refl, (refl, (refl, (refl, (refl, (refl, (refl, (refl, (refl, (refl, (refl, (refl, (refl, (refl, (refl, (refl, (refl, (refl, (refl, (refl, (refl, (refl, (refl, (refl, (refl, tt)))))))))))))))))))))))))))))))))

pub listed_file : Hold list_example
unfolding same has distinct every any first_of first run_of run number word four tag_at tagged value_or after_run inside common_ranges set_ranges ranges sound_table out_of rule_at out_at first_out first_name later_names names sound_text head_fault ctabs_over ctab_at ctab_turn cntt_at cntt_turn cntts_of ctabs_of after_cntts after_ctb2s after_ctabs edition_at contents payload group_size behind_header group_at cseg front pieces rest listed judged parts entries_from salvage entry_numbers list_numbers salvaged flat_map chunk no_style section_place section_tagged section_turn_at section_turn sections_run casm_among casm_found numeral places decimal spaced refused_line casm_line entry_line end_line text_listed body_in text_found list_text
listed_file = (refl, tt)
