-- The words of a proof by hand: it names them from here, and not from the sixty modules of the logic that have them.

-- ---- numbers, tests and lists
pub use mathlib.Core.Path.{◌∙◌, ◌≡◌, ap, refl, subst, sym}
pub use Prim.Native.Nat.{◌*◌, ◌+◌, ◌-◌, ◌<◌, ◌^◌, ◌≤◌, min, zero-le, ℕ}
pub use native.Mathlib.Nat.{le_antisymm}
pub use native.Mathlib.Numerals.{add-one, add-one-dec, add-one-le}
pub use native.Mathlib.Omega.{arith}
pub use mathlib.Core.Bool.{Bool, false, true}
pub use mathlib.Core.WellFounded.InvImage.{wf as InvImage·wf}
pub use mathlib.Core.WellFounded.{WellFounded}
pub use mathlib.Core.List.{List, [], ◌++◌, ◌∷◌, map}
pub use lib.ListN.{drop as drop-list, get_or, length, length-append, set, take, take-append-drop}
pub use lib.WfN.{lt-wf_rel as Nat·lt-wfRel}
pub use lib.Dec.{T as Holds, lit<, ltb}
pub use borrow.Author.Rules.{scaled_Fits}
pub use borrow.Author.Tests.{ltb-false, ltb-true}
-- ---- machine values and assertions
pub use seplogic.Ra.Ura.{Ura}
pub use base.Fraction.{full_share}
pub use mir.Syntax.{Lifetime, Ty, erased, imm, mut, named, ty_array, ty_bool, ty_int, ty_ptr, ty_ref, w64, w8}
pub use mir.Val.{Val, WT, has_ty, vbool, vint, vptr}
pub use base.Logic.{SProp, emp, ent, ex, ex_e, fst∗, id⊢, sep, snd∗, via}
pub use base.Fml.{Fml, GName, Lft, Share, fat, fauth, fbor, fdead, fdies, flent, flft, fobor, fobs, froom, fsep, ftrue}
pub use prog.Memory.{Memory}
pub use prog.Routine.{Routine}
pub use prog.Wp.{Calls, Env, Heap, Loops, Out, Tables, Wp, WpFn, after_block, after_seq, at_return}
unfoldable pub use prog.Wp.{after_turn}
pub use ghost.Atoms.{Atoms}
pub use types.Logic.{sem}
pub use contract.Monad.{Fun, fact}
pub use contract.Running.{tables}
unfoldable pub use contract.Running.{tables_of}
-- ---- steps
pub use types.Kit.{ !, Item, Sq, ◌$◌, ◌∵◌, ◌⊛◌, any_q, at_ret, await, by, done, drop, feq_i, feq_l, fjoin, fjoin3, fpack, fpick, frame, fsplit, fsplit3, join, keep, later, move, now as at_once, pick, qed, raw, rewrite, runs, show, some, split, suffices, updating, use1, use2, use3, ‵, ⋆}
pub use types.Run.{Below, addr, again, alloc0, alloc1, and_then, assigns, assigns_last, bin, blocks, enter, exec, false_lit, first, fld, forget, free0, free1, from, hop, init, land, leaves_loop, lit, load, look, look_raw, loops, no_more, of_opd, params1, pass0, pass1, returns, stays, stop, store, store_raw, true_lit}
pub use types.Part.{agg, look_in, sub, whole}
pub use types.SemTy.{Arr, Body, cells}
pub use types.Share.{arr_parts}
pub use types.Tokens.{lent_back, lft_end, lft_new}
pub use sound.WpLaws.{FmC, WpFn-mono, fm_of}
pub use denote.Steps.{closes, heard, nothing, only, opens, owned, peeks}
pub use denote.Struct.Steps.{spelt}
pub use denote.Shadow.{pure_i, pure_l}
-- ---- types, and what is lent
pub use denote.RattleType.{RattleType, owns}
pub use denote.Laws.{Is, shows}
pub use denote.Memory.{cell_at, mem, part_at, pointee, shares}
unfoldable pub use denote.Memory.{part_of}
pub use denote.Plain.{bool_Makes, bool_Tells, bool_vals, uint_Lawful, uint_Makes, uint_Tells, uint_vals}
pub use denote.Builtin.{bool, u8, usize}
pub use denote.Array.{Array, Array-Lawful, Array-Makes, Array-Tells, array_vals, array_val}
pub use denote.ArrayMemory.{Array-apart, Array-whole}
pub use denote.Ref.{MutRef, Bor, MutBor, mut_Tells, shr_vals, mut_vals}
pub use denote.Slice.{MutSlice, Room, ShrSlice, shr_slice_at, mut_slice_at, coded_holeys, finally, heres, mut_slice_Tells, shr_slice_copy, shr_slice_Tells, shr_slice_vals, mut_slice_vals, slice_ty, slice_val}
pub use denote.Lend.{Held, lends_ref, lends_shr_slice, lends_slice, ref_back, slice_back}
pub use denote.Index.{closes_slice, elem_back, elem_out, elem_put, looks_slice, opens_slice, place_is, row, shuts_slice, whole_in, whole_out}
pub use borrow.Table.Elements.{at, cut_app, join_app, length-take-le, same_len}
pub use borrow.Rule.Array.Share.{Room-take}
-- ---- contracts
pub use denote.Triple.Entry.{on_entry}
pub use denote.Triple.Spec.{Meets, triple_of}
pub use denote.Triple.Statement.{Contract, Triple}
pub use denote.Triple.Call.{calls_at}
pub use denote.Triple.Clauses.{ensured, lasts}
pub use denote.Triple.Table.{cited, entered}
pub use denote.Triple.Walked.{Stays, Walks, ends_at, Goes-dropped, Goes-none, Goes-none_slice, Goes-ref, Goes-slice, needs, says, stay_dropped, stay_none, stay_none_slice, stay_ref, stay_slice, walk_Meets, walk_of, walked}
pub use denote.Exit.{yes}
pub use denote.Signature.{Slot, plain, shr_slice_of}
pub use denote.Signature.Array.{array_of}
