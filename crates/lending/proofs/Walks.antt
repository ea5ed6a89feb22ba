-- The names of the logic that the walks of functions by hand and the laws behind them use, passed on under one name. Nothing is defined here.
pub use mathlib.Core.Path.{◌≡◌, sym, subst, ap, ◌∙◌, refl, PathP}
pub use mathlib.Core.Bool.{Bool, true, false}
pub use mathlib.Core.List.{List, [], ◌∷◌, ◌++◌, map-id}
pub use Prim.Native.Nat.{ℕ, zero, suc, ◌+◌, ◌^◌, ◌<◌}
pub use lib.Dec.{T, ltb, lit<, eqb_refl}
pub use lib.ListN.{get_or, length}
pub use base.Fraction.{full_share}
pub use seplogic.Ra.Ura.{Ura}
pub use mir.Fields.{get_v}
pub use mir.Syntax.{Callee, Ty, Local, local, Fn, return, named, w32, w64, Sym, Tys, ty_int, ty_bool, ty_float, ty_ptr, ty_ref, ty_array, ty_unit}
pub use mir.Syntax.{ty_struct, ty_enum, ty_named, ttnil, Step as PStep, deref, field, variant, Place, place, Opd as Operand, copy, int}
pub use mir.Syntax.{int_neg, int_big, float, opd_true, opd_false, opd_unit, ptr_const, Rv as RValue, rv_opd, op2, op1, addr_of}
pub use mir.Syntax.{aggregate, repeat, Body, skip, seq, assign, block, loop, cond, switch, exit, call, Lifetime, Width, erased}
pub use mir.Val.{Val, vptr, WT, has_ty, vunit, vbool, vint, vfloat, vstruct, vnil, vcons, of_list, WTs, bits, bytes}
pub use base.Fml.{Lft, Share, Fml, fat, froom, fdies, GName, ftrue, fsep, fdead, flft, flent, fres, fobs, fauth, fbor, fobor, fshr_bor}
pub use base.Before.{before}
pub use base.Logic.{SProp, ent, sep, id⊢, via, mono_r, guard_i, emp, guard, comm∗, assoc∗, assoc', emp∗, fst∗, wand_i, all_i, ex, wand, mono_l}
pub use base.Logic.{apply∗, snd∗, wand_e, all_e, ex_e, mono∗}
pub use prog.Memory.{Memory, field_of, field_at, size, align, up}
pub use prog.Model.{Model}
pub use prog.Routine.{Routine}
unfoldable pub use prog.Wp.{WpFn}
pub use prog.Wp.{Heap, Tables, Closed, Calls, Loops, Wp, Env, alloc, params, pass, release, at_return, next as nextᴼ, returns as returnsᴼ, after_seq}
pub use ghost.Atoms.{Atoms}
pub use ghost.Rules.{Halves}
pub use contract.BorrowLft.{meet_⊑_left}
pub use contract.Lifetimes.{Lfts, Shares, AllOutlive, Lowered, signature_of, toks}
pub use contract.Monad.{Fun, fact, fact_i, fact_use}
unfoldable pub use contract.Running.{tables_of}
pub use contract.Running.{Running, tables}
pub use types.Kit.{Item, ‵, raw, ◌⊛◌, given, later, mean, ⋆, nth, put, push, pop, runs, at_ret, Go, Goal, Sq, ◌$◌, ◌∵◌, !, qed, by, move, use1}
pub use types.Kit.{split, frame, assume, check, await, learn, join, group, post, Post, prop, any_q, updating, now as at_once, some, keep, use2, use3}
pub use types.Kit.{drop, pick, fsplit, fsplit3, fjoin, feq_l, feq_i, show, done, Step, use0}
pub use types.Mut.{open_ref, close_ref}
pub use types.Part.{agg, whole, sub, look_in}
pub use types.Run.{Reads, Walks, Opd, Opds, Rv, look, init, stop, hop, fld, from, load, addr, no_more, and_then, of_opd, exec, first, assigns_last}
pub use types.Run.{land_last, returns_within, lit}
pub use types.Na.{before-Incl, before_lent}
pub use types.Tokens.{lft_new, lft_end, bor_new, bor_fracture, lent_back, shr_bor-open, obor_close}
pub use sound.WpLaws.{fm_of, FmC}
pub use denote.Builtin.{u8, u32, u64, usize}
pub use denote.Exit.{yes}
pub use denote.Laws.{Typed, Is, valss, shows, Are, Ises, Spells, Tellss, Tells, Lawfuls}
pub use denote.Lend.{lends_ref, ref_back, lends_shr}
unfoldable pub use denote.Memory.{part_of}
pub use denote.Memory.{part_at, mem, lone, shared_of, hidden_shr}
pub use denote.Plain.{UInt, uint_vals, uint_Tells, Nothing, nothing_vals, Nothing-Tells, uint_Makes}
pub use denote.RattleType.{RattleType, RowLaws, Denots, Valss, mirs, owns, flat}
pub use denote.Ref.{Bor, MutBor, at_last, MutRef, ShrRef, shr_vals, mut_vals, mut_Tells, shr_Tells, NamedLft}
pub use denote.Signature.{Signature, Slot, Matches, mut_ref_to, shr_ref_to, plain, type_at, types_at, named_lft}
pub use denote.Slice.{MutSlice, ShrSlice, shr_slice_vals, mut_slice_vals, mut_slice_Tells, shr_slice_Tells, slice_val}
pub use denote.Steps.{said, nothing, owned, peeks, heard}
pub use denote.Struct.Declared.{Declared, row}
pub use denote.Struct.Field.{Field, rows, uint_field, array_field}
pub use denote.Struct.Members.{Member, row_of, rows_of, parts_at}
pub use denote.Struct.Parts.{shape_of, PartsBack, Struct-parts}
pub use denote.Struct.Record.{Record, Propositions, declared}
pub use denote.Struct.Rest.{own_put, all_own, field_own, rest, own_open, own_out, own_shut}
pub use denote.Struct.Struct.{Struct}
pub use denote.Struct.Values.{Values as Held, intos}
pub use denote.Triple.Call.{calls_from_last}
pub use denote.Triple.Clauses.{Ended, Clauses, ensured, closing, AtExit, Lasts, at_exit, lasts}
pub use denote.Triple.End.{Kepts, Fins, outs, lasts_of}
pub use denote.Triple.Entry.{Args, Vals, alive, on_entry}
pub use denote.Triple.Spec.{Spec, Meets, triple_of}
pub use denote.Triple.Statement.{Triple, Contract}
pub use denote.Triple.Table.{entered, cited}
