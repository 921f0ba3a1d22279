-- The names that proofs by hand cite, passed on.
pub use mir.Val.{Val, WT, has_ty, of_list, op2_val, vbool, vcons, vnil, vnull, vptr, vstruct, vunit}
pub use types.Kit.{ !, Goal, Item, Seq, Step, at_ret, await, by, done, drop, feq_i, feq_l, fjoin, fpack, fpick, fsplit, given, join, keep, later, learn, move, pick, qed, raw, rewrite, some, split, split3, step, suffices, use0, use1, use2, ‵, ◌$◌, ◌∵◌, ◌⊛◌}
pub use denote.RattleType.{RattleType, Valss, owns}
pub use denote.Steps.{heard, nothing, only}
pub use denote.RawPtr.{InBlock, Ptr, Testable, at_block, block_of, block_ptr, count_of, in_a_block, lies_at, null_ptr, ptr_val, tests_null}
pub use base.Fml.{Fml, flft, fsep, ftrue}
pub use base.Logic.{SProp, emp, ent, fst∗, guard, guard_i, id⊢, never, snd∗, via}
pub use contract.Monad.{Fun, fact, fact_i, fact_use}
pub use contract.Running.{tables}
pub use types.Run.{and_then, bin, blocks, enter, exec, first, fld, lit, no_more, of_opd, returns, stop, unit_lit}
pub use denote.Signature.{plain, types_at}
pub use denote.Triple.Walked.{Goes-dropped, Stays, ends_at, says, stay_dropped, walk_Meets, walk_of}
pub use types.ByLocal.{alloc_all, env, free_all, get, get_in, is, lands_as, lands_last, look_at, pass_all, sets}
pub use Rattle.std.proofs.Common.{Bool, List, [], false, lit<, refl, subst, sym, true, ℕ, ◌++◌, ◌∷◌, ◌≡◌}
pub use types.Part.{agg, sub, whole}
pub use denote.Exit.{no, yes}
pub use prog.Wp.{Tables, WpFn}
pub use denote.Param.{bounded, layout}
pub use Rattle.core.proofs.alloc.Calls.{Al, Fits, Goes-blank, handle_tells}
pub use Rattle.std.proofs.raw_atomic.Walks.{leaves, proved_at}
pub use lib.Dec.{T}
pub use seplogic.Ra.Ura.{Ura}
pub use Rattle.std_alloc.specs.Box.Ownership.{box_owns}
pub use types.Logic.{Logic, sem}
pub use mir.Syntax.{Args, Body, Dict, Fn, a_type, assign, copy, dcons, dnil, impl, place, ptr_eq, return, rv_opd, seq, tnil, ty_ptr}
pub use denote.Builtin.{RawPtr, bool}
pub use Rattle.core.specs.Bool.{MatchBool}
pub use mir.Raw.{raw as bare}
pub use Rattle.std_alloc.proofs.ResultValues.{and_tt}
pub use denote.Struct.Tuple.{Tuple}
pub use mathlib.Core.Path.{ap, ◌∙◌}
pub use prog.Routine.{Routine}
pub use Rattle.std_alloc.proofs.BoxSteps.Steps.{box_in, box_out}
pub use mir.MapTy.{inst_fn}
pub use denote.Triple.Spec.{triple_of}
pub use sound.WpLaws.{WpFn-mono, fm_of}
pub use denote.Triple.Clauses.{Clauses, Ended}
pub use Rattle.std_alloc.proofs.BoxSteps.Form.{B, Bx, D, P, R, args, box_ty, box_typed, word, τ}
pub use prog.Memory.{Memory}
pub use denote.Triple.Table.{entered}
pub use denote.Triple.Call.{calls_at, calls_at_last}
pub use denote.Triple.Statement.{Contract, Triple}
pub use contract.BorrowLft.{◌⊑◌}
pub use Rattle.std.proofs.alloc.Calls.{token}
