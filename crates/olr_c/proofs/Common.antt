-- What the proofs of handles share, and the names that they cite.
--     al      the allocator of C's heap
--     pair, and_tt      the machine value of a pointer and a handle of the allocator, and that it has its type
pub use Rattle.olr_c.specs.declared.keep.Keep.{Keep}
pub use Rattle.std.proofs.BoxSteps.Steps.{box_in, box_out}
pub use Rattle.std.proofs.Common.{List, [], ap, refl, subst, sym, ◌++◌, ◌∷◌, ◌≡◌, lit<}
pub use Rattle.std.proofs.alloc.Calls.{Goes-blank, handle_tells, Al}
pub use Rattle.std.proofs.boxed.Box.into_raw_with_allocator.Met.{met}
pub use Rattle.std.proofs.raw_atomic.Walks.{leaves, proved_at}
pub use Rattle.std.specs.Box.Ownership.{box_owns}
pub use Rattle.std.specs.Prelude.{IsSome, None, Option, Some}
pub use Rattle.std.specs.contracts.impls.GlobalAllocator.TheImpl.{ghosts}
pub use base.Fml.{flft, ftrue, fsep}
pub use base.Logic.{SProp, emp, fst∗, id⊢, never}
pub use contract.Monad.{fact, fact_i}
pub use contract.Running.{tables}
pub use denote.Exit.{no}
pub use denote.Memory.{lone}
pub use denote.Param.{bounded, layout}
pub use denote.RattleType.{RattleType, Valss, owns}
pub use denote.RawPtr.{Ptr, RawPtr, block_ptr, in_a_block, null_ptr, ptr_val}
pub use denote.Signature.{plain, types_at}
pub use denote.Steps.{heard, nothing, only}
pub use denote.Struct.Owning.{shape, to}
pub use denote.Struct.Struct.{within}
pub use denote.Triple.Call.{calls_at, calls_at_last}
pub use denote.Triple.Spec.{triple_of}
pub use denote.Triple.Table.{framed}
pub use denote.Triple.Walked.{Stays, stay_dropped, walk_of}
pub use lib.Dec.{T}
pub use mathlib.Core.Bool.{false, true, ◌&&◌, Bool}
pub use mathlib.Core.Path.{◌∙◌}
pub use mir.MapTy.{inst_fn}
pub use mir.Raw.{raw as bare}
pub use mir.Syntax.{a_type, dcons, dnil, w64, impl, tnil}
pub use mir.Val.{Val, WT, has_ty, of_list, vptr, vstruct, vint, vcons, vnil}
pub use prog.Wp.{WpFn}
pub use types.ByLocal.{alloc_all, free_all, get, get_in, look_at, pass_all, sets, lands_as, lands_last, env}
pub use types.Kit.{ !, await, by, drop, feq_i, feq_l, fjoin, fpack, fpick, fsplit, join, keep, later, move, pick, prop}
pub use types.Kit.{qed, raw, regoal, rewrite, some, split, split3, use0, use1, ‵, ◌$◌, ◌∵◌, ◌⊛◌, at_ret}
pub use types.Logic.{sem}
pub use types.Part.{agg, sub, whole}
pub use types.Run.{and_then, enter, fld, no_more, of_opd, returns, stop, first, blocks, exec, lit}
use Rattle.std.specs.contracts.alloc.Global as heap
use Rattle.std.proofs.alloc.Global.TheLaws as heap_laws

abbrev pub al : Al
al =
    record { row = heap.the_row; laws = heap_laws.the_row_laws; g = ghosts; d = impl [] tnil dnil; drops = impl [] tnil dnil }

abbrev pub pair : Val → Val → Val
pair p h = vstruct (vcons p (vcons h vnil))

pub and_tt : (x : Bool) → T x → T (x && true)
and_tt true y = y
and_tt false y = y
