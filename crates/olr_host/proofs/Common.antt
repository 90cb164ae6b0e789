-- The names that both proofs of the traced calls cite, passed on from one place. Declares nothing.
pub use Rattle.olr_host.specs.declared.traced.Traced.{Traced}
pub use Rattle.std.proofs.Common.{List}
pub use Rattle.std.proofs.raw_atomic.Walks.{proved}
pub use contract.Running.{tables}
pub use denote.Steps.{nothing}
pub use denote.Triple.Entry.{on_entry}
pub use denote.Triple.Walked.{ends_at, says}
pub use mir.Val.{Val}
pub use types.ByLocal.{alloc_all, free_all, look_at, pass_all, sets}
pub use types.Kit.{ !, done, join, keep, qed, suffices, ◌$◌, ◌∵◌}
pub use types.Run.{enter, returns}
