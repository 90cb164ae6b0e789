use Rattle.olr_records.proofs.Common.{fields_of}
use Rattle.std.specs.Fn.{FnReturnsAt}
use Rattle.olr_records.proofs.LoopLemmas.{ItemsTo}
use Rattle.olr_records.proofs.lists.items_from.Given as goal

abbrev pub invariant-loop-k : goal.invariant-loop-k
invariant-loop-k g l = ItemsTo (FnReturnsAt g.F.Fn l.read) (λ v. v.items) (fields_of l.fields) l.fn.start l.k l.items
