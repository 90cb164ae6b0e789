use Rattle.olr_paths.proofs.Common.{subst, sym, ap, List, ℕ, IsStrictlyIncreasing, items_of}
use Rattle.olr_paths.proofs.index.Index.remove.Goals as goal

pub take_out-requires : goal.take_out-requires
take_out-requires c =
    subst (λ (xs : List ℕ). IsStrictlyIncreasing xs) (sym (ap items_of c.in-Some.ensures.value))
    (c.args.self.now.ascend c.args.number)
