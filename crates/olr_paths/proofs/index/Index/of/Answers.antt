use Rattle.olr_paths.proofs.Common.{subst, sym, ◌∙◌, ap, List, ℕ, IsStrictlyIncreasing, items_of}
use Rattle.olr_paths.proofs.index.Index.of.Goals as goal

pub returns-in-Some-clause-ascending : goal.returns-in-Some-clause-ascending
returns-in-Some-clause-ascending c =
    subst (λ (xs : List ℕ). IsStrictlyIncreasing xs)
    (sym (c.as_slice.ensures ∙ ap items_of c.in-Some.ensures.value)) (c.args.self.now.ascend c.args.number)
