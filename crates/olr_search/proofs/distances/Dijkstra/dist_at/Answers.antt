use Rattle.olr_search.proofs.Common.{◌≡◌, ℕ, sym, ap, subst, ◌∙◌, arith, IsDistance, label_of, Some}
use Rattle.olr_search.proofs.SearchLemmas.{is_distance, label_is}
use Rattle.olr_search.proofs.distances.Dijkstra.dist_at.Goals as goal

pub returns-then-label-self : goal.returns-then-label-self
returns-then-label-self c = λ M node_slot direction from v d h known at.
    let is : label_of c.args.self.now.frontier (node_slot v) ≡ c.label-label.result =
    ap (label_of c.args.self.now.frontier) at ∙ sym c.label-label.ensures in
    let x = is_distance M node_slot direction from c.args.self.now h v known (omega arith) in (
      λ e.
          let same : c.label-label.result ≡ d = cc in
          (subst (λ (n : ℕ). IsDistance M direction from v n) (is ∙ same) x, omega arith),
      λ y. ap (λ (n : ℕ). Some n) (sym is ∙ label_is M node_slot direction from c.args.self.now h v d known y.0 y.1),
    )

pub returns-else-label-self : goal.returns-else-label-self
returns-else-label-self c = λ M node_slot direction from v d h known at. (
  λ e. let never : ⊥ = cc in absurd never,
  λ y.
      let is : label_of c.args.self.now.frontier (node_slot v) ≡ c.label-label.result =
      ap (label_of c.args.self.now.frontier) at ∙ sym c.label-label.ensures in
      let same = label_is M node_slot direction from c.args.self.now h v d known y.0 y.1 in
      absurd (omega arith),
)
