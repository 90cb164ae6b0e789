use Rattle.olr_ambiguity.proofs.Common.{◌≡◌, ◌∙◌, ◌++◌, ◌∷◌, [], ℕ, List, Contains, IsTrue, inl, inr, has_node, coord_at, ap}
use Rattle.olr_ambiguity.proofs.Common.{sym, subst, arith, cases_lt, get_or, get_or_default, Contains-push, Contains-push_cases}
use Rattle.olr_ambiguity.proofs.Common.{Contains-append_left, Placed, cell_of, rules}
use Rattle.std.proofs.lemmas.List.Sorted.{IsNonDecreasingBy-from_sort_by_key, Contains-permutation, IsPermutation-sym}
use Rattle.olr_ambiguity.proofs.grid.Grid.of.Goals as goal

pub coord_of-place-requires : goal.coord_of-place-requires
coord_of-place-requires g c =
    let M = g.M.MapRead.map c.args.map.now in
    subst (λ (v : ℕ). IsTrue (has_node M v)) (sym c.id-item.is)
    (c.requires c.loop-id.id-index c.id-item.result c.loop-id-test.true)

pub loop-id-preserved : goal.loop-id-preserved
loop-id-preserved g c =
    let M = g.M.MapRead.map c.args.map.now in
    let v = c.id-item.result in
    let old = c.loop-id.nodes.items in
    let new = c.push.new.self.items in
    let e : Placed = record { cell = c.cell_of-cell.result; node = v; place = c.coord_of-place.result } in
    let pushed : new ≡ old ++ e ∷ [] = c.in_ok-push.ensures.items in
    let is_node =
    subst (λ (n : ℕ). IsTrue (has_node M n)) (sym c.id-item.is) (c.requires c.loop-id.id-index v c.loop-id-test.true) in
    let inv = c.loop-id.invariant in
    let right_e : IsTrue (has_node M e.node) × (e.place ≡ coord_at M e.node) × (e.cell ≡ cell_of e.place) =
    (is_node, c.coord_of-place.ensures, c.cell_of-cell.ensures) in
    record {
      right = λ f h.
          let cases = Contains-push_cases old e f (subst (λ (es : List Placed). Contains es f) pushed h) in
          grind (arith, cases, inv.right f, right_e);
      whole = λ k lt. elim (cases_lt k c.loop-id.id-index) [
        | inl before ↦
            let w = inv.whole k before in
            (w.0, subst (λ (es : List Placed). Contains es w.0) (sym pushed) (Contains-append_left old (e ∷ []) w.0 w.1), w.2)
        | inr last ↦
            let here : c.loop-id.id-index ≡ k = omega (arith, lt, last) in (
              e,
              subst (λ (es : List Placed). Contains es e) (sym pushed) (Contains-push old e),
              c.id-item.is ∙ get_or_default c.args.ids.now c.loop-id.id-index v 0 c.loop-id-test.true
                  ∙ ap (λ (n : ℕ). get_or c.args.ids.now n 0) here,
            )
      ];
    }

pub returns : goal.returns
returns g c =
    let inv = c.loop-id.invariant in
    let moved = c.sort_unstable_by_key.ensures.permutation in
    record {
      right = λ e h. inv.right e (Contains-permutation _ _ e (IsPermutation-sym _ _ moved) h);
      whole = λ v at.
          let w = inv.whole at.0 (let lt = at.1 in omega arith) in
          (w.0, Contains-permutation _ _ w.0 moved w.1, w.2 ∙ get_or_default c.args.ids.now at.0 0 v at.1 ∙ at.2);
      sorted = IsNonDecreasingBy-from_sort_by_key (λ (e : Placed). e.cell) _ c.sort_unstable_by_key.ensures.sorted (λ a r q k. search rules);
    }
