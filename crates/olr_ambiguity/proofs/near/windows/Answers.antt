use Rattle.olr_ambiguity.proofs.Common.{◌≡◌, ◌∙◌, ◌++◌, ◌∷◌, [], ℕ, ℤ, List, Some, inl, inr, sym, ap, subst, arith, Coord, leg, Window}
use Rattle.olr_ambiguity.proofs.Common.{cases_lt, Contains, Contains-push, decoded_coord, side_at, IsWindow, side_of, place_of}
use Rattle.olr_ambiguity.proofs.Common.{slice_get, coordinate_on, Contains-append_left, slice_get_within}
use Rattle.olr_ambiguity.proofs.near.windows.Goals as goal

some_same : {A : Type 0} {x y : A} → Some x ≡ Some y → x ≡ y
some_same e = cc

pub loop-k-preserved : goal.loop-k-preserved
loop-k-preserved g c = λ j x below at.
    let M = g.M.MapRead.map c.args.map.now in
    let r = c.args.reference.now in
    let xs = c.args.own.now in
    let k = c.loop-k.k in
    let old = c.loop-k.windows.items in
    let w = c.window_of.result in
    let o = c.own_line-own.result in
    let pushed : c.push.new.self.items ≡ old ++ w ∷ [] = c.in_ok-push.ensures.items in
    elim (cases_lt j k) [
      | inl before ↦
          let v = c.loop-k.invariant j x before at in
          (v.0, subst (λ (ws : List Window). Contains ws v.0) (sym pushed) (Contains-append_left old (w ∷ []) v.0 v.1), v.2)
      | inr last ↦
          let here : j ≡ k = omega (arith, below, last) in
          let id : o.id ≡ x = some_same (sym c.own_line-own.ensures.id ∙ ap (λ (n : ℕ). slice_get xs n) (sym here) ∙ at) in
          let place : place_of o.place ≡ decoded_coord r j = c.own_line-own.ensures.place ∙ ap (decoded_coord r) (sym here) in
          let side : side_of o.side ≡ side_at r j = c.own_line-own.ensures.side ∙ ap (side_at r) (sym here) in
          let node : o.here ≡ coordinate_on (side_at r j) (leg M x) =
          c.own_line-own.ensures.own.here_is ∙ (λ i. coordinate_on (side i) (leg M (id i))) in (
            w,
            subst (λ (ws : List Window). Contains ws w) (sym pushed) (Contains-push old w),
            subst (λ (p : ℤ × ℤ). IsWindow p (coordinate_on (side_at r j) (leg M x)) w) place
                (subst (λ (e : Coord). IsWindow (place_of o.place) e w) node c.window_of.ensures),
          )
    ]

pub returns : goal.returns
returns g c = λ k x at.
    c.loop-k.invariant k x
    (let lt = slice_get_within c.args.own.now k x at in let end = c.loop-k-test.false in omega arith) at
