-- Labels that no line improves are those of shortest paths.
use Rattle.olr_spec.proofs.Common.{refl, ◌⊎◌, ◌≡◌, ℕ, ◌+◌, List, ◌∷◌, ◌++◌, reverse, ◌<◌, ◌≤◌, Option, Some, IsTrue}
use Rattle.olr_spec.proofs.Common.{[], sym, subst, arith, append-nil, append_assoc, cases_lt, cases_eq, Map, IsMap, has_line}
use Rattle.olr_spec.proofs.Common.{start, end, dm, IsRoute, dm_of, FirstSmaller, PrecedesInTieOrder, Least}
use Rattle.olr_spec.proofs.Facts.{dm_of-append, nothing_below_nil, not_before_itself}
use Rattle.olr_spec.specs.Routes.{Settled}
use Rattle.olr_spec.proofs.RouteLemmas.{last_first}

module _ (M : Map) (m : IsMap M) (s limit : ℕ) (dist : ℕ → Option ℕ) (trace : ℕ → List ℕ)
    (l : Settled M s limit dist trace) where
  -- v has a label, and the route ys doesn't precede that of the label
  abbrev Fine : ℕ → List ℕ → Type 0
  Fine v ys = (e : ℕ) × (dist v ≡ Some e) × (¬ PrecedesInTieOrder M ys (trace v))

  last_decides : (front : List ℕ) (y v x : ℕ) → trace v ≡ trace (start M x) ++ x ∷ [] →
      FirstSmaller (reverse (front ++ y ∷ [])) (reverse (trace v)) → (y < x)
      ⊎ ((y ≡ x) × FirstSmaller (reverse front) (reverse (trace (start M x))))
  last_decides front y v x is h = grind (arith, last_first)

  step : (front : List ℕ) (y : ℕ) → IsTrue (has_line M y) → dm_of M front + dm M y ≤ limit → Fine (start M y) front →
      Fine (end M y) (front ++ y ∷ [])
  step front y k short fine =
      let w = l.routes (start M y) fine.0 fine.1 in
      let near : fine.0 ≤ dm_of M front = grind (arith, cases_lt) in
      let c = l.closed (start M y) fine.0 y fine.1 k refl (omega arith) in
      let traversed = l.routes (end M y) c.0 c.1 in
      let long = dm_of-append M front (y ∷ []) in (
        c.0,
        c.1,
        λ b. grind (
          arith,
          b,
          c.2,
          cases_eq (end M y) s,
          nothing_below_nil,
          last_decides front y (end M y),
          l.steps (end M y) c.0 c.1,
          fine.2,
        ),
      )

  fine_on : (ys : List ℕ) (u v : ℕ) (front : List ℕ) → Fine u front → IsRoute M u v ys →
      dm_of M front + dm_of M ys ≤ limit → Fine v (front ++ ys)
  fine_on [] u v front f w h = subst (Fine v) (sym (append-nil front)) (subst (λ (x : ℕ). Fine x front) w f)
  fine_on (y ∷ ys) u v front f w h = grind (arith, fine_on ys, step, append_assoc, dm_of-append)

  fine : (v : ℕ) (ys : List ℕ) → IsRoute M s v ys → dm_of M ys ≤ limit → Fine v ys
  fine v ys w h = fine_on ys s v []
      (0, l.source, λ b. not_before_itself M [] (subst (PrecedesInTieOrder M []) l.at_source b)) w (omega arith)

  -- a route within the limit ends at a labelled node
  pub labelled : (v : ℕ) (ys : List ℕ) → IsRoute M s v ys → dm_of M ys ≤ limit → (e : ℕ) × (dist v ≡ Some e)
  labelled v ys w h = let f = fine v ys w h in (f.0, f.1)

  pub traced_least : (v d : ℕ) → dist v ≡ Some d → Least M s v (trace v)
  traced_least v d e = grind (arith, fine, cases_lt)
