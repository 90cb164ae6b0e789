-- Routes, split at their last line.
use Rattle.olr_search.proofs.Common.{◌≡◌, ℕ, ◌+◌, List, [], ◌∷◌, ◌++◌, IsTrue, refl, ap, ◌∙◌, subst, arith, ◌≢◌, ◌≤◌, inl, inr}
use Rattle.olr_search.proofs.Common.{cases_eq, cases_lt, Map, has_line, start, end, dm, IsRoute, dm_of, UniqueShortest}
use Rattle.olr_search.proofs.Common.{dm_of-append, IsRoute-append, IsRoute-split, same_from_push}
use Rattle.olr_spec.proofs.DecideLemmas.{last_of_list}

pub same_last : (xs ys : List ℕ) (x y : ℕ) → xs ++ x ∷ [] ≡ ys ++ y ∷ [] → x ≡ y
same_last xs ys x y e = (same_from_push xs ys x y e).1

-- a list is empty, or ends with an element
pub data Ends (xs : List ℕ) : Type 0 where
  empty : xs ≡ [] → Ends xs
  ended : (front : List ℕ) (x : ℕ) → xs ≡ front ++ x ∷ [] → Ends xs

pub ends_of : (xs : List ℕ) → Ends xs
ends_of [] = empty refl
ends_of (x ∷ xs) = let k = last_of_list x xs in ended k.0 k.1 k.2

pub dm_of-line : (M : Map) (xs : List ℕ) (x : ℕ) → dm_of M (xs ++ x ∷ []) ≡ dm_of M xs + dm M x
dm_of-line M xs x = omega (arith, dm_of-append M xs (x ∷ []))

-- a route that is extended by a line, and back
pub route_on : (M : Map) (s x : ℕ) (xs : List ℕ) → IsRoute M s (start M x) xs → IsTrue (has_line M x) →
    IsRoute M s (end M x) (xs ++ x ∷ [])
route_on M s x xs w k = IsRoute-append M s (start M x) (end M x) xs (x ∷ []) w (k, refl, refl)

pub record LastStep (M : Map) (s t x : ℕ) (xs : List ℕ) : Type 0 where
  pub front : IsRoute M s (start M x) xs
  pub known : IsTrue (has_line M x)
  pub to : end M x ≡ t

pub last_step : (M : Map) (s t x : ℕ) (xs : List ℕ) → IsRoute M s t (xs ++ x ∷ []) → LastStep M s t x xs
last_step M s t x xs w = grind (arith, IsRoute-split)

-- ---- a line x after the unique shortest route to its start

module _ (M : Map) (s x : ℕ) (route : List ℕ) where
  -- by no other line is there a route to the end of x that is as short
  abbrev pub IsAlone : Type 0
  IsAlone =
      (y : ℕ) (front : List ℕ) → IsTrue (has_line M y) → end M y ≡ end M x → IsRoute M s (start M y) front →
      dm_of M front + dm M y ≤ dm_of M route + dm M x → y ≡ x

  pub unique_on : IsTrue (has_line M x) → UniqueShortest M s (start M x) route → s ≢ end M x → IsAlone →
      UniqueShortest M s (end M x) (route ++ x ∷ [])
  unique_on line unique apart alone = record {
    route = route_on M s x route unique.route line;
    others = λ ys w ne. elim (ends_of ys) [
      | empty none ↦ absurd (apart (subst (λ (zs : List ℕ). IsRoute M s (end M x) zs) none w))
      | ended front z is ↦
          let step = last_step M s (end M x) z front (subst (λ (zs : List ℕ). IsRoute M s (end M x) zs) is w) in
          let total = dm_of-line M route x in
          let parts : dm_of M ys ≡ dm_of M front + dm M z = ap (dm_of M) is ∙ dm_of-line M front z in
          elim (cases_lt (dm_of M route + dm M x) (dm_of M ys)) [
            | inl far ↦ omega arith
            | inr near ↦
                let same : z ≡ x = alone z front step.known step.to step.front (omega arith) in
                let each : dm M z ≡ dm M x = ap (dm M) same in
                let less =
                unique.others front (subst (λ (n : ℕ). IsRoute M s (start M n) front) same step.front)
                (λ e. ne (is ∙ ap (λ (zs : List ℕ). zs ++ z ∷ []) e ∙ ap (λ (n : ℕ). route ++ n ∷ []) same)) in
                absurd (omega arith)
          ]
    ];
  }

  -- and only then
  pub unique_alone : UniqueShortest M s (end M x) (route ++ x ∷ []) → IsAlone
  unique_alone whole y front known to w le = grind (arith, cases_eq, front, to, route_on, known, same_last, dm_of-line)
