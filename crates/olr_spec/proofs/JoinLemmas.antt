-- The routes between the remaining LRPs join to the extended path.
use Rattle.olr_spec.proofs.Common.{Margin, CountedRoute, IsSoundFor, inl, inr, ◌≡◌, ℕ, ◌+◌, ◌-◌, min, Bool, true, ◌&&◌, List}
use Rattle.olr_spec.proofs.Common.{◌∷◌, ◌++◌, length, take, drop, ◌<◌, ◌≤◌, refl, ap, ◌∙◌, subst, arith, nat_le, length-drop}
use Rattle.olr_spec.proofs.Common.{◌↔◌, [], leb-true, le-leb, get_or-drop, slice_index, filter, cases_eq, and_parts, and_from}
use Rattle.olr_spec.proofs.Common.{nat_tests, take_more, ⊤, Map, start, end, UniqueShortest, stretch, CoveredWith}
use Rattle.olr_spec.proofs.Common.{CandidateWith, FollowWith, JoinsTo, JoinsLast, drop_more, Joins, sym, kept_points, legs}
use Rattle.olr_spec.proofs.Common.{first_kept, last_kept, cases_Bool, AnswerLaws, LawOf}
use Rattle.olr_spec.proofs.RouteLemmas.{IsRoute-split}
use Rattle.olr_spec.proofs.AnswerLemmas.{Next-candidate}
use Rattle.olr_spec.proofs.ListLemmas.{Each, Each-tail, has_here, has_there, has_filter}
use Rattle.olr_spec.proofs.CountedLemmas.{counted_zero, route_counted}
use Rattle.olr_spec.proofs.ElsewhereLemmas.{counted_unique, counted_part}

-- ---- parts of a list

pub stretch_first : (ls : List ℕ) (p q : ℕ) → p < q → p < length ls → stretch ls p q ≡ slice_index ls p ∷ stretch ls (p + 1) q
stretch_first ls p q h k = grind (arith, drop_more)

pub stretch_last : (ls : List ℕ) (p q : ℕ) → p ≤ q → q < length ls →
    stretch ls p (q + 1) ≡ stretch ls p q ++ slice_index ls q ∷ []
stretch_last ls p q h k =
    let n : q + 1 - p ≡ q - p + 1 = omega arith in
    let on : p + (q - p) ≡ q = omega arith in
    grind (arith, take_more, length-drop, get_or-drop)

pub empty_stretch : (ls : List ℕ) (p q : ℕ) → q ≤ p → stretch ls p q ≡ []
empty_stretch ls p q h = let e : q - p ≡ 0 = omega arith in ap (λ (n : ℕ). take n (drop p ls)) e

-- ---- one leg

-- the lines between line p and line k are the unique shortest path
abbrev pub RouteTo : Map → List ℕ → ℕ → ℕ → Type 0
RouteTo M ls p k = UniqueShortest M (end M (slice_index ls p)) (start M (slice_index ls k)) (stretch ls (p + 1) k)

-- the same where these lines count longer
abbrev pub CountedTo : Margin → Map → List ℕ → ℕ → ℕ → Type 0
CountedTo g M ls p k = CountedRoute g M (end M (slice_index ls p)) (start M (slice_index ls k)) (stretch ls (p + 1) k)

pub covered_to : (g : Margin) (M : Map) (ls : List ℕ) (p q k : ℕ) → min q (length ls - 1) ≡ k → p < k → CoveredWith g M ls p q →
    CountedTo g M ls p k
covered_to g M ls p q k is lt c = coe 0 1 (i. p < is i → CountedTo g M ls p (is i)) c lt

-- what is so on M where the lines from position a to position b count longer is so on K
abbrev pub Carries : Margin → Map → Map → List ℕ → ℕ → ℕ → Type 0
Carries g M K ls a b = (p k : ℕ) → a ≤ p → p < k → k < b → k < length ls → CountedTo g M ls p k → RouteTo K ls p k

pub carries_here : (g : Margin) (M : Map) → IsSoundFor g M → (ls : List ℕ) (a b : ℕ) → Carries g M M ls a b
carries_here g M sound ls a b p k from lt to h c = grind (arith, sound, counted_zero, counted_unique)

alone : (M : Map) (ls : List ℕ) (p q : ℕ) → q ≡ p + 1 → p < length ls → JoinsLast M ls p q
alone M ls p q e h = grind (arith, stretch_first, empty_stretch)

-- up to line k, the last of the leg
joins_before : (M : Map) (ls : List ℕ) (p k : ℕ) → p < k → k < length ls → RouteTo M ls p k → JoinsLast M ls p (k + 1)
joins_before M ls p k h g r =
    let last : k + 1 - 1 ≡ k = omega arith in
    let parts = stretch_first ls p (k + 1) (omega arith) (omega arith)
    ∙ ap (λ (zs : List ℕ). slice_index ls p ∷ zs) (stretch_last ls (p + 1) k (omega arith) g) in
    grind (arith)

-- from line p to the last line of a leg of several lines
pub counted_last : (g : Margin) (M : Map) → IsSoundFor g M → (ls : List ℕ) (p k : ℕ) → p < k → CandidateWith g M ls p (k + 1) → CountedTo g M ls p k
counted_last g M sound ls p k lt c =
    elim (cases_eq (k + 1) (length ls)) [
      | inl whole ↦ covered_to g M ls p (k + 1) k (omega arith) lt c.covered
      | inr within ↦
          let s = end M (slice_index ls p) in
          let t = start M (slice_index ls (k + 1)) in
          let xs = stretch ls (p + 1) k in
          let x = slice_index ls k in
          let parts : stretch ls (p + 1) (k + 1) ≡ xs ++ x ∷ [] = stretch_last ls (p + 1) k (omega arith) (omega (arith, c.upto)) in
          let u = subst (CountedRoute g M s t) parts (covered_to g M ls p (k + 1) (k + 1) (omega (arith, c.upto)) c.after c.covered) in
          let ends = IsRoute-split M s t xs (x ∷ []) (route_counted g M (xs ++ x ∷ []) s t (xs ++ x ∷ []) u.route) in
          subst (λ (v : ℕ). CountedRoute g M s v xs) (sym ends.2.1) (counted_part g M sound s ends.0 t xs (x ∷ []) u ends.1 ends.2)
    ]

module _ (g : Margin) (M K : Map) (sound : IsSoundFor g M) (ls : List ℕ) (a b : ℕ) (carries : Carries g M K ls a b) where
  pub joins_to : (p q : ℕ) → a ≤ p → q < b → q < length ls → CandidateWith g M ls p q → JoinsTo K ls p q
  joins_to p q from to h c =
      grind (arith, stretch_first, carries p q from c.after to h (covered_to g M ls p q q (omega arith) c.after c.covered))

  pub joins_last : (p q : ℕ) → a ≤ p → q ≤ b → CandidateWith g M ls p q → JoinsLast K ls p q
  joins_last p q from to c = elim (cases_eq q (p + 1)) [
    | inl e ↦ alone K ls p q e (omega arith)
    | inr ne ↦
        let k = q - 1 in
        let on : k + 1 ≡ q = omega arith in
        subst (JoinsLast K ls p) on (joins_before K ls p k (omega arith) (omega arith) (carries p k from (omega arith)
        (omega arith) (omega arith) (counted_last g M sound ls p k (omega arith) (subst (CandidateWith g M ls p) (sym on) c))))
  ]

-- ---- all legs

-- each LRP is a candidate after the one before
abbrev pub LinkedWith : Margin → Map → List ℕ → List ℕ → Type 0
LinkedWith g M ls (p ∷ q ∷ ks) = CandidateWith g M ls p q × LinkedWith g M ls (q ∷ ks)
LinkedWith g M ls _ = ⊤

pub follow_linked_with : (g : Margin) (M : Map) (ls : List ℕ) (i : ℕ) (js : List ℕ) → FollowWith g M ls i js → LinkedWith g M ls (i ∷ js)
follow_linked_with g M ls i [] f = tt
follow_linked_with g M ls i (j ∷ js) f = (Next-candidate M ls i j f.0, follow_linked_with g M ls j js f.1)

pub linked_joins : (g : Margin) (M K : Map) → IsSoundFor g M → (ls : List ℕ) (a b : ℕ) → Carries g M K ls a b → (ks : List ℕ) →
    LinkedWith g M ls ks → Each (λ k. a ≤ k) ks → Each (λ k. k ≤ b) ks → Joins K ls ks
linked_joins g M K sound ls a b carries [] h above below = tt
linked_joins g M K sound ls a b carries (p ∷ []) h above below = tt
linked_joins g M K sound ls a b carries (p ∷ q ∷ []) h above below =
    joins_last g M K sound ls a b carries p q (above p (has_here p (q ∷ []))) (below q (has_there p (q ∷ []) q (has_here q []))) h.0
linked_joins g M K sound ls a b carries (p ∷ q ∷ r ∷ ks) h above below =
    let up = below r (has_there p (q ∷ r ∷ ks) r (has_there q (r ∷ ks) r (has_here r ks))) in
    let next = h.1.0.after in (
      joins_to g M K sound ls a b carries p q (above p (has_here p (q ∷ r ∷ ks))) (omega (arith, next, up))
          (omega (arith, next, h.1.0.upto)) h.0,
      linked_joins g M K sound ls a b carries (q ∷ r ∷ ks) h.1 (Each-tail (λ k. a ≤ k) p (q ∷ r ∷ ks) above)
          (Each-tail (λ k. k ≤ b) p (q ∷ r ∷ ks) below),
    )

abbrev pub between : ℕ → ℕ → ℕ → Bool
between a b i = nat_le a i && nat_le i b

pub between_is : (a b i : ℕ) → (between a b i ≡ true) ↔ ((a ≤ i) × (i ≤ b))
between_is a b i = grind (arith, and_parts, leb-true, and_from, le-leb)

-- no LRP after b remains
none_beyond : (g : Margin) (M : Map) (ls : List ℕ) (a b p : ℕ) (ks : List ℕ) → b < p → LinkedWith g M ls (p ∷ ks) → filter (between a b) ks ≡ []
none_beyond g M ls a b p [] h l = refl
none_beyond g M ls a b p (q ∷ ks) h l = grind (arith, none_beyond g M ls a b q ks (omega arith) l.1, nat_tests)

pub kept_linked_with : (g : Margin) (M : Map) (ls : List ℕ) (a b : ℕ) (ks : List ℕ) → LinkedWith g M ls ks → LinkedWith g M ls (filter (between a b) ks)
kept_linked_with g M ls a b [] l = tt
kept_linked_with g M ls a b (p ∷ []) l = grind (arith, cases_Bool (between a b p))
kept_linked_with g M ls a b (p ∷ q ∷ ks) l =
    let rest = kept_linked_with g M ls a b (q ∷ ks) l.1 in
    grind (arith, rest, none_beyond g M ls a b q ks, cases_Bool (between a b p), cases_Bool (between a b q), nat_tests)

pub kept_joins : (g : Margin) (M K : Map) → IsSoundFor g M → (ls js : List ℕ) (positive negative : ℕ) →
    Carries g M K ls (first_kept (legs M ls) positive js) (last_kept (legs M ls) negative js) → FollowWith g M ls 0 js →
    Joins K ls (kept_points (legs M ls) positive negative js)
kept_joins g M K sound ls js positive negative carries f =
    let a = first_kept (legs M ls) positive js in
    let b = last_kept (legs M ls) negative js in
    let kept = has_filter (between a b) (0 ∷ js) in
    linked_joins g M K sound ls a b carries (kept_points (legs M ls) positive negative js)
    (kept_linked_with g M ls a b (0 ∷ js) (follow_linked_with g M ls 0 js f)) (λ k h. grind (arith, kept k h, between_is a b k))
    (λ k h. grind (arith, kept k h, between_is a b k))

pub routes_join : (g : Margin) → LawOf (λ (l : AnswerLaws g). l.routes_join)
routes_join g M sound ls js positive negative f e =
    kept_joins g M M sound ls js positive negative
    (carries_here g M sound ls (first_kept (legs M ls) positive js) (last_kept (legs M ls) negative js)) f
