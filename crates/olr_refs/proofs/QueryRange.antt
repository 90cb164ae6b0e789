-- Where a coverage query begins, and how long it is at most.
use Rattle.olr_refs.proofs.Common.{length}
use Rattle.olr_refs.proofs.Common.{QueriesOfExtendedWith, CoverageQuery, QueriesOfWith, List, extended_path, counted_dm_of}
use Rattle.olr_refs.proofs.Common.{query_to_with, dm_of-append, cases_Bool, counted, path_fault, counted_dm, is_margin, and_parts}
use Rattle.olr_refs.proofs.Common.{nat_tests, Contains, None, has_line, has_node, IsTrue, Margin, Needed, arith, false, dm_of, limit}
use Rattle.olr_refs.proofs.Common.{Path, Map, IsMap, inl, inr, [], ◌==◌, ◌+◌, ◌∷◌, ◌<◌, ◌≡◌, ◌≤◌, ◌⊎◌, has, ◌*◌, ap, dm, ℕ}
use Rattle.olr_refs.proofs.Common.{is_path, sym, subst, slice_index, empty_stretch, stretch_parts, stretch, counted_zero, counted_own}
use Rattle.olr_refs.proofs.Joined.{known_at}
use Rattle.olr_spec.specs.Queries.{IsQueryWith}
use Rattle.olr_spec.proofs.CountedLemmas.{get_counted, counted_other}
use Rattle.olr_spec.proofs.JoinedLemmas.{extended_joined}
use Rattle.olr_spec.proofs.TestedLemmas.{query_from_with}
use Rattle.std.proofs.Math.Nat.{mul-le-mul_left}

-- with a margin lines count at most twice as long
abbrev pub IsShort : Margin → ℕ → Type 0
IsShort g len = (g.routes ≡ 0 → len ≤ limit) × (len ≤ 2 * limit)

-- a line that isn't on the map counts nothing
counted_absent : (g : Margin) (M : Map) (xs : List ℕ) (y : ℕ) → has_line M y ≡ false → dm (counted g M xs) y ≡ dm M y
counted_absent g M xs y off = grind (arith, get_counted g M xs y, cases_Bool (has xs y), cases_Bool (g.routes == 0))

module _ (g : Margin) (most : IsTrue (is_margin g)) where
  routes_most : g.routes ≤ 1000
  routes_most = grind (arith, nat_tests, and_parts)

  twice : (len : ℕ) → counted_dm g len ≤ 2 * len
  twice len =
      let p : len * g.routes ≤ len * 1000 = mul-le-mul_left len routes_most in
      omega arith

  line_twice : (M : Map) (xs : List ℕ) (y : ℕ) → dm (counted g M xs) y ≤ 2 * dm M y
  line_twice M xs y =
      let known = cases_Bool (has_line M y) in
      let own = cases_Bool (has xs y) in
      grind (arith, counted_absent, counted_own, counted_other, twice (dm M y), known, own)

  lines_twice : (M : Map) (xs ys : List ℕ) → dm_of (counted g M xs) ys ≤ 2 * dm_of M ys
  lines_twice M xs [] = omega arith
  lines_twice M xs (y ∷ ys) = omega (arith, line_twice M xs y, lines_twice M xs ys)

  counted_within : (M : Map) (xs : List ℕ) → dm_of M xs ≤ limit → IsShort g (counted_dm_of g M xs)
  counted_within M xs short = (
    λ none. let same = ap (λ (K : Map). dm_of K xs) (counted_zero g M xs none) in omega arith,
    omega (arith, lines_twice M xs xs),
  )

  module _ (M : Map) (ls : List ℕ) (i : ℕ) (l : CoverageQuery) where
    by_need : (k : ℕ) → i < k → l ≡ query_to_with g M ls i k → (k ≡ i + 1) ⊎ Needed M ls i k → IsShort g l.within
    by_need k after is need =
        let long : l.within ≡ counted_dm_of g M (stretch ls (i + 1) k) = ap (λ (x : CoverageQuery). x.within) is in
        subst (IsShort g) (sym long) (counted_within M (stretch ls (i + 1) k) (elim need [
          | inl e ↦
              let none : stretch ls (i + 1) k ≡ [] = empty_stretch ls (i + 1) k (omega arith) in
              let zero_long : dm_of M (stretch ls (i + 1) k) ≡ 0 = ap (dm_of M) none in
              omega arith
          | inr need ↦
              let below : k ≤ need.0 = omega (arith, need.3) in
              let first = stretch_parts ls i (i + 1) need.0 (omega arith) (omega arith) in
              let second = stretch_parts ls (i + 1) k need.0 (omega arith) below in
              let near = rw (first, dm_of-append, second, dm_of-append) at need.2 in
              omega (arith, near)
        ]))

  -- a query of a path, which is encodable if it has one
  module _ (M : Map) (P : Path) (queries : List CoverageQuery) (o : QueriesOfWith g M P queries) (l : CoverageQuery)
      (on : Contains queries l) where
    whole : (path_fault M P ≡ None) × QueriesOfExtendedWith g M P queries
    whole = let lt = on.1 in grind arith

    abbrev ls : List ℕ
    ls = (extended_path M P whole.1.before whole.1.after).lines

    queried : (i : ℕ) × IsTrue (has (0 ∷ whole.1.points) i) × (i + 2 < length ls) × IsQueryWith g M ls i l
    queried = query_from_with g M ls (0 ∷ whole.1.points) queries whole.1.holds l on

    pub query_short : IsShort g l.within
    query_short = let q = queried.3 in by_need M ls queried.0 l q.0 q.1.after q.2 q.1.needed

    pub query_begins : IsMap M → IsTrue (is_path P.lines) → IsTrue (has_node M l.from)
    query_begins m is =
        let joined = extended_joined M P is whole.0 whole.1.before whole.1.after whole.1.tried in
        subst (λ (v : ℕ). IsTrue (has_node M v)) (sym (ap (λ (x : CoverageQuery). x.from) queried.3.2))
        (m.ends (slice_index ls queried.0) (known_at M ls queried.0 joined (omega (arith, queried.2))))
