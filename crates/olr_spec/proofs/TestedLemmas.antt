-- A path has exactly one list of coverage queries, and they determine its footprint.
use Rattle.olr_spec.proofs.Common.{QueriesOfExtendedWith, TraversedOfExtended, IsLastTestedWith, extended_path, CoverageQuery}
use Rattle.olr_spec.proofs.Common.{query_to_with, MatchOption, arith, cases_order, CoveredWith, IsQueryWith, path_fault}
use Rattle.olr_spec.proofs.Common.{Traversed, IsMap, Contains, cases_lt, cases_eq, Greatest, querying, ltb-true, is_path}
use Rattle.olr_spec.proofs.Common.{stretch, Margin, length, IsTrue, dec_le, AllZip, Needed, nat_lt, lt-ltb, dm_of, limit, subst}
use Rattle.olr_spec.proofs.Common.{zero, true, List, None, refl, Path, Sees, Near, inl, inr, ◌≡◌, suc, ◌+◌, ◌-◌, min, ◌∷◌, ◌<◌}
use Rattle.olr_spec.proofs.Common.{◌≤◌, sym, ◌∙◌, ◌⊎◌, Map, has, ap, [], ℕ, T, QueryLaws, LawOf}
use Rattle.olr_spec.specs.Footprint.{On_start_run, Within_reach, TouchedWith, On_end_run, FootOfWith, On_path}
use Rattle.olr_spec.proofs.Facts.{Contains-later, Contains-cases, empty_stretch, Contains-here, has_filter, filter_has, path_at}
use Rattle.olr_spec.proofs.Facts.{path_also, has_there, near_same, has_cases, by_fault, has_here, same_by}
use Rattle.olr_spec.proofs.DecideLemmas.{greatest_or_none, some_encoding, dec_Covered, some_follow, dec_and}

-- ---- lists, of which each element of one has one of the other

module _ {X : Type 0} (R S : ℕ → X → Type 0) where
  pub zip_moves : (is : List ℕ) (xs : List X) → ((i : ℕ) (x : X) → Contains xs x → R i x → S i x) → AllZip R is xs
      → AllZip S is xs
  zip_moves [] [] f z = tt
  zip_moves (i ∷ is) (x ∷ xs) f z =
      (f i x (Contains-here x xs) z.0, zip_moves is xs (λ j y c. f j y (Contains-later x y xs c)) z.1)
  zip_moves _ _ f z = absurd z

module _ {X : Type 0} (R : ℕ → X → Type 0) where
  pub zip_right : (is : List ℕ) (xs : List X) → AllZip R is xs → (i : ℕ) → has is i ≡ true → (x : X) × Contains xs x × R i x
  zip_right [] xs z i h = absurd cc
  zip_right (j ∷ is) [] z i h = absurd z
  zip_right (j ∷ is) (x ∷ xs) z i h = grind (arith, zip_right is xs z.1 i, has_cases, Contains-here, Contains-later)

  pub zip_left : (is : List ℕ) (xs : List X) → AllZip R is xs → (x : X) → Contains xs x → (i : ℕ) × IsTrue (has is i) × R i x
  zip_left [] [] z x c = absurd (omega arith)
  zip_left (j ∷ is) (y ∷ xs) z x c = grind (arith, zip_left is xs z.1 x, Contains-cases, has_here, has_there)
  zip_left _ _ z x c = absurd z

-- ---- the LRPs with a coverage query

pub queries_here : (ls is : List ℕ) (i : ℕ) → has (querying ls is) i ≡ true → IsTrue (has is i) × (i + 2 < length ls)
queries_here ls is i h = grind (arith, has_filter, ltb-true)

pub query_for : (g : Margin) (M : Map) (ls is : List ℕ) (queries : List CoverageQuery) →
    AllZip (IsQueryWith g M ls) (querying ls is) queries → (i : ℕ)
    → has is i ≡ true → i + 2 < length ls → (l : CoverageQuery) × Contains queries l × IsQueryWith g M ls i l
query_for g M ls is queries z i h far = zip_right (IsQueryWith g M ls) (querying ls is) queries z i
    (filter_has (λ y. nat_lt (y + 2) (length ls)) is i h (lt-ltb (i + 2) (length ls) far))

pub query_from_with : (g : Margin) (M : Map) (ls is : List ℕ) (queries : List CoverageQuery) →
    AllZip (IsQueryWith g M ls) (querying ls is) queries → (l : CoverageQuery) → Contains queries l
    → (i : ℕ) × IsTrue (has is i) × (i + 2 < length ls) × IsQueryWith g M ls i l
query_from_with g M ls is queries z l c =
    let r = zip_left (IsQueryWith g M ls) (querying ls is) queries z l c in
    let p = queries_here ls is r.0 r.1 in
    (r.0, p.0, p.1, r.2)

-- ---- the last position that is tested

no_later : {g : Margin} (M : Map) (ls : List ℕ) (i j k : ℕ) → IsLastTestedWith g M ls i j → IsLastTestedWith g M ls i k → ¬ (j < k)
no_later M ls i j k p q lt = elim p.last [
  | inl bare ↦ bare (q.before j p.after lt)
  | inr all ↦ grind (arith, q.needed, all k)
]

pub one_last_tested_with : (g : Margin) → LawOf (λ (l : QueryLaws g). l.one_last_tested)
one_last_tested_with g M ls i j k p q = grind (arith, cases_order j k, no_later {g = g} M ls i j k, no_later {g = g} M ls i k j)

-- from position i + 1 on, where f is the farthest position that is near enough
module _ (g : Margin) (M : Map) (m : IsMap M) (ls : List ℕ) (i f : ℕ)
    (far : Greatest (λ j. (j ≤ length ls) × (dm_of M (stretch ls i j) ≤ limit)) f) where
  abbrev most : ℕ
  most = min f (length ls - 1)

  test_on : (fuel k : ℕ) → length ls ≤ k + fuel → i < k → k < length ls → ((j : ℕ) → i < j → j < k → CoveredWith g M ls i j)
      → (k ≡ i + 1) ⊎ Needed M ls i k → (j : ℕ) × IsLastTestedWith g M ls i j
  test_on zero k u a h before n = absurd (omega arith)
  test_on (suc fuel) k u a h before n =
      let found : (¬ CoveredWith g M ls i k) ⊎ ((j : ℕ) → Needed M ls i j → j ≤ k) → (j : ℕ) × IsLastTestedWith g M ls i j =
      λ l. (k, record { after = a; inside = h; before = before; needed = n; last = l }) in
      elim (dec_Covered g M m ls i k) [
        | no bare ↦ found (inl bare)
        | yes c ↦ elim (cases_lt k most) [
          | inr done ↦ found (inr (λ j w. omega (arith, far.others w.0 (w.1, w.2))))
          | inl more ↦ test_on fuel (k + 1) (omega arith) (omega arith) (omega arith)
              (λ j b before_k. grind (arith, cases_eq j k, c, before j b))
              (inr (f, far.holds.0, far.holds.1, omega arith))
        ]
      ]

pub some_last_tested : (g : Margin) → LawOf (λ (l : QueryLaws g). l.some_last_tested)
some_last_tested g M m ls i h =
    let Near_enough : ℕ → Type 0 = λ j. (j ≤ length ls) × (dm_of M (stretch ls i j) ≤ limit) in
    elim (greatest_or_none Near_enough (λ j. dec_and (dec_le j (length ls)) (dec_le (dm_of M (stretch ls i j)) limit))
    (suc (length ls)) (λ k n. omega arith)) [
      | inl far ↦ test_on g M m ls i far.0 far.1 (length ls) (i + 1) (omega arith) (omega arith) h
          (λ j b l. absurd (omega arith)) (inl refl)
      | inr none ↦
          let empty : dm_of M (stretch ls i i) ≡ 0 = ap (dm_of M) (empty_stretch ls i i (omega arith)) in
          absurd (none i (omega arith, omega arith))
    ]

-- ---- the coverage queries

pub one_query : {g : Margin} (M : Map) (ls : List ℕ) (i : ℕ) (k l : CoverageQuery) → IsQueryWith g M ls i k → IsQueryWith g M ls i l → k ≡ l
one_query {g} M ls i k l p q = p.2 ∙ ap (query_to_with g M ls i) (one_last_tested_with g M ls i p.0 q.0 p.1 q.1) ∙ sym q.2

one_zip : (g : Margin) (M : Map) (ls is : List ℕ) (ks hs : List CoverageQuery) → AllZip (IsQueryWith g M ls) is ks → AllZip (IsQueryWith g M ls) is hs
    → ks ≡ hs
one_zip g M ls [] [] [] p q = refl
one_zip g M ls (i ∷ is) (k ∷ ks) (h ∷ hs) p q = λ j. one_query M ls i k h p.0 q.0 j ∷ one_zip g M ls is ks hs p.1 q.1 j
one_zip g M ls _ _ _ p q = grind arith

some_zip : (g : Margin) (M : Map) → IsMap M → (ls is : List ℕ) → ((i : ℕ) → has is i ≡ true → i + 2 < length ls)
    → (queries : List CoverageQuery) × AllZip (IsQueryWith g M ls) is queries
some_zip g M m ls [] h = ([], tt)
some_zip g M m ls (i ∷ is) h =
    let k = some_last_tested g M m ls i (omega (arith, h i (has_here i is))) in
    let rest = some_zip g M m ls is (λ j on. h j (has_there i is j on)) in
    (query_to_with g M ls i k.0 ∷ rest.0, ((k.0, k.1, refl), rest.1))

module _ (g : Margin) (M : Map) (m : IsMap M) (P : Path) (is : IsTrue (is_path P.lines)) (sound : path_fault M P ≡ None) where
  some_list : (queries : List CoverageQuery) × QueriesOfExtendedWith g M P queries
  some_list =
      let p = (some_encoding g M m P is sound).1 in
      let ls = (extended_path M P p.before p.after).lines in
      let z = some_zip g M m ls (querying ls (0 ∷ p.points)) (λ i on. (queries_here ls (0 ∷ p.points) i on).1) in
      (z.0, path_also p z.1)

  -- the footprint
  foot_there : (queries : List CoverageQuery) → QueriesOfExtendedWith g M P queries → (v : ℕ) → FootOfWith g M P v
      → TraversedOfExtended M P v ⊎ ((l : CoverageQuery) × Contains queries l × Sees M l v)
  foot_there queries o v f =
      let traversed : Traversed M (extended_path M P o.before o.after).lines o.before o.after v → TraversedOfExtended M P v =
      λ h. record { before = o.before; after = o.after; tried = o.tried; traversed = h } in
      elim (path_at m is sound o f) [
        | On_path n ↦ inl (traversed (inl n))
        | On_start_run n ↦ inl (traversed (inr (inl n)))
        | On_end_run n ↦ inl (traversed (inr (inr n)))
        | Within_reach (i, on, far, (q, query, sees)) ↦
            let l = query_for g M _ (0 ∷ o.points) queries o.holds i on far in
            inr (l.0, l.1, subst (λ (k : CoverageQuery). Sees M k v) (one_query M _ i q l.0 query l.2) sees)
      ]

  foot_here : (queries : List CoverageQuery) → QueriesOfExtendedWith g M P queries → (v : ℕ)
      → TraversedOfExtended M P v ⊎ ((l : CoverageQuery) × Contains queries l × Sees M l v) → FootOfWith g M P v
  foot_here queries o v (inl p) =
      let ls = (extended_path M P p.before p.after).lines in
      let js = some_follow g M m ls (length ls) 0 (omega arith) in
      let touched : TouchedWith g M ls p.before p.after js.0 v = grind arith in
      search (p.tried, js.1, touched) depth 6
  foot_here queries o v (inr r) =
      let i = query_from_with g M ((extended_path M P o.before o.after).lines) (0 ∷ o.points) queries o.holds r.0 r.1 in
      path_also o (Within_reach (i.0, i.1, i.2, (r.0, i.3, r.2)))

-- ---- whether or not the path has a fault

pub one_queries_with : (g : Margin) → LawOf (λ (l : QueryLaws g). l.one_queries)
one_queries_with g M m P is ks ls = same_by (path_fault M P) (QueriesOfExtendedWith g M P) (λ _. []) ks ls
    (λ e p q. one_zip g M (extended_path M P p.before p.after).lines _ ks ls p.holds (path_at m is e p q))

pub some_queries : (g : Margin) → LawOf (λ (l : QueryLaws g). l.some_queries)
some_queries g M m P is =
    by_fault M P (λ o. (queries : List CoverageQuery) × MatchOption o (QueriesOfExtendedWith g M P queries) (λ _. queries ≡ []))
    (some_list g M m P is) (λ r. ([], refl))

pub foot_queried_with : (g : Margin) → LawOf (λ (l : QueryLaws g). l.foot_is_queried)
foot_queried_with g M m P is queries o v = grind (arith, by_fault, foot_there g M m P is, foot_here g M m P is)

-- ---- what touched nodes affect

pub foot_affected_with : (g : Margin) → LawOf (λ (l : QueryLaws g). l.foot_affected)
foot_affected_with g M N m T round P is queries o = (
  (λ f. elim ((foot_queried_with g M m P is queries o f.0).0 f.2) [
    | inl traversed ↦ inl (f.0, f.1, traversed)
    | inr (l, on, r) ↦
        let n : Near M T l.from l.within = record { node = f.0; route = r.0; touched = f.1; leads = r.1; within = r.2 } in
        inr (l, on, (near_same M N T round l.from l.within).0 n)
  ]),
  elim [
    | inl traversed ↦ (traversed.0, traversed.1, (foot_queried_with g M m P is queries o traversed.0).1 (inl traversed.2))
    | inr (l, on, r) ↦
        let n = (near_same M N T round l.from l.within).1 r in
        (n.node, n.touched, (foot_queried_with g M m P is queries o n.node).1 (inr (l, on, (n.route, n.leads, n.within))))
  ],
)
