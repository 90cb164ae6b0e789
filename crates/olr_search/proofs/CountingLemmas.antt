-- The map as it counts for one line more, as a search sees it.
use Rattle.olr_search.proofs.Common.{◌≡◌, ◌≢◌, ◌↔◌, ℕ, ◌+◌, ◌<◌, ◌≤◌, List, [], ◌∷◌, ◌++◌, IsTrue, true, ap, sym, subst, inl}
use Rattle.olr_search.proofs.Common.{inr, arith, ◌∙◌, refl, cases_eq, Map, IsMap, has_node, has_line, has, start, end, dm}
use Rattle.olr_search.proofs.Common.{label_of, IsSearch, Along, Dijkstra, IsOver, IsSearchedAs, MayCount, AreFit, ◌==◌, cond}
use Rattle.olr_search.proofs.Common.{ne_eqb, positive, line_short, UniqueShortest, IsOnlyPredecessor, Frontier, IsRoute}
use Rattle.olr_search.proofs.Common.{IsRoute-split, dm_of, dm_of-append, length, length-append, cases_Bool, eq-eqb, false≢true}
use Rattle.olr_search.proofs.Common.{append_assoc, Margin, counted, counted_dm, is_margin, ResolvedLine}
use Rattle.std.proofs.Math.Nat.{mul-le-mul_left}
use Rattle.std.proofs.lemmas.List.Folds.{list_any-append}
use Rattle.olr_spec.proofs.CountedLemmas.{counted_known, counted_start, counted_end, counted_other, counted_own, counted_least}
use Rattle.olr_spec.proofs.CountedLemmas.{get_counted}
use Rattle.olr_search.proofs.RouteEnds.{last_step}
use Rattle.olr_search.proofs.MarkLemmas.{marked}
use Rattle.olr_search.proofs.UniqueLemmas.{reported}

-- as long as it counts, where the other lines are as on the map
abbrev pub with_own : ResolvedLine → ℕ → ℕ → ℕ
with_own own x d = cond (x == own.id) own.len d

counted_node : (g : Margin) (M : Map) (xs : List ℕ) (v : ℕ) → has_node (counted g M xs) v ≡ has_node M v
counted_node g M xs v = grind (arith, cases_Bool (g.routes == 0))

pub counted_is_over : (g : Margin) (M : Map) (xs : List ℕ) → IsOver M (counted g M xs)
counted_is_over g M xs =
    grind (arith, counted_node g M xs, counted_known g M xs, counted_start g M xs, counted_end g M xs)

counted_over : (g : Margin) (M : Map) (xs ys : List ℕ) → IsOver (counted g M xs) (counted g M ys)
counted_over g M xs ys = grind (arith, counted_node, counted_known, counted_start, counted_end)

one_more : (xs : List ℕ) (x own : ℕ) → x ≢ own → has (xs ++ own ∷ []) x ≡ has xs x
one_more xs x own other = grind (arith, list_any-append, ne_eqb, cases_Bool (has xs x))

last_one : (xs : List ℕ) (own : ℕ) → has (xs ++ own ∷ []) own ≡ true
last_one xs own = grind (arith, list_any-append, cases_Bool (has xs own))

-- a line that is no more among them than before
same_length : (g : Margin) (M : Map) (xs ys : List ℕ) (x : ℕ) → has ys x ≡ has xs x → dm (counted g M ys) x ≡ dm (counted g M xs) x
same_length g M xs ys x same =
    grind (arith, get_counted g M xs x, get_counted g M ys x, cases_Bool (has xs x), cases_Bool (has_line M x), cases_Bool (g.routes == 0))

module _ (M : Map) (slot : ℕ → ℕ) (g : Margin) (xs : List ℕ) (own : ResolvedLine) (s : Dijkstra) (may : MayCount M slot g xs own s)
  where
    own_length : dm (counted g M (xs ++ own.id ∷ [])) own.id ≡ own.len
    own_length = counted_own g M (xs ++ own.id ∷ []) own.id may.known (last_one xs own.id) ∙ sym may.len

    pub searched_as : IsSearchedAs M (counted g M (xs ++ own.id ∷ [])) slot Along (with_own own) s.frontier (s.limit + 1)
    searched_as = record {
      over = counted_is_over g M (xs ++ own.id ∷ []);
      long = λ x known far. elim (cases_eq x own.id) [
        | inl same ↦
            subst (λ y. dm (counted g M (xs ++ own.id ∷ [])) y ≡ cond (y == own.id) own.len (dm M y)) (sym same)
            (own_length ∙ ap (λ b. cond b own.len (dm M own.id)) (sym (eq-eqb own.id own.id refl)))
        | inr other ↦ elim (cases_Bool (has xs x)) [
          | inl on ↦ let near = may.settled x on in absurd (omega arith)
          | inr off ↦
              counted_other g M (xs ++ own.id ∷ []) x (one_more xs x own.id other ∙ off)
              ∙ ap (λ b. cond b own.len (dm M x)) (sym (ne_eqb x own.id other))
        ]
      ];
    }

    pub may_go_on : (from : List (ℕ × ℕ)) → IsSearch (counted g M xs) slot Along from s →
        IsSearch (counted g M (xs ++ own.id ∷ [])) slot Along from s
    may_go_on from h =
        marked (counted g M xs) (counted g M (xs ++ own.id ∷ [])) slot Along from s h (counted_over g M xs (xs ++ own.id ∷ [])) own.id
        (λ x other. same_length g M xs (xs ++ own.id ∷ []) x (one_more xs x own.id other))
        (elim (cases_Bool (has xs own.id)) [
          | inl on ↦ omega (arith, same_length g M xs (xs ++ own.id ∷ []) own.id (last_one xs own.id ∙ sym on))
          | inr off ↦ omega (arith, counted_other g M xs own.id off, counted_least g M (xs ++ own.id ∷ []) own.id may.known)
        ])
        (subst (λ w. s.limit < label_of s.frontier (slot w)) (sym (counted_start g M xs own.id))
        (subst (λ p. s.limit < label_of s.frontier p) may.at may.ahead))

pub with_own_fits : (M : Map) → IsMap M → (g : Margin) → IsTrue (is_margin g) → (own : ResolvedLine) → IsTrue (has_line M own.id) →
    own.len ≡ counted_dm g (dm M own.id) → AreFit (with_own own)
with_own_fits M m g ok own known is x d some short =
    let low = positive M m own.id known in
    let high = line_short M m own.id known in
    let few : g.routes ≤ 1000 = grind (arith, is_margin) in
    let most = mul-le-mul_left (dm M own.id) few in
    elim (cases_eq x own.id) [
      | inl same ↦ grind (arith, eq-eqb)
      | inr other ↦ grind (arith, ne_eqb)
    ]

-- ---- whether a line extends the unique shortest path

split_at : (xs : List ℕ) (y : ℕ) → has xs y ≡ true → (front : List ℕ) × (rest : List ℕ) × (xs ≡ front ++ y ∷ rest)
split_at [] y on = absurd (false≢true on)
split_at (x ∷ xs) y on = elim (cases_eq x y) [
  | inl same ↦ ([], xs, ap (λ z. z ∷ xs) same)
  | inr other ↦
      let later = split_at xs y (grind (arith, ne_eqb)) in
      (x ∷ later.0, later.1, ap (λ zs. x ∷ zs) later.2)
]

module _ (g : Margin) (M : Map) (slot : ℕ → ℕ) (x : ℕ) (route : List ℕ) (known : IsTrue (has_line M x)) where
  abbrev N : Map
  N = counted g M (route ++ x ∷ [])

  -- no line of the route ends where x does, since the route as far as there would be shorter
  passed : (s y : ℕ) → has route y ≡ true → end N y ≡ end N x → UniqueShortest N s (end N x) (route ++ x ∷ []) → ⊥
  passed s y on ends whole =
      let k = split_at route y on in
      let all : route ++ x ∷ [] ≡ (k.0 ++ y ∷ []) ++ (k.1 ++ x ∷ []) = grind (arith, append_assoc) in
      let w = IsRoute-split N s (end N x) (k.0 ++ y ∷ []) (k.1 ++ x ∷ []) (subst (IsRoute N s (end N x)) all whole.route) in
      let step = last_step N s w.0 y k.0 w.1 in
      let here = subst (λ v. IsRoute N s v (k.0 ++ y ∷ [])) (sym step.to ∙ ends) w.1 in
      let some = dm_of-append N (k.0 ++ y ∷ []) (k.1 ++ x ∷ []) in
      let total = ap (dm_of N) all in
      let less = whole.others (k.0 ++ y ∷ []) here
      (λ same. let many = ap (λ (zs : List ℕ). length zs) (same ∙ all) in
      omega (arith, length-append (k.0 ++ y ∷ []) (k.1 ++ x ∷ []), length-append k.1 (x ∷ []))) in
      omega arith

  -- lines count at least as long as they are
  only_counted : (f : Frontier) (length : ℕ) → IsOnlyPredecessor M slot f x (end M x) length →
      IsOnlyPredecessor N slot f x (end N x) length
  only_counted f length only y there ends le =
      let line = subst IsTrue (counted_known g M (route ++ x ∷ []) y) there in
      let more = counted_least g M (route ++ x ∷ []) y line in
      let start = ap (λ v. label_of f (slot v)) (counted_start g M (route ++ x ∷ []) y) in
      only y line (sym (counted_end g M (route ++ x ∷ []) y) ∙ ends ∙ counted_end g M (route ++ x ∷ []) x) (omega arith)

  only_on_map : (f : Frontier) (s length : ℕ) → UniqueShortest N s (end N x) (route ++ x ∷ []) → IsOnlyPredecessor N slot f x (end N x) length →
      IsOnlyPredecessor M slot f x (end M x) length
  only_on_map f s length whole only y line to le = elim (cases_eq y x) [
    | inl same ↦ same
    | inr other ↦
        let there = subst IsTrue (sym (counted_known g M (route ++ x ∷ []) y)) line in
        let ends = counted_end g M (route ++ x ∷ []) y ∙ to ∙ sym (counted_end g M (route ++ x ∷ []) x) in
        elim (cases_Bool (has route y)) [
          | inl on ↦ absurd (passed s y on ends whole)
          | inr off ↦
              let same = counted_other g M (route ++ x ∷ []) y (one_more route y x other ∙ off) in
              let start = ap (λ v. label_of f (slot v)) (counted_start g M (route ++ x ∷ []) y) in
              only y there ends (omega arith)
        ]
  ]

  -- the result, by what the code reads of the labels
  pub reported_as : (s b : ℕ) (q : Dijkstra) → IsSearch N slot Along ((s, b) ∷ []) q → (len : ℕ) → len ≡ dm N x →
      UniqueShortest N s (start M x) route → b + (dm_of N route + len) ≤ q.limit + 1 → (near length : ℕ) →
      near ≡ label_of q.frontier (slot (start M x)) → length ≡ label_of q.frontier (slot (end M x)) →
      ((near + len ≡ length) × IsOnlyPredecessor M slot q.frontier x (end M x) length)
      ↔ UniqueShortest N s (end M x) (route ++ x ∷ [])
  reported_as s b q h len is unique short near length is_near is_length =
      let xs = route ++ x ∷ [] in
      let from = counted_start g M xs x in
      let to = counted_end g M xs x in
      let line = subst IsTrue (sym (counted_known g M xs x)) known in
      let k =
      reported N slot s b q h route x line (subst (λ v. UniqueShortest N s v route) (sym from) unique) (omega arith) near length
      (is_near ∙ ap (λ v. label_of q.frontier (slot v)) (sym from))
      (is_length ∙ ap (λ v. label_of q.frontier (slot v)) (sym to)) in (
        λ read. subst (λ v. UniqueShortest N s v xs) to (k.0 (omega (arith, read.0), only_counted q.frontier length read.1)),
        λ whole.
            let here = subst (λ v. UniqueShortest N s v xs) (sym to) whole in
            let both = k.1 here in
            (omega (arith, both.0), only_on_map q.frontier s length here both.1),
      )
