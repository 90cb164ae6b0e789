-- The positions that are covered, by one route along the lines after a position, where these count longer.
use Rattle.olr_refs.proofs.Common.{cases_lt, ◌≡◌, ◌==◌, ◌<◌, ◌≤◌, ◌-◌, ◌+◌, ◌*◌, ℕ, min, max, Bool, List, [], ◌∷◌, ◌++◌, length}
use Rattle.olr_refs.proofs.Common.{ap, sym, subst, ◌∙◌, arith, inl, inr, cases_order, IsTrue, ◌↔◌, slice_index, Map, IsMap}
use Rattle.olr_refs.proofs.Common.{start, end, dm, has_line, IsRoute, dm_of, limit, AreJoined, stretch, CoveredWith, CountedTo}
use Rattle.olr_refs.proofs.Common.{IsLastTestedWith, dm_of-append, stretch_parts, Along, Dijkstra, IsSearch, limit_of}
use Rattle.olr_refs.proofs.Common.{IsLastNear, IsReach, UniqueShortest, Needed, empty_unique, stretch_last, ResolvedLine}
use Rattle.olr_refs.proofs.Common.{record_of, cases_eq, ne_eqb, cond, refl, true, has_node, cases_Bool, cond_both, begun_at}
use Rattle.olr_refs.proofs.Common.{MayMark, label_of, Each-range, next_start, way_between, Margin, is_margin, counted}
use Rattle.olr_refs.proofs.Common.{counted_dm, counted_dm_of, CountedRoute, empty_stretch, counted_nil, counted_start}
use Rattle.olr_search.specs.Lengths.{MayCount}
use Rattle.olr_spec.proofs.ElsewhereLemmas.{counted_part}
use Rattle.olr_refs.proofs.Counting.{own_same, line_counts, sum_counts, unique_more, end_ahead, starts_settled}
use Rattle.olr_refs.proofs.Joined.{known_at}
use Rattle.olr_refs.proofs.LegLemmas.{joined_known}
use Rattle.olr_refs.proofs.Stretches.{stretch_sum}

pub unique_start : (g : Margin) (M : Map) → IsMap M → (ls : List ℕ) (i : ℕ) → AreJoined M ls → i + 1 < length ls →
    CountedTo g M ls i (i + 1)
unique_start g M m ls i w h =
    rw (empty_stretch ls (i + 1) (i + 1) (omega arith), ← next_start M _ _ ls i w h, counted_nil) (empty_unique M m (end M (slice_index ls i)))

-- a shorter route along the same lines is a unique shortest path too
unique_shorter : (g : Margin) (M : Map) → IsMap M → (ls : List ℕ) (i j k : ℕ) → AreJoined M ls → i < j → j ≤ k → k < length ls →
    CountedTo g M ls i k → CountedTo g M ls i j
unique_shorter g M m ls i j k w h upto inside r =
    let s = end M (slice_index ls i) in
    let whole : CountedRoute g M s (start M (slice_index ls k)) (stretch ls (i + 1) j ++ stretch ls j k) =
    subst (CountedRoute g M s (start M (slice_index ls k))) (stretch_parts ls (i + 1) j k (omega arith) upto) r in
    let first : IsRoute M s (start M (slice_index ls j)) (stretch ls (i + 1) j) =
    rw (next_start M _ _ ls i w (omega arith)) (way_between M _ _ ls (i + 1) j w (omega arith) (omega arith)) in
    counted_part g M (inr m) s _ _ (stretch ls (i + 1) j) (stretch ls j k) whole first (way_between M _ _ ls j k w upto inside)

-- one line more
pub stretch_longer : (M : Map) (ls : List ℕ) (p k : ℕ) → p ≤ k → k < length ls →
    dm_of M (stretch ls p (k + 1)) ≡ dm_of M (stretch ls p k) + dm M (slice_index ls k)
stretch_longer M ls p k h inside = grind (arith, stretch_last, dm_of-append)

-- ---- what is covered

module _ (g : Margin) (M : Map) (m : IsMap M) (ls : List ℕ) (i last_near : ℕ) (w : AreJoined M ls) (f : IsLastNear M ls i last_near) where
  -- no position is needed after those that are within the limit
  pub needed_most : (k : ℕ) → Needed M ls i k → k ≤ min last_near (length ls - 1)
  needed_most k n = grind (arith, cases_order)

  pub needed_last_near : (k : ℕ) → i < last_near → k ≤ min last_near (length ls - 1) → Needed M ls i k
  needed_last_near k h upto = let from = f.from in (last_near, f.upto, f.near last_near h (omega arith), upto)

  pub near_after : (k : ℕ) → i < k → k ≤ last_near → dm_of M (stretch ls (i + 1) k) ≤ limit
  near_after k h upto = omega (arith, f.near k h upto, stretch_sum M ls i (i + 1) k (omega arith) (omega arith))

  pub line_near : (k : ℕ) → i < k → k < last_near → dm M (slice_index ls k) ≤ limit
  line_near k h below =
      let upto = f.upto in
      omega (arith, near_after (k + 1) (omega arith) (omega arith), stretch_longer M ls (i + 1) k (omega arith) (omega arith))

  -- a position is covered if the lines up to it, without the last line, are the unique shortest path
  before : (k j : ℕ) → k < length ls → CountedTo g M ls i k → min j (length ls - 1) ≤ k → CoveredWith g M ls i j
  before k j h r le = λ lt. unique_shorter g M m ls i (min j (length ls - 1)) k w lt le h r

  -- the lines after i are the unique shortest path as far as the limit allows
  reach_last_near : (i + 1 ≤ min last_near (length ls - 1) → CountedTo g M ls i (min last_near (length ls - 1))) → IsReach g M ls i last_near
  reach_last_near r =
      record {
        from = f.from;
        upto = f.upto;
        within = λ j a b.
            ((λ lt. before (min last_near (length ls - 1)) j (omega arith) (r (omega arith)) (omega arith) lt), f.near j a b);
        beyond = λ j a b c. f.beyond j a b;
      }

  -- if at most one line follows line i, there is nothing between
  pub reach_near_end : i < length ls → length ls ≤ i + 2 → IsReach g M ls i last_near
  reach_near_end h few = reach_last_near (λ le. let e : min last_near (length ls - 1) ≡ i + 1 = omega arith in
      rw e (unique_start g M m ls i w (omega arith)))

  -- every position is covered
  pub all_covered : (k : ℕ) → i + 1 < length ls → k ≡ max (min last_near (length ls - 1)) (i + 1) → CountedTo g M ls i k →
      IsReach g M ls i last_near × IsLastTestedWith g M ls i k
  all_covered k h e r = (
    reach_last_near (λ le. let same : min last_near (length ls - 1) ≡ k = omega arith in rw same r),
    record {
      after = omega arith;
      inside = omega arith;
      before = λ n a b. before k n (omega arith) r (omega arith);
      needed = elim (cases_lt (i + 1) last_near) [
        | inl lt ↦ inr (needed_last_near k (omega arith) (omega arith))
        | inr ge ↦ inl (omega arith)
      ];
      last = inr (λ n p. omega (arith, needed_most n p));
    },
  )

  -- line k does not extend the unique shortest path
  pub covered_so_far : (k : ℕ) → i < k → k < min last_near (length ls - 1) → CountedTo g M ls i k → ¬ CountedTo g M ls i (k + 1) →
      IsReach g M ls i k × IsLastTestedWith g M ls i (k + 1)
  covered_so_far k h short r no_more =
      let next : min (k + 1) (length ls - 1) ≡ k + 1 = omega arith in (
        record {
          from = omega arith;
          upto = omega arith;
          within = λ j a b. (before k j (omega arith) r (omega arith), f.near j a (omega arith));
          beyond = λ j a b c. elim (cases_lt last_near j) [
            | inl lt ↦ f.beyond j lt b
            | inr ge ↦
                absurd (no_more (unique_shorter g M m ls i (k + 1) (min j (length ls - 1)) w (omega arith) (omega arith)
                (omega arith) (c (omega arith))))
          ];
        },
        record {
          after = omega arith;
          inside = omega arith;
          before = λ n a b. before k n (omega arith) r (omega arith);
          needed = inr (needed_last_near (k + 1) (omega arith) (omega arith));
          last = inl (λ c. no_more (rw next at (c (omega arith))));
        },
      )

-- ---- the search

begun_low : (g : Margin) → begun_at g ≤ 1
begun_low g = cond_both (g.routes == 0) 0 1 (λ n. n ≤ 1) (λ _. omega arith) (λ _. omega arith)

-- the search is settled up to line k, and b says whether the lines after line i up to there are the unique shortest path
pub record Tests (g : Margin) (M : Map) (slot : ℕ → ℕ) (ls : List ℕ) (i k within : ℕ) (b : Bool) (s : Dijkstra) : Type 0 where
  pub search : IsSearch (counted g M (stretch ls (i + 1) k)) slot Along ((end M (slice_index ls i), begun_at g) ∷ []) s
  pub settled : limit_of s ≡ within
  pub long : within ≡ counted_dm_of g M (stretch ls (i + 1) k)
  pub small : within ≤ 2 * dm_of M (stretch ls (i + 1) k)
  pub whether : IsTrue b ↔ CountedTo g M ls i k

pub tests_start : (g : Margin) (M : Map) → IsMap M → (slot : ℕ → ℕ) (ls : List ℕ) (i : ℕ) (s : Dijkstra) → AreJoined M ls →
    i + 1 < length ls → IsSearch M slot Along ((end M (slice_index ls i), begun_at g) ∷ []) s → limit_of s ≡ 0 →
    Tests g M slot ls i (i + 1) 0 true s
tests_start g M m slot ls i s w h search at_source =
    let none = sym (empty_stretch ls (i + 1) (i + 1) (omega arith)) in
    record {
      search = subst (λ zs. IsSearch (counted g M zs) slot Along ((end M (slice_index ls i), begun_at g) ∷ []) s) none
          (subst (λ K. IsSearch K slot Along ((end M (slice_index ls i), begun_at g) ∷ []) s) (sym (counted_nil g M)) search);
      settled = at_source;
      long = ap (counted_dm_of g M) none;
      small = omega arith;
      whether = ((λ _. unique_start g M m ls i w h), λ _. refl);
    }

-- line k, as it is read with the length that it counts
pub record IsLine (g : Margin) (M : Map) (slot : ℕ → ℕ) (ls : List ℕ) (k : ℕ) (line : ResolvedLine) : Type 0 where
  pub value : line ≡ record (record_of M slot (slice_index ls k)) { len = counted_dm g (dm M (slice_index ls k)) }
  pub most : line.len ≤ 2 * dm M (slice_index ls k)

module _ (g : Margin) (M : Map) (m : IsMap M) (slot : ℕ → ℕ) (ls : List ℕ) (w : AreJoined M ls) (i k : ℕ) (after : i < k)
    (inside : k + 1 < length ls) (line : ResolvedLine) (is : IsLine g M slot ls k line) (within : ℕ) (old : Dijkstra)
    (t : Tests g M slot ls i k within true old) where
  abbrev x : ℕ
  x = slice_index ls k

  abbrev front : List ℕ
  front = stretch ls (i + 1) k

  abbrev from : ℕ
  from = end M (slice_index ls i)

  x_known : IsTrue (has_line M x)
  x_known = known_at M ls k w (omega arith)

  longer : stretch ls (i + 1) (k + 1) ≡ front ++ x ∷ []
  longer = stretch_last ls (i + 1) k (omega arith) (omega arith)

  long_on : within + line.len ≡ counted_dm_of g M (stretch ls (i + 1) (k + 1))
  long_on = rw longer (omega (
    arith,
    t.long,
    ap (λ (r : ResolvedLine). r.len) is.value,
    sum_counts g M front x (Each-range (λ y. IsTrue (has_line M y)) ls (i + 1) k (joined_known M ls w)) x_known,
  ))

  pub small_on : within + line.len ≤ 2 * dm_of M (stretch ls (i + 1) (k + 1))
  small_on = omega (arith, t.small, is.most, stretch_longer M ls (i + 1) k (omega arith) (omega arith))

  -- from now on line k may count longer
  pub may_mark : IsTrue (is_margin g) → MayMark g M slot front ((from, begun_at g) ∷ []) line old
  may_mark margin = (
    elim (cases_eq g.routes 0) [
      | inl none ↦ inl none
      | inr some ↦
          let K = counted g M front in
          let later : begun_at g ≡ 1 = ap (λ b. cond b 0 1) (ne_eqb g.routes 0 some) in
          let s = subst (λ b. IsSearch K slot Along ((from, b) ∷ []) old) later t.search in
          let far : limit_of old ≡ dm_of K front = t.settled ∙ t.long in
          let node : (v : ℕ) → IsTrue (has_node M v) → IsTrue (has_node K v) = λ v there. grind (arith, cases_Bool (g.routes == 0)) in
          let same : (y : ℕ) → label_of old.frontier (slot (start K y)) ≡ label_of old.frontier (slot (start M y)) =
          λ y. ap (λ v. label_of old.frontier (slot v)) (counted_start g M front y) in
          inr (at_x record {
            margin = margin;
            known = x_known;
            at = refl;
            len = refl;
            ahead = end_ahead K slot from (start M x) front old s (t.whether.0 refl) far
                (node (start M x) (m.starts x x_known));
            settled = λ y on.
                omega (arith, same y, starts_settled K slot from (start M x) front old s (t.whether.0 refl) far y on);
          })
    ],
    t.search,
  )
    where
      at_x : MayCount M slot g front (record (record_of M slot x) { len = counted_dm g (dm M x) }) old →
          MayCount M slot g front line old
      at_x = subst (λ r. MayCount M slot g front r old) (sym is.value)

  id_is : line.id ≡ x
  id_is = ap (λ (r : ResolvedLine). r.id) is.value

  -- the search goes on as far as line k ends, and b is read
  pub goes_on_to : (new : Dijkstra) → IsSearch (counted g M (front ++ line.id ∷ [])) slot Along ((from, begun_at g) ∷ []) new →
      (n : ℕ) → n ≡ within + line.len → limit_of new ≡ max (limit_of old) n → (b : Bool) →
      ((h : Margin) (s c : ℕ) (route : List ℕ) →
      IsSearch (counted h M (route ++ line.id ∷ [])) slot Along ((s, c) ∷ []) new →
      line.len ≡ dm (counted h M (route ++ line.id ∷ [])) line.id →
      UniqueShortest (counted h M (route ++ line.id ∷ [])) s (start M line.id) route →
      c + (dm_of (counted h M (route ++ line.id ∷ [])) route + line.len) ≤ limit_of new + 1 →
      (IsTrue b ↔ UniqueShortest (counted h M (route ++ line.id ∷ [])) s (end M line.id) (route ++ line.id ∷ []))) →
      Tests g M slot ls i (k + 1) n b new
  goes_on_to new search n sum far b f =
      let settled : limit_of new ≡ n = omega (arith, far, sum, t.settled) in
      let next = next_start M _ _ ls k w inside in
      let there : UniqueShortest (counted g M (front ++ line.id ∷ [])) from (start M line.id) front =
      subst (λ y. UniqueShortest (counted g M (front ++ line.id ∷ [])) from (start M y) front) (sym id_is)
      (unique_more g M front (line.id ∷ []) from (start M x) (t.whether.0 refl)) in
      let counts : line.len ≡ dm (counted g M (front ++ line.id ∷ [])) line.id =
      ap (λ (r : ResolvedLine). r.len) is.value
      ∙ sym (subst (λ y. dm (counted g M (front ++ y ∷ [])) y ≡ counted_dm g (dm M x)) (sym id_is)
      (line_counts g M front x x_known)) in
      let as_long = own_same g M front (line.id ∷ []) front
      (Each-range (λ y. IsTrue (has_line M y)) ls (i + 1) k (joined_known M ls w)) (λ y on. on) in
      record {
        search = subst (λ zs. IsSearch (counted g M zs) slot Along ((from, begun_at g) ∷ []) new)
            (ap (λ y. front ++ y ∷ []) id_is ∙ sym longer) search;
        settled = settled;
        long = sum ∙ long_on;
        small = omega (arith, sum, small_on);
        whether = coe 0 1 (j. IsTrue b ↔ UniqueShortest (counted g M (sym longer j)) from (next j) (sym longer j))
            (subst (λ y. IsTrue b ↔ UniqueShortest (counted g M (front ++ y ∷ [])) from (end M y) (front ++ y ∷ [])) id_is
            (f g from (begun_at g) front search counts there (omega (arith, t.long, as_long, sum, settled, begun_low g))));
      }
