-- Known coverage queries on an extended path: how one is found, and what it says there.
use Rattle.olr_refs.proofs.Common.{cases_lt, Contains, IsRoute, CountedTo, stretch, drop-drop, drop-take, take-take}
use Rattle.olr_refs.proofs.Common.{◌≡◌, IsKnownOfWith, Contains-here, All-contains, query_to_with, if◌then◌else◌, empty_stretch}
use Rattle.olr_refs.proofs.Common.{◌<◌, ◌≤◌, ℕ, true, false, List, Some, refl, subst, arith, IsMap, start, Found, Reuse, way_on}
use Rattle.olr_refs.proofs.Common.{◌-◌, ◌+◌, ◌∷◌, min, [], sym, ap, ◌∙◌, ◌↔◌, Map, end, Ok, Err, Bool, get_or_default}
use Rattle.olr_refs.proofs.Common.{IsBinarySearchResult, CoverageQuery, IsLastTestedWith, IsSearchInRange, get_or, Result}
use Rattle.olr_refs.proofs.Common.{IsTrue, length, IsReach, IsReuse, own_of, Margin, counted, slice_index}
use Rattle.olr_refs.proofs.Common.{length-take, length-drop, get_or-take, get_or-drop, CoveredWith, CountedRoute, nat_cmp}
use Rattle.olr_refs.proofs.Common.{AreJoined, KnownQuery, IsLastNear, IsAnswered, IsKnownWith, next_start}
use Rattle.std.specs.Result.{result_ok}
use Rattle.std.proofs.lemmas.Cmp.{ranked}
use Rattle.olr_spec.proofs.KnownLemmas.{one_end}
use Rattle.olr_refs.proofs.Reaching.{all_covered, covered_so_far}
use Rattle.olr_refs.proofs.Stretches.{stretch_sum}

-- ---- by the line where it begins

-- the one that was found begins there
pub found_at : (es : List KnownQuery) (x : ℕ) (r : Result ℕ ℕ) → IsBinarySearchResult (λ e. nat_cmp e.first x) es r →
    IsSearchInRange r (length es) → (k : ℕ) → Some k ≡ result_ok r → (d : KnownQuery) →
    Contains es (get_or es k d) × ((get_or es k d).first ≡ x)
found_at es x (Ok j) found inside k is d =
    let same : k ≡ j = cc in
    let h : k < length es = omega (arith, inside) in (
      (k, h, get_or_default es k (get_or es k d) d h),
      rw same (ranked (get_or es j d).first x _ (sym (found d))),
    )
found_at es x (Err j) found inside k is d = cc

-- ---- the path's own lines

own_line : (ls : List ℕ) (r : Reuse) (p : ℕ) → p < r.own → slice_index (own_of ls r) p ≡ slice_index ls (r.lead + p)
own_line ls r p h = grind (arith, get_or-take, get_or-drop)

own_length : (ls : List ℕ) (r : Reuse) → r.lead + r.own ≤ length ls → length (own_of ls r) ≡ r.own
own_length ls r h = grind (arith, length-take, length-drop)

own_stretch : (ls : List ℕ) (r : Reuse) (p q : ℕ) → p ≤ q → q ≤ r.own →
    stretch (own_of ls r) p q ≡ stretch ls (r.lead + p) (r.lead + q)
own_stretch ls r p q h k =
    let n : r.lead + r.own - r.lead ≡ p + (r.own - p) = omega arith in
    let long : r.lead + q - (r.lead + p) ≡ q - p = omega arith in
    rw (n, drop-take, long, drop-drop) (take-take (q - p) (r.own - p) _ (omega arith))

-- nothing is queried of the last line
covered_unique : (g : Margin) (M : Map) (ls : List ℕ) (i j : ℕ) → i < j → j < length ls → CoveredWith g M ls i j ↔ CountedTo g M ls i j
covered_unique g M ls i j h k = grind arith

-- ---- on the extended path

-- a query that begins after line i
module _ (g : Margin) (M : Map) (ls : List ℕ) (r : Reuse) (is : IsReuse g M ls r) (joined : AreJoined M ls) (i : ℕ) (e : KnownQuery)
    (begins : i + 1 ≡ r.lead + e.first) (order : e.first < e.last) (upto : e.last ≤ r.own)
    (within : r.lead + e.last < length ls) where
  abbrev from : ℕ
  from = end M (slice_index ls i)

  abbrev to : ℕ
  to = start M (slice_index ls (r.lead + e.last))

  part_is : (m : ℕ) → e.first ≤ m → m ≤ e.last → stretch ls (i + 1) (r.lead + m) ≡ stretch (own_of ls r) e.first m
  part_is m h k = ap (λ (n : ℕ). stretch ls n (r.lead + m)) begins ∙ sym (own_stretch ls r e.first m h (omega arith))

  way : IsRoute M from to (stretch (own_of ls r) e.first e.last)
  way = subst (IsRoute M from to) (part_is e.last (omega arith) (omega arith))
      (way_on M ls _ _ joined i (r.lead + e.last) (omega arith) within)

  -- what is right of the path's own lines is right there
  module _ (k : IsKnownWith g M (own_of ls r) e) where
    from_known : e.query.from ≡ from
    from_known =
        let own = own_of ls r in
        let none = subst (λ zs. IsRoute (counted g M zs) e.query.from (start M (slice_index own e.first)) zs) (empty_stretch own e.first e.first (omega arith))
        (k.before e.first (omega arith) order).route in
        none ∙ ap (start M) (own_line ls r e.first (omega arith) ∙ ap (slice_index ls) (sym begins))
        ∙ sym (next_start M _ _ ls i joined (omega arith))

    query_known : e.query ≡ query_to_with g M ls i (r.lead + e.last)
    query_known = grind (arith, from_known, one_end, way, part_is)

    before_known : (m : ℕ) → e.first ≤ m → m < e.last → CountedTo g M ls i (r.lead + m)
    before_known m h below = grind (arith, own_line, from_known, part_is)

    covered_known : IsTrue e.covered ↔ CountedTo g M ls i (r.lead + e.last)
    covered_known = grind (arith, part_is, from_known, one_end, way)

  -- and the other way round
  module _ (tested : IsLastTestedWith g M ls i (r.lead + e.last)) (query : e.query ≡ query_to_with g M ls i (r.lead + e.last))
      (covered : IsTrue e.covered ↔ CoveredWith g M ls i (r.lead + e.last)) where
    is_known : IsKnownWith g M (own_of ls r) e
    is_known =
        let from_is : from ≡ e.query.from = sym (ap (λ (q : CoverageQuery). q.from) query) in
        let to_is : to ≡ e.query.to = sym (ap (λ (q : CoverageQuery). q.to) query) in
        let long = own_length ls r is.inside in
        record {
          order = order;
          upto = omega arith;
          route = grind (arith, way);
          within = grind (arith, part_is);
          before = λ m h below.
              let there = (covered_unique g M ls i (r.lead + m) (omega arith) (omega arith)).0
              (tested.before (r.lead + m) (omega arith) (omega arith)) in
              let line = sym (own_line ls r m (omega arith)) in
              coe 0 1 (j. CountedRoute g M (from_is j) (start M (line j)) (part_is m h (omega arith) j)) there;
          covered = grind (arith, part_is);
        }

-- a known query ends at the position `end`, the last that can be tested; or before it, if its last position is not covered
abbrev EndsHere : ℕ → ℕ → KnownQuery → Type 0
EndsHere lead end e = (lead + e.last ≤ end) × (IsTrue e.covered → lead + e.last ≡ end)

-- a known query that ends at the last position that is tested
module _ (g : Margin) (M : Map) (m : IsMap M) (ls : List ℕ) (r : Reuse) (is : IsReuse g M ls r) (joined : AreJoined M ls) (i last_near : ℕ)
    (some : i + 1 < length ls) (is_last_near : IsLastNear M ls i last_near) (e : KnownQuery) (listed : Contains r.known.now e)
    (begins : i + 1 ≡ r.lead + e.first) (ends : EndsHere r.lead (min last_near (length ls - 1)) e) where
  right : IsKnownWith g M (own_of ls r) e
  right = All-contains (IsKnownWith g M (own_of ls r)) r.known.now e is.known listed

  order : e.first < e.last
  order = right.order

  upto : e.last ≤ r.own
  upto = let long = own_length ls r is.inside in let inside = right.upto in omega arith

  within : r.lead + e.last < length ls
  within = let short = ends.0 in omega arith

  unique : IsTrue e.covered ↔ CountedTo g M ls i (r.lead + e.last)
  unique = covered_known g M ls r is joined i e begins order upto within right

  found : (b : Bool) → e.covered ≡ b → IsReach g M ls i (if b then last_near else r.lead + e.last - 1)
      × IsLastTestedWith g M ls i (r.lead + e.last)
  found true t =
      let all = ends.1 t in
      all_covered g M m ls i last_near joined is_last_near (r.lead + e.last) some (omega (arith, order)) (unique.0 t)
  found false f =
      let ascends = order in
      let short = ends.0 in
      let k = r.lead + (e.last - 1) in
      let last : r.lead + e.last ≡ k + 1 = omega arith in
      let reach : r.lead + e.last - 1 ≡ k = omega arith in
      let no_more : ¬ CountedTo g M ls i (k + 1) = λ u. let t : e.covered ≡ true = unique.1 (rw last u) in cc in
      rw (reach, last) (covered_so_far g M m ls i last_near joined is_last_near k (omega arith) (omega arith)
      (before_known g M ls r is joined i e begins order upto within right (e.last - 1) (omega arith) (omega arith)) no_more)

  pub answered_known : (f : Found) → f.reach ≡ (if e.covered then last_near else r.lead + e.last - 1) → f.query ≡ e.query →
      f.own ≡ Some e → IsAnswered g M ls r i f
  answered_known f reach query own =
      let there = found e.covered refl in
      record {
        reach = rw reach there.0;
        query = (r.lead + e.last, there.1, query ∙ query_known g M ls r is joined i e begins order upto within right);
        own = rw (own, query) record { among = Contains-here e.query []; right = right };
      }

-- ---- the query that a search found

-- a position that is tested is covered if it is one of those that are covered and near enough
covered_if : (g : Margin) (M : Map) (ls : List ℕ) (i reach last : ℕ) → IsReach g M ls i reach → IsLastTestedWith g M ls i last → i + 1 < last
    → (b : Bool) → (b ≡ true → last ≤ reach) → (last ≤ reach → b ≡ true) → IsTrue b ↔ CoveredWith g M ls i last
covered_if g M ls i reach last r t order b f is = ((λ h. (r.within last (omega arith) (f h)).0), back)
  where
    back : CoveredWith g M ls i last → b ≡ true
    back c = let n = t.needed in
        let inside = t.inside in grind (arith, cases_lt reach last, r.beyond last, stretch_sum M ls i last)

pub own_at : (g : Margin) (M : Map) (ls : List ℕ) (r : Reuse) → IsReuse g M ls r → AreJoined M ls → (i reach last : ℕ) (e : KnownQuery) →
    IsReach g M ls i reach → IsLastTestedWith g M ls i last → r.lead ≤ i + 1 → i + 1 < last → last ≤ r.lead + r.own →
    e.query ≡ query_to_with g M ls i last → e.first ≡ i + 1 - r.lead → e.last ≡ last - r.lead →
    (e.covered ≡ true → last ≤ reach) → (last ≤ reach → e.covered ≡ true) → IsKnownOfWith g M (own_of ls r) (e.query ∷ []) e
own_at g M ls r is joined i reach last e near t leads order upto query first ends f t_is =
    let same : last ≡ r.lead + e.last = omega arith in
    let inside = t.inside in
    record {
      among = Contains-here e.query [];
      right = is_known g M ls r is joined i e (omega arith) (omega arith) (omega arith) (omega arith)
          (subst (IsLastTestedWith g M ls i) same t) (query ∙ ap (query_to_with g M ls i) same)
          (subst (λ (k : ℕ). IsTrue e.covered ↔ CoveredWith g M ls i k) same
          (covered_if g M ls i reach last near t order e.covered f t_is));
    }
