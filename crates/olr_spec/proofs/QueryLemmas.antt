-- If the routes that an LRP's coverage query tests are the same, since it is clear of changes or two maps agree on the
-- nodes that it reaches, then the same positions after the LRP are covered on both maps.
use Rattle.olr_spec.proofs.Common.{Margin, counted, counted_dm_of, CountedRoute, IsSoundFor, inl, inr, ◌≡◌, ℕ, ◌+◌, ◌-◌, min}
use Rattle.olr_spec.proofs.Common.{List, ◌++◌, length, ◌<◌, ◌≤◌, sym, ap, subst, arith, drop-drop, ◌↔◌, slice_index, cases_lt}
use Rattle.olr_spec.proofs.Common.{Map, start, end, SameLine, SameRound, IsRoute, dm_of, Reaches, limit, stretch, CoveredWith}
use Rattle.olr_spec.proofs.Common.{ChangedLine, AccountsFor, Detour, Needed, IsLastTestedWith, query_to_with, IsClear, SameWay}
use Rattle.std.proofs.Math.Seq.{take-add}
use Rattle.olr_spec.proofs.Facts.{Each, has_index, same_start, same_end, same_dm_of, same_ways, within, next_start, CountedTo}
use Rattle.olr_spec.proofs.Facts.{Each-range, IsRoute-moves, unique_same, within_other, way_between, route_known, counted_part}
use Rattle.olr_spec.proofs.RouteMoves.{counted_length_same, counted_routes, front_counts, clear_front}

pub stretch_parts : {A : Type 0} (ls : List A) (p m k : ℕ) → p ≤ m → m ≤ k → stretch ls p k ≡ stretch ls p m ++ stretch ls m k
stretch_parts ls p m k h g =
    let n : k - p ≡ (m - p) + (k - m) = omega arith in
    let at : p + (m - p) ≡ m = omega arith in
    grind (arith, take-add, drop-drop)

pub way_on : (M : Map) (ls : List ℕ) (s t : ℕ) → IsRoute M s t ls → (i m : ℕ) → i < m → m < length ls
    → IsRoute M (end M (slice_index ls i)) (start M (slice_index ls m)) (stretch ls (i + 1) m)
way_on M ls s t joined i m h g = grind (arith, next_start, way_between)

-- a position after one that isn't covered isn't covered either
pub covered_before : (g : Margin) (M : Map) → IsSoundFor g M → (ls : List ℕ) (s t : ℕ) → IsRoute M s t ls → (i k m : ℕ) → i < k
    → k ≤ m → m ≤ length ls → k < length ls → CoveredWith g M ls i m → CoveredWith g M ls i k
covered_before g M sound ls s t joined i k m a h upto z c = λ inside.
    let n = min m (length ls - 1) in
    let is : min k (length ls - 1) ≡ k = omega arith in
    let from = end M (slice_index ls i) in
    coe 1 0 (j. CountedTo g M ls i (is j)) (counted_part g M sound from (start M (slice_index ls k))
    (start M (slice_index ls n)) (stretch ls (i + 1) k) (stretch ls k n)
    (subst (CountedRoute g M from (start M (slice_index ls n)))
    (stretch_parts ls (i + 1) k n (omega arith) (omega arith)) (c (omega arith)))
    (way_on M ls s t joined i k a z) (way_between M s t ls k n joined (omega arith) (omega arith)))

-- a position that is near enough and after the last tested one isn't covered
pub covered_known : (g : Margin) (M : Map) → IsSoundFor g M → (ls : List ℕ) (s t : ℕ) → IsRoute M s t ls → (i k : ℕ) → IsLastTestedWith g M ls i k → (j : ℕ)
    → i < j → j ≤ length ls → dm_of M (stretch ls i j) ≤ limit → k < min j (length ls - 1) → ¬ CoveredWith g M ls i j
covered_known g M sound ls s t joined i k query j h upto near beyond = λ c.
    elim query.last [
      | inl bare ↦ bare (covered_before g M sound ls s t joined i k j query.after (omega arith) upto query.inside c)
      | inr all ↦ absurd (omega (arith, all (min j (length ls - 1)) (j, upto, near, omega arith)))
    ]

-- the routes from line i up to position k are the same
abbrev pub RoutesStay : Margin → Map → Map → List ℕ → ℕ → ℕ → Type 0
RoutesStay g M N ls i k = (m : ℕ) → i < m → m ≤ k → CountedTo g M ls i m ↔ CountedTo g N ls i m

-- ---- on maps with the same lines

module _ {g : Margin} (M N : Map) (ls : List ℕ) (same : Each (SameLine M N) ls) (s t : ℕ) (joined : IsRoute M s t ls) (i k : ℕ)
    (query : IsLastTestedWith g M ls i k) where
  abbrev from : ℕ
  from = end M (slice_index ls i)

  abbrev at : ℕ → ℕ
  at m = start M (slice_index ls m)

  abbrev part : ℕ → List ℕ
  part m = stretch ls (i + 1) m

  from_same : from ≡ end N (slice_index ls i)
  from_same = same_end M N (slice_index ls i) (same (slice_index ls i) (has_index ls i (omega arith)))

  at_same : (m : ℕ) → m < length ls → at m ≡ start N (slice_index ls m)
  at_same m h = same_start M N (slice_index ls m) (same (slice_index ls m) (has_index ls m h))

  parts : (m : ℕ) → i < m → m ≤ k → part k ≡ part m ++ stretch ls m k
  parts m h upto = stretch_parts ls (i + 1) m k (omega arith) upto

  ways : (p q : ℕ) → Each (SameWay M N) (stretch ls p q)
  ways p q = same_ways M N (stretch ls p q) (Each-range (SameLine M N) ls p q same)

  -- with the ends that the lines have on the other map
  moved : (m : ℕ) → m ≤ k → CountedRoute g M from (at m) (part m) ↔ CountedRoute g N from (at m) (part m)
      → CountedTo g M ls i m ↔ CountedTo g N ls i m
  moved m upto o =
      coe 0 1 (j. CountedTo g M ls i m ↔ CountedRoute g N (from_same j) (at_same m (omega (arith, query.inside)) j) (part m)) o

  pub to_same : query_to_with g M ls i k ≡ query_to_with g N ls i k
  to_same = λ j. record {
    from = from_same j;
    to = at_same k query.inside j;
    within = counted_length_same g M N (part k) (ways (i + 1) k) j;
  }

  pub clear_routes : (C : List ChangedLine) → AccountsFor C M N → AccountsFor C N M → IsClear N C (query_to_with g M ls i k)
      → RoutesStay g M N ls i k
  clear_routes C there here clear m h upto =
      moved m upto (clear_front g M N C there here from (at m) (at k) (part m) (stretch ls m k)
      (way_on M ls s t joined i m h (omega arith)) (way_between M s t ls m k joined upto query.inside)
      (coe 0 1 (j. ¬ Detour N C from (at k) (counted_dm_of g M (parts m h upto j))) clear))

  -- if the maps agree on the nodes that the coverage query reaches
  pub seen_routes : ((v : ℕ) → Reaches M from (counted_dm_of g M (part k)) v → SameRound M N v) → RoutesStay g M N ls i k
  seen_routes round m h upto =
      let d = counted_dm_of g M (part k) in
      let short = front_counts g M (part m) (stretch ls m k)
      (route_known M from (at m) (part m) (way_on M ls s t joined i m h (omega arith)))
      (route_known M (at m) (at k) (stretch ls m k) (way_between M s t ls m k joined upto query.inside)) in
      moved m upto (unique_same (counted g M (part m)) (counted g N (part m)) from (at m) d
      (counted_routes g M N (part m) from (at m) d (within M N from d round (at m)))
      (counted_routes g N M (part m) from (at m) d (within_other M N from d round (at m))) (part m)
      (counted_length_same g M N (part m) (ways (i + 1) m))
      (omega (arith, short, ap (counted_dm_of g M) (parts m h upto))))

needed_moves : (M N : Map) (ls : List ℕ) (i m : ℕ) →
    ((p q : ℕ) → dm_of M (stretch ls p q) ≡ dm_of N (stretch ls p q)) → Needed M ls i m → Needed N ls i m
needed_moves M N ls i m alike n = (n.0, n.1, coe 0 1 (j. alike i n.0 j ≤ limit) n.2, n.3)

-- ---- where the routes are the same

module _ {g : Margin} (M N : Map) (ls : List ℕ) (same : Each (SameLine M N) ls) (s t : ℕ) (joined : IsRoute M s t ls) (i k : ℕ)
    (query : IsLastTestedWith g M ls i k) (routes : RoutesStay g M N ls i k) where
  alike : (p q : ℕ) → dm_of M (stretch ls p q) ≡ dm_of N (stretch ls p q)
  alike p q = same_dm_of M N (stretch ls p q) (Each-range (SameLine M N) ls p q same)

  pub covered_same : (j : ℕ) → min j (length ls - 1) ≤ k → CoveredWith g M ls i j ↔ CoveredWith g N ls i j
  covered_same j h = grind (arith, routes (min j (length ls - 1)))

  -- the coverage query is one of the other map too
  pub query_stays : IsLastTestedWith g N ls i k
  query_stays = record {
    after = query.after;
    inside = query.inside;
    before = λ m h g. (covered_same m (omega arith)).0 (query.before m h g);
    needed = elim query.needed [ inl e ↦ inl e | inr n ↦ inr (needed_moves M N ls i k alike n) ];
    last = elim query.last [
      | inl bare ↦ inl (λ c. bare ((covered_same k (omega arith)).1 c))
      | inr all ↦ inr (λ m n. all m (needed_moves N M ls i m (λ p q. sym (alike p q)) n))
    ];
  }

  -- positions that are near enough
  pub covered_stays : IsSoundFor g M → IsSoundFor g N → (j : ℕ) → i < j → j ≤ length ls → dm_of M (stretch ls i j) ≤ limit → CoveredWith g M ls i j ↔ CoveredWith g N ls i j
  covered_stays here there j h upto near = elim (cases_lt k (min j (length ls - 1))) [
    | inl beyond ↦
        let not_here = covered_known g M here ls s t joined i k query j h upto near beyond in
        let not_there = covered_known g N there ls s t (IsRoute-moves M N s t ls (same_ways M N ls same) joined) i k query_stays j h upto
        (subst (λ (d : ℕ). d ≤ limit) (alike i j) near) beyond in
        ((λ c. absurd (not_here c)), (λ c. absurd (not_there c)))
    | inr close ↦ covered_same j (omega (arith, close))
  ]
