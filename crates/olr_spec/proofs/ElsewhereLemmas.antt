-- A route that is the unique shortest one where its own lines count longer is so on a map whose lengths are nearly the
-- same.
use Rattle.olr_spec.proofs.Common.{inl, inr, [], ◌||◌, ◌≡◌, ◌≢◌, ◌+◌, ◌-◌, ◌*◌, ◌≤◌, ◌<◌, ◌∷◌, sym, ap, ◌∙◌, not, has, Map}
use Rattle.olr_spec.proofs.Common.{start, end, dm, ℕ, IsTrue, IsRoute, UniqueShortest, leb-true, le-leb, Margin, counted, cases_eq}
use Rattle.olr_spec.proofs.Common.{not-true, or_comm, Bool, true, false, List, ◌++◌, refl, subst, arith, ◌&&◌, ◌==◌, IsMap}
use Rattle.olr_spec.proofs.Common.{dm_of, get_or, ne_eqb, cases_Bool, none_twice, and_parts, has_line, counted_dm}
use Rattle.olr_spec.proofs.Common.{IsSoundFor, get_or-take, list_any-append, append_assoc, CountedRoute, length-take-le}
use Rattle.olr_spec.proofs.Common.{cases_lt, length, take_all, sum_by-append, MarginLaws, LawOf, Within, ◌↔◌}
use Rattle.olr_spec.specs.Elsewhere.{HasAlong, InReach, suffices}
use Rattle.olr_spec.specs.Receiver.{Shortest}
use Rattle.std.proofs.Math.Nat.{mul-le-mul_left, mul-le-mul_right, mul-add, lt_of_mul-lt-mul_left}
use Rattle.std.proofs.lemmas.List.Sums.{sum_by-cons, split_at_first, fails_before_first, passes_at_first, prefix_len-le-length}
use Rattle.std.specs.List.{sum_by, before_first, after_first, position_or_len}
use Rattle.olr_spec.proofs.ListLemmas.{Each, Each-nil, Each-cons, has_cases, dec_same, has_here, has_there, at_index}
use Rattle.olr_spec.proofs.RouteLemmas.{positive, IsRoute-split, IsRoute-append, dm_of-append, prefix_of_unique}
use Rattle.olr_spec.proofs.WayLemmas.{route_known}
use Rattle.olr_spec.proofs.SimpleLemmas.{simplified, simple_once}
use Rattle.olr_spec.proofs.CountedLemmas.{counted_other, counted_own, counted_route, route_counted, counted_least, counted_zero}

-- ---- lists

-- a list from one of its lines on
pub from_line : (y : ℕ) (ys : List ℕ) → has ys y ≡ true → (front : List ℕ) × (back : List ℕ) × (ys ≡ front ++ y ∷ back)
from_line y [] on = absurd cc
from_line y (x ∷ ys) on = elim (has_cases x ys y on) [
  | inl e ↦ ([], ys, ap (λ z. z ∷ ys) e)
  | inr there ↦ let r = from_line y ys there in (x ∷ r.0, r.1, ap (λ zs. x ∷ zs) r.2)
]

-- ---- sums over the lines of a list

scaled : (c : ℕ) (len : ℕ → ℕ) (xs : List ℕ) → sum_by (λ x. c * len x) xs ≡ c * sum_by len xs
scaled c len [] = omega arith
scaled c len (x ∷ xs) =
    let both = ap (λ n. c * n) (sum_by-cons len x xs) in
    omega (arith, sum_by-cons (λ y. c * len y) x xs, both, scaled c len xs, mul-add c (len x) (sum_by len xs))

pub sum_of : (M : Map) (xs : List ℕ) → sum_by (dm M) xs ≡ dm_of M xs
sum_of M [] = refl
sum_of M (x ∷ xs) = omega (arith, sum_by-cons (dm M) x xs, sum_of M xs)

sum_most : (p q : ℕ → ℕ) (xs : List ℕ) → Each (λ x. p x ≤ q x) xs → sum_by p xs ≤ sum_by q xs
sum_most p q [] h = omega arith
sum_most p q (x ∷ xs) h =
    let rest = sum_most p q xs (λ y i. h y (has_there x xs y i)) in
    omega (arith, sum_by-cons p x xs, sum_by-cons q x xs, h x (has_here x xs), rest)

sum_without : (p : ℕ → ℕ) (y : ℕ) (xs front back : List ℕ) → xs ≡ front ++ y ∷ back →
    sum_by p xs ≡ p y + sum_by p (front ++ back)
sum_without p y xs front back is =
    omega (arith, ap (sum_by p) is, sum_by-append p front (y ∷ back), sum_by-cons p y back, sum_by-append p front back)

-- if p is at most q on the lines of xs, and q at most p on the other lines of ys
exchange : (p q : ℕ → ℕ) (xs ys : List ℕ) → Each (λ x. p x ≤ q x) xs → Each (λ y. has xs y ≡ false → q y ≤ p y) ys →
    none_twice ys ≡ true → sum_by p xs + sum_by q ys ≤ sum_by q xs + sum_by p ys
exchange p q xs [] h k once = omega (arith, sum_most p q xs h)
exchange p q xs (y ∷ ys) h k once =
    let parts = and_parts (not (has ys y)) (none_twice ys) once in
    let of_p = sum_by-cons p y ys in
    let of_q = sum_by-cons q y ys in
    elim (cases_Bool (has xs y)) [
      | inl on ↦
          let r = from_line y xs on in
          let same : (z : ℕ) → has xs z ≡ (has (r.0 ++ r.1) z || y == z) = λ z. grind (arith, r.2, list_any-append, or_comm) in
          let own : Each (λ x. p x ≤ q x) (r.0 ++ r.1) = λ x i. grind (arith, h x, same x, i) in
          let others : Each (λ z. has (r.0 ++ r.1) z ≡ false → q z ≤ p z) ys =
          λ z i off. grind (arith, k z, has_there, i, same z, off, parts.0, cases_eq y z, ne_eqb, not-true) in
          let rest = exchange p q (r.0 ++ r.1) ys own others parts.1 in
          omega (arith, rest, of_p, of_q, sum_without p y xs r.0 r.1 r.2, sum_without q y xs r.0 r.1 r.2)
      | inr off ↦
          omega (arith, exchange p q xs ys h (λ z i. k z (has_there y ys z i)) parts.1, of_p, of_q, k y (has_here y ys) off)
    ]

-- ---- lengths

own_weight : (g : Margin) (a d n : ℕ) → 1000 * n ≤ (1000 + a) * d →
    (1000 + g.routes) * 1000 * n ≤ (1000 + a) * 1000 * counted_dm g d
own_weight g a d n h =
    let r = g.routes in
    let more : (1000 + r) * d ≤ 1000 * counted_dm g d = omega arith in
    let by_length : (1000 + r) * (1000 * n) ≤ (1000 + r) * ((1000 + a) * d) = mul-le-mul_left (1000 + r) h in
    let by_margin : (1000 + a) * ((1000 + r) * d) ≤ (1000 + a) * (1000 * counted_dm g d) = mul-le-mul_left (1000 + a) more in
    omega (arith, by_length, by_margin)

other_weight : (r a c d n : ℕ) → (1000 + a) * 1000 ≤ c * (1000 + r) → c * d ≤ 1000 * n →
    (1000 + a) * 1000 * d ≤ (1000 + r) * 1000 * n
other_weight r a c d n enough h =
    let by_length : (1000 + r) * (c * d) ≤ (1000 + r) * (1000 * n) = mul-le-mul_left (1000 + r) h in
    let by_margin : (1000 + a) * 1000 * d ≤ c * (1000 + r) * d = mul-le-mul_right d enough in
    omega (arith, by_length, by_margin)

-- ---- where lines have other lengths

-- len is how long each line is there
module _ (g : Margin) (M : Map) (a b : ℕ) (enough : IsTrue (suffices g a b)) (xs : List ℕ)
    (on_M : Each (λ x. IsTrue (has_line M x)) xs) (len : ℕ → ℕ) (own : Each (λ x. 1000 * len x ≤ (1000 + a) * dm M x) xs) where
  abbrev Counted : Map
  Counted = counted g M xs

  abbrev here : ℕ → ℕ
  here x = (1000 + a) * 1000 * dm Counted x

  abbrev there : ℕ → ℕ
  there x = (1000 + g.routes) * 1000 * len x

  -- line y isn't too short, unless it is one of xs
  abbrev pub IsLong : ℕ → Type 0
  IsLong y = has xs y ≡ false → (1000 - b) * dm M y ≤ 1000 * len y

  own_most : Each (λ x. there x ≤ here x) xs
  own_most x on =
      grind (arith, counted_own g M xs x (on_M x on) on, own_weight g a (dm M x) (len x) (own x on))

  other_most : (y : ℕ) → IsLong y → has xs y ≡ false → here y ≤ there y
  other_most y r off =
      grind (arith, counted_other g M xs y off, other_weight g.routes a (1000 - b) (dm M y) (len y) (leb-true _ _ enough) (r off))

  -- lines without one twice that are longer where xs counts longer are longer there
  pub longer_by : (ys : List ℕ) → Each IsLong ys → none_twice ys ≡ true → dm_of Counted xs < dm_of Counted ys → sum_by len xs < sum_by len ys
  longer_by ys long once lt =
      let less : (1000 + a) * 1000 * dm_of Counted xs < (1000 + a) * 1000 * dm_of Counted ys = grind (arith, mul-le-mul_left ((1000 + a) * 1000) lt) in
      let sums = exchange there here xs ys own_most (λ y on off. other_most y (long y on) off) once in
      let of_K : (zs : List ℕ) → sum_by here zs ≡ (1000 + a) * 1000 * dm_of Counted zs =
      λ zs. scaled ((1000 + a) * 1000) (dm Counted) zs ∙ ap (λ n. (1000 + a) * 1000 * n) (sum_of Counted zs) in
      let of_N = scaled ((1000 + g.routes) * 1000) len in
      lt_of_mul-lt-mul_left ((1000 + g.routes) * 1000)
      (omega (arith, less, sums, of_K xs, of_K ys, of_N xs, of_N ys))

-- ---- on the other map

module _ (g : Margin) (M N : Map) (n : IsMap N) (a b : ℕ) (enough : IsTrue (suffices g a b)) (xs : List ℕ)
    (on_M : Each (λ x. IsTrue (has_line M x)) xs) (along : HasAlong a M N xs) where
  abbrev K : Map
  K = counted g M xs

  -- a line of both maps, which isn't too short if it isn't one of xs
  record Rival (y : ℕ) : Type 0 where
    known : IsTrue (has_line M y)
    starts : start N y ≡ start M y
    ends : end N y ≡ end M y
    long : IsLong g M a b enough xs on_M (dm N) along.own y

  route_there : (s t : ℕ) (ys : List ℕ) → Each (λ x. has xs x ≡ true) ys → IsRoute M s t ys → IsRoute N s t ys
  route_there s t [] on w = w
  route_there s t (y ∷ ys) on w =
      let i = on y (has_here y ys) in
      grind (arith, along.known y i, along.starts y i, along.ends y i, route_there (end M y) t ys (λ x j. on x (has_there y ys x j)))

  route_here : (s t : ℕ) (ys : List ℕ) → Each Rival ys → IsRoute N s t ys → IsRoute M s t ys
  route_here s t [] on w = w
  route_here s t (y ∷ ys) on w =
      let r = on y (has_here y ys) in
      grind (arith, r.known, r.starts, r.ends, route_here (end N y) t ys (λ x j. on x (has_there y ys x j)))

  -- a route without a line twice that is longer here is longer there
  longer_there : (ys : List ℕ) → Each Rival ys → none_twice ys ≡ true → dm_of K xs < dm_of K ys → dm_of N xs < dm_of N ys
  longer_there ys rivals once lt =
      let r = longer_by g M a b enough xs on_M (dm N) along.own ys (λ y i. (rivals y i).long) once lt in
      omega (arith, r, sum_of N xs, sum_of N ys)

  route_kept : (s t : ℕ) → UniqueShortest K s t xs → IsRoute N s t xs
  route_kept s t u = route_there s t xs (λ x i. i) (route_counted g M xs s t xs u.route)

  -- each other route over lines of both maps is longer
  rivals_longer : (s t : ℕ) → UniqueShortest K s t xs → (ys : List ℕ) → IsRoute N s t ys → Each Rival ys → ys ≢ xs → dm_of N xs < dm_of N ys
  rivals_longer s t u ys w rivals ne =
      let c = simplified N n s t ys w in
      let r : Each Rival c.rest = λ y i. rivals y (c.part y i) in
      let k = counted_route g M xs s t c.rest (route_here s t c.rest r c.route) in
      elim (dec_same c.rest xs) [
        | yes same ↦ grind (arith, c.shorter, same, ne)
        | no other ↦ grind (arith, longer_there c.rest r (simple_once N s c.rest c.simple) (u.others c.rest k other), c.shorter)
      ]

pub unique_there : (g : Margin) → LawOf (λ (l : MarginLaws g). l.unique_elsewhere)
unique_there g M N n no_other a b enough xs nearly s t u =
    let on_M : Each (λ x. IsTrue (has_line M x)) xs = λ x i. no_other.known x (nearly.known x i) in
    let along : HasAlong a M N xs =
    record {
      known = nearly.known;
      starts = λ x i. no_other.starts x (nearly.known x i);
      ends = λ x i. no_other.ends x (nearly.known x i);
      own = nearly.own;
    } in
    let rival : (y : ℕ) → IsTrue (has_line N y) → Rival g M N n a b enough xs on_M along y = λ y i.
    record { known = no_other.known y i; starts = no_other.starts y i; ends = no_other.ends y i; long = nearly.others y i } in
    record {
      route = route_kept g M N n a b enough xs on_M along s t u;
      others = λ ys w. rivals_longer g M N n a b enough xs on_M along s t u ys w (λ y i. rival y (route_known N s t ys w y i));
    }

-- ---- within reach

-- the lines of a route over lines of at least the importance c begin within its length
pub in_reach : (N : Map) → IsMap N → (c s t most : ℕ) (ys : List ℕ) → IsRoute N s t ys → Within N c ys → dm_of N ys ≤ most →
    Each (InReach N c s most) ys
in_reach N n c s t most [] w i le = Each-nil (InReach N c s most)
in_reach N n c s t most (y ∷ ys) w i le =
    let long = positive N n y w.0 in
    let first : InReach N c s most y =
    record { known = w.0; class = i.0; way = []; route = sym w.1; within = tt; near = omega (arith, long, le) } in
    let rest = in_reach N n c (end N y) t (most - dm N y) ys w.2 i.1 (omega (arith, le)) in
    Each-cons (InReach N c s most) y ys first (λ z j.
    let r = rest z j in
    record {
      known = r.known;
      class = r.class;
      way = y ∷ r.way;
      route = (w.0, w.1, r.route);
      within = (i.0, r.within);
      near = omega (arith, r.near, le);
    })

-- xs is the only shortest route over such lines
abbrev pub OnlyShortest : Map → ℕ → ℕ → ℕ → List ℕ → Type 0
OnlyShortest M c s t xs = (ys : List ℕ) → Shortest M c s t ys ↔ (ys ≡ xs)

-- ---- on the same map

-- a route that is the unique shortest one where its own lines count longer is so
pub counted_unique : (g : Margin) → LawOf (λ (l : MarginLaws g). l.counted_is_unique)
counted_unique g M m s t xs u =
    let known = route_known M s t xs (route_counted g M xs s t xs u.route) in
    unique_there g M M m (grind arith) 0 0 (le-leb _ _ (omega (arith, mul-add 1000 1000 g.routes))) xs (grind (arith, known)) s t u

-- ---- a part of it

-- of the lines before the first one of which a test holds it doesn't hold
none_before : (test : ℕ → Bool) (ys : List ℕ) → Each (λ y. test y ≡ false) (before_first test ys)
none_before test ys y on =
    let k = at_index (before_first test ys) y on in
    grind (arith, fails_before_first test ys k.0 0, get_or-take, length-take-le, prefix_len-le-length)

-- on lines that are in neither list or in both the lengths are the same
count_same : (g : Margin) (M : Map) (xs ws ys : List ℕ) → Each (λ x. IsTrue (has_line M x)) ys → Each (λ y. has xs y ≡ has ws y) ys →
    dm_of (counted g M xs) ys ≡ dm_of (counted g M ws) ys
count_same g M xs ws [] known same = refl
count_same g M xs ws (y ∷ ys) known same =
    let rest = count_same g M xs ws ys (λ x i. known x (has_there y ys x i)) (λ x i. same x (has_there y ys x i)) in
    grind (arith, rest, known y (has_here y ys), same y (has_here y ys), cases_Bool (has xs y), counted_own, counted_other)

-- the front of such a route, where its own lines count longer and no others
module _ (g : Margin) (M : Map) (m : IsMap M) (s v t : ℕ) (xs rest : List ℕ)
    (u : UniqueShortest (counted g M (xs ++ rest)) s t (xs ++ rest)) (w : IsRoute M s v xs) (z : IsRoute M v t rest) where
  abbrev Whole : Map
  Whole = counted g M (xs ++ rest)

  abbrev Front : Map
  Front = counted g M xs

  abbrev only_later : ℕ → Bool
  only_later y = has rest y && not (has xs y)

  same_test : (y : ℕ) → only_later y ≡ false → has xs y ≡ has (xs ++ rest) y
  same_test y off = grind (arith, list_any-append (λ z. z == y) xs rest, cases_Bool (has xs y), cases_Bool (has rest y))

  same_counts : (ys : List ℕ) → Each (λ x. IsTrue (has_line M x)) ys → Each (λ y. only_later y ≡ false) ys → dm_of Front ys ≡ dm_of Whole ys
  same_counts ys known off = count_same g M xs (xs ++ rest) ys known (λ y on. same_test y (off y on))

  front_same : dm_of Front xs ≡ dm_of Whole xs
  front_same = same_counts xs (route_known M s v xs w) (λ y on. grind (arith, on, cases_Bool (has rest y)))

  -- a route that comes to a later line is longer than the part up to this line
  over_later : (ys : List ℕ) → IsRoute M s v ys → position_or_len only_later ys < length ys → dm_of Front xs < dm_of Front ys
  over_later ys r some =
      let x = get_or ys (position_or_len only_later ys) 0 in
      let before = before_first only_later ys in
      let after = after_first only_later ys in
      let are = split_at_first only_later ys 0 some in
      let on = and_parts (has rest x) (not (has xs x)) (passes_at_first only_later ys 0 some) in
      let q = from_line x rest on.0 in
      let mine = IsRoute-split M s v before (x ∷ after) (subst (IsRoute M s v) are r) in
      let its = IsRoute-split M v t q.0 (x ∷ q.1) (subst (IsRoute M v t) q.2 z) in
      let is : xs ++ rest ≡ (xs ++ q.0) ++ x ∷ q.1 = ap (λ zs. xs ++ zs) q.2 ∙ sym (append_assoc xs q.0 (x ∷ q.1)) in
      let part = prefix_of_unique Whole s its.0 t (xs ++ q.0) (x ∷ q.1) (subst (UniqueShortest Whole s t) is u)
      (counted_route g M (xs ++ rest) s its.0 (xs ++ q.0) (IsRoute-append M s v its.0 xs q.0 w its.1))
      (counted_route g M (xs ++ rest) its.0 t (x ∷ q.1) its.2) in
      let known = route_known M s mine.0 before mine.1 in
      let to_x : IsRoute Whole s its.0 before =
      counted_route g M (xs ++ rest) s its.0 before (subst (λ k. IsRoute M s k before) (sym mine.2.1 ∙ its.2.1) mine.1) in
      let no_less : dm_of Whole (xs ++ q.0) ≤ dm_of Whole before =
      grind (arith, dec_same before (xs ++ q.0), part.others before to_x) in
      let mine_is = ap (dm_of Front) are ∙ dm_of-append Front before (x ∷ after) in
      let most = counted_least g M xs x mine.2.0 in
      let same = same_counts before known (none_before only_later ys) in
      omega (arith, no_less, front_same, same, dm_of-append Whole xs q.0, mine_is, positive M m x mine.2.0, most)

  pub counted_front : UniqueShortest Front s v xs
  counted_front = record { route = counted_route g M xs s v xs w; others = others }
    where
      others : (ys : List ℕ) → IsRoute Front s v ys → ys ≢ xs → dm_of Front xs < dm_of Front ys
      others ys r ne =
          let here = route_counted g M xs s v ys r in
          elim (cases_lt (position_or_len only_later ys) (length ys)) [
            | inl some ↦ over_later ys here some
            | inr past ↦
                let none = subst (Each (λ y. only_later y ≡ false)) (take_all _ ys past) (none_before only_later ys) in
                let part = prefix_of_unique Whole s v t xs rest u (counted_route g M (xs ++ rest) s v xs w) (counted_route g M (xs ++ rest) v t rest z) in
                omega (arith, part.others ys (counted_route g M (xs ++ rest) s v ys here) ne, front_same, same_counts ys (route_known M s v ys here) none)
          ]

-- the same without a margin on any map
pub counted_part : (g : Margin) (M : Map) → IsSoundFor g M → (s v t : ℕ) (xs rest : List ℕ) → CountedRoute g M s t (xs ++ rest) →
    IsRoute M s v xs → IsRoute M v t rest → CountedRoute g M s v xs
counted_part g M (inl e) s v t xs rest u w z =
    subst (λ (K : Map). UniqueShortest K s v xs) (sym (counted_zero g M xs e))
    (prefix_of_unique M s v t xs rest (subst (λ (K : Map). UniqueShortest K s t (xs ++ rest)) (counted_zero g M (xs ++ rest) e) u) w z)
counted_part g M (inr m) s v t xs rest u w z = counted_front g M m s v t xs rest u w z
