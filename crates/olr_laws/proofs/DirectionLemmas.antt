-- Receivers that compare directions: the angle from the middle of a sector, for directions in the sector and beyond its margin;
-- each of them recovers the legs between the remaining LRPs.
use Rattle.olr_spec.proofs.Common.{◌≡◌, and_parts, cases_Bool, quarter_turn, lies_between, both_ways, candidates, coordinate_on}
use Rattle.olr_spec.proofs.Common.{ℕ, ℤ, inl, inr, ◌≢◌, ◌⊎◌, ◌↔◌, Map, leg, Leg, suc, ◌+◌, ◌*◌, ◌/◌, ◌%◌, ◌<◌, ◌≤◌, pos}
use Rattle.olr_spec.proofs.Common.{not, ◌∷◌, map, sym, ◌∙◌, has, ints, refl, ◌&&◌, ◌||◌, ◌==◌, Side, ◌-ℤ◌, ◌*ℤ◌, ◌≤ℤ◌, ◌<ℤ◌, []}
use Rattle.olr_spec.proofs.Common.{ap, has_line, eqb-true, and_from, leb-true, boundary, not-true, IsSector, ltb-true, cases_lt}
use Rattle.olr_spec.proofs.Common.{zero, nat_lt, nat_abs, le-leb, Vector, vector, by_lt_z, IsFalse, line_at, cases_eq, or_cases}
use Rattle.olr_spec.proofs.Common.{Bool, true, List, false, arith, subst, beyond, up_to, le-ltb, lt-ltb, nat_le, IsTrue, LawOf}
use Rattle.olr_spec.proofs.SectorLemmas.{has_below, same_at, turned, turns_into, neg_right, neg_left, sector_is}
use Rattle.std.proofs.Common.{neg_ℤ, int_lt}
use Rattle.std.proofs.Math.Nat.{mul-le-mul_right, mul-le-mul_left, mul-lt-mul_of_pos_left, mul-add}
use Rattle.olr_spec.proofs.Facts.{has_cases}
use Rattle.olr_spec.specs.Directions.{margin_start, margin_end, is_direction, is_beyond, direction_on}
use Rattle.olr_laws.specs.ReceiverLaws.{middle, along, is_within, IsNearly, rating_by, weighted, count_where, DirectionReceiver}
use Rattle.olr_laws.specs.ReceiverLaws.{TakesByDirection, is_outdone, stands_out, Differences, ReceiverLaws, StringLaws}
use Rattle.olr_spec.specs.Margins.{Margin}
use Rattle.olr_spec.proofs.ReceiverLemmas.{Describes, recovered_by, passes}
use Rattle.olr_spec.specs.Receiver.{Lrp, Rating, NowhereWorse, SomewhereBetter, Outgoing, Incoming, sector_on}

-- Z is z, but for at most a 200th
pub record Near (z Z : ℤ) : Type 0 where
  pub above : pos 0 ≤ℤ z → ((pos 199 *ℤ z) ≤ℤ (pos 200 *ℤ Z)) × ((pos 200 *ℤ Z) ≤ℤ (pos 201 *ℤ z))
  pub below : z ≤ℤ pos 0 → ((pos 201 *ℤ z) ≤ℤ (pos 200 *ℤ Z)) × ((pos 200 *ℤ Z) ≤ℤ (pos 199 *ℤ z))

-- the directions from b up to c, and what is nearly one of them, are at most 5.94 degrees from m
abbrev pub Inside : Vector → Vector → Vector → Type 0
Inside b c m =
    (e n E N : ℤ) → pos 0 ≤ℤ beyond b (vector e n) → beyond c (vector e n) <ℤ pos 0 → Near e E → Near n N →
    (pos 0 <ℤ along m (vector E N)) × ((pos 1000 *ℤ beyond m (vector E N)) ≤ℤ (pos 104 *ℤ along m (vector E N)))
    × (neg_ℤ (pos 104 *ℤ along m (vector E N)) ≤ℤ (pos 1000 *ℤ beyond m (vector E N)))

-- what is at most 8.08 degrees from m is nearly a direction from s up to f
abbrev pub Outside : Vector → Vector → Vector → Type 0
Outside s f m =
    (e n E N : ℤ) → Near e E → Near n N → pos 0 <ℤ along m (vector E N) →
    (pos 1000 *ℤ beyond m (vector E N)) ≤ℤ (pos 142 *ℤ along m (vector E N)) →
    neg_ℤ (pos 142 *ℤ along m (vector E N)) ≤ℤ (pos 1000 *ℤ beyond m (vector E N))
    → (pos 0 ≤ℤ beyond s (vector e n)) × (beyond f (vector e n) <ℤ pos 0)

abbrev pub Both : ℕ → Type 0
Both k = Inside (boundary k) (boundary (suc k)) (middle k) × Outside (margin_start k) (margin_end k) (middle k)

-- ---- a direction to the north east

of_quarter : (j : ℕ) → j < 8 → Inside (boundary j) (boundary (suc j)) (middle j)
of_quarter zero lt e n E N h g p q =
    let x = p.above (omega (arith, ints)) in let y = q.above (omega (arith, ints)) in omega (arith, ints)
of_quarter (suc zero) lt e n E N h g p q =
    let x = p.above (omega (arith, ints)) in let y = q.above (omega (arith, ints)) in omega (arith, ints)
of_quarter (suc (suc zero)) lt e n E N h g p q =
    let x = p.above (omega (arith, ints)) in let y = q.above (omega (arith, ints)) in omega (arith, ints)
of_quarter (suc (suc (suc zero))) lt e n E N h g p q =
    let x = p.above (omega (arith, ints)) in let y = q.above (omega (arith, ints)) in omega (arith, ints)
of_quarter (suc (suc (suc (suc zero)))) lt e n E N h g p q =
    let x = p.above (omega (arith, ints)) in let y = q.above (omega (arith, ints)) in omega (arith, ints)
of_quarter (suc (suc (suc (suc (suc zero))))) lt e n E N h g p q =
    let x = p.above (omega (arith, ints)) in let y = q.above (omega (arith, ints)) in omega (arith, ints)
of_quarter (suc (suc (suc (suc (suc (suc zero)))))) lt e n E N h g p q =
    let x = p.above (omega (arith, ints)) in let y = q.above (omega (arith, ints)) in omega (arith, ints)
of_quarter (suc (suc (suc (suc (suc (suc (suc zero))))))) lt e n E N h g p q =
    let x = p.above (omega (arith, ints)) in let y = q.above (omega (arith, ints)) in omega (arith, ints)
of_quarter _ lt e n E N h g p q = absurd (omega arith)

-- the sign of z is that of Z
sign_above : (z Z : ℤ) → Near z Z → pos 0 ≤ℤ Z → pos 0 ≤ℤ z
sign_above z Z p h = grind (arith, ints)

sign_below : (z Z : ℤ) → Near z Z → Z <ℤ pos 0 → z ≤ℤ pos 0
sign_below z Z p h = grind (arith, ints)

out_of_quarter : (j : ℕ) → j < 8 → Outside (margin_start j) (margin_end j) (middle j)
out_of_quarter zero lt e n E N p q ahead right left =
    let b = q.above (sign_above n N q (omega (arith, ints))) in
    by_lt_z {P = (pos 0 ≤ℤ beyond (margin_start 0) (vector e n)) × (beyond (margin_end 0) (vector e n) <ℤ pos 0)} E (pos 0)
    (λ less. let a = p.below (sign_below e E p less) in omega (arith, ints))
    (λ more. let a = p.above (sign_above e E p more) in omega (arith, ints))
out_of_quarter (suc zero) lt e n E N p q ahead right left =
    let b = q.above (sign_above n N q (omega (arith, ints))) in let a = p.above (sign_above e E p (omega (arith, ints))) in omega (arith, ints)
out_of_quarter (suc (suc zero)) lt e n E N p q ahead right left =
    let b = q.above (sign_above n N q (omega (arith, ints))) in let a = p.above (sign_above e E p (omega (arith, ints))) in omega (arith, ints)
out_of_quarter (suc (suc (suc zero))) lt e n E N p q ahead right left =
    let b = q.above (sign_above n N q (omega (arith, ints))) in let a = p.above (sign_above e E p (omega (arith, ints))) in omega (arith, ints)
out_of_quarter (suc (suc (suc (suc zero)))) lt e n E N p q ahead right left =
    let b = q.above (sign_above n N q (omega (arith, ints))) in let a = p.above (sign_above e E p (omega (arith, ints))) in omega (arith, ints)
out_of_quarter (suc (suc (suc (suc (suc zero))))) lt e n E N p q ahead right left =
    let b = q.above (sign_above n N q (omega (arith, ints))) in let a = p.above (sign_above e E p (omega (arith, ints))) in omega (arith, ints)
out_of_quarter (suc (suc (suc (suc (suc (suc zero)))))) lt e n E N p q ahead right left =
    let b = q.above (sign_above n N q (omega (arith, ints))) in let a = p.above (sign_above e E p (omega (arith, ints))) in omega (arith, ints)
out_of_quarter (suc (suc (suc (suc (suc (suc (suc zero))))))) lt e n E N p q ahead right left =
    let a = p.above (sign_above e E p (omega (arith, ints))) in
    by_lt_z {P = (pos 0 ≤ℤ beyond (margin_start 7) (vector e n)) × (beyond (margin_end 7) (vector e n) <ℤ pos 0)} N (pos 0)
    (λ less. let b = q.below (sign_below n N q less) in omega (arith, ints))
    (λ more. let b = q.above (sign_above n N q more) in omega (arith, ints))
out_of_quarter _ lt e n E N p q ahead right left = absurd (omega arith)

-- ---- a quarter turn to the right

beyond_turned : (b : Vector) (e n : ℤ) → beyond (quarter_turn b) (vector e n) ≡ beyond b (vector (neg_ℤ n) e)
beyond_turned b e n = turns_into b.east b.north e n

along_turned : (m : Vector) (e n : ℤ) → along (quarter_turn m) (vector e n) ≡ along m (vector (neg_ℤ n) e)
along_turned m e n = omega (arith, neg_right n m.east, neg_left n m.east, ints)

near_neg : (z Z : ℤ) → Near z Z → Near (neg_ℤ z) (neg_ℤ Z)
near_neg z Z p = record { above = λ h. grind (arith, ints); below = λ h. grind (arith, ints) }

turned_inside : (b c m : Vector) → Inside b c m → Inside (quarter_turn b) (quarter_turn c) (quarter_turn m)
turned_inside b c m i e n E N h g p q =
    grind (arith, beyond_turned, along_turned, near_neg n N q, i (neg_ℤ n) e (neg_ℤ N) E)

turned_outside : (s f m : Vector) → Outside s f m → Outside (quarter_turn s) (quarter_turn f) (quarter_turn m)
turned_outside s f m o e n E N p q ahead right left =
    grind (arith, beyond_turned, along_turned, near_neg n N q, o (neg_ℤ n) e (neg_ℤ N) E)

turned_at : (f : ℕ → Vector) → map (λ j. f (j + 8)) (up_to 24) ≡ map (λ j. quarter_turn (f j)) (up_to 24) → (k : ℕ) → k < 24 →
    f (k + 8) ≡ quarter_turn (f k)
turned_at f e k lt = same_at (λ j. f (j + 8)) (λ j. quarter_turn (f j)) (up_to 24) e k (has_below 24 k lt)

both_turned : (k : ℕ) → k < 24 → Both k → Both (k + 8)
both_turned k lt p =
    let on : suc (k + 8) ≡ suc k + 8 = omega arith in
    let from = turned k (omega arith) in
    let to : boundary (suc (k + 8)) ≡ quarter_turn (boundary (suc k)) = ap boundary on ∙ turned (suc k) (omega arith) in
    let mid = turned_at middle refl k lt in
    let front = turned_at margin_start refl k lt in
    let back = turned_at margin_end refl k lt in (
      coe 1 0 (t. Inside (from t) (to t) (mid t)) (turned_inside (boundary k) (boundary (suc k)) (middle k) p.0),
      coe 1 0 (t. Outside (front t) (back t) (mid t)) (turned_outside (margin_start k) (margin_end k) (middle k) p.1),
    )

in_quarter : (q j : ℕ) → q < 4 → j < 8 → Both (q * 8 + j)
in_quarter zero j lq lj =
    let on : j ≡ zero * 8 + j = omega arith in
    subst Both on (of_quarter j lj, out_of_quarter j lj)
in_quarter (suc q) j lq lj =
    let on : suc q * 8 + j ≡ q * 8 + j + 8 = omega arith in
    subst Both (sym on) (both_turned (q * 8 + j) (omega arith) (in_quarter q j (omega arith) lj))

all_sectors : (k : ℕ) → k < 32 → Both k
all_sectors k lt =
    let is : k / 8 * 8 + k % 8 ≡ k = omega arith in
    subst Both is (in_quarter (k / 8) (k % 8) (omega arith) (omega arith))

-- ---- limits

near_of : (z Z : ℤ) → 200 * nat_abs (Z -ℤ z) ≤ nat_abs z → Near z Z
near_of z Z h =
    record { above = λ p. grind (arith, ints); below = λ p. grind (arith, ints) }

abs_few : (n : ℕ) (x y : ℤ) → pos 0 <ℤ x → (pos 1000 *ℤ y) ≤ℤ (pos n *ℤ x) → neg_ℤ (pos n *ℤ x) ≤ℤ (pos 1000 *ℤ y) →
    1000 * nat_abs y ≤ n * nat_abs x
abs_few n x y ahead right left = grind (arith, ints)

few_abs : (n : ℕ) (x y : ℤ) → pos 0 <ℤ x → 1000 * nat_abs y ≤ n * nat_abs x →
    ((pos 1000 *ℤ y) ≤ℤ (pos n *ℤ x)) × (neg_ℤ (pos n *ℤ x) ≤ℤ (pos 1000 *ℤ y))
few_abs n x y ahead h = grind (arith, ints)

within_of : (t : ℕ) (m w : Vector) → 104000 ≤ t → pos 0 <ℤ along m w → 1000 * nat_abs (beyond m w) ≤ 104 * nat_abs (along m w) →
    is_within t m w ≡ true
within_of t m w h ahead few =
    let more : 104000 * nat_abs (along m w) ≤ t * nat_abs (along m w) = mul-le-mul_right (nat_abs (along m w)) h in
    let front : int_lt (pos 0) (along m w) ≡ true = grind (arith, ints) in
    and_from _ _ front (le-leb _ _ (omega arith))

of_within : (t : ℕ) (m w : Vector) → t ≤ 142000 → is_within t m w ≡ true →
    (pos 0 <ℤ along m w) × (1000 * nat_abs (beyond m w) ≤ 142 * nat_abs (along m w))
of_within t m w h is =
    let p = and_parts (int_lt (pos 0) (along m w)) _ is in
    let all = leb-true (1000000 * nat_abs (beyond m w)) (t * nat_abs (along m w)) p.1 in
    let more : t * nat_abs (along m w) ≤ 142000 * nat_abs (along m w) = mul-le-mul_right (nat_abs (along m w)) h in
    grind (arith, ints)

between_of : (b c v : Vector) → lies_between b c v ≡ true → (pos 0 ≤ℤ beyond b v) × (beyond c v <ℤ pos 0)
between_of b c v h = grind (arith, ints, and_parts)

is_between : (b c v : Vector) → pos 0 ≤ℤ beyond b v → beyond c v <ℤ pos 0 → lies_between b c v ≡ true
is_between b c v from to = grind (arith, ints, and_from)

module _ (k : ℕ) (v w : Vector) (near : IsNearly v w) where
  inside_within : IsSector v.east v.north k → (t : ℕ) → 104000 ≤ t → is_within t (middle k) w ≡ true
  inside_within s t h =
      let p = between_of (boundary k) (boundary (suc k)) v s.1 in
      let r = (all_sectors k s.0).0 v.east v.north w.east w.north p.0 p.1 (near_of v.east w.east near.east)
      (near_of v.north w.north near.north) in
      within_of t (middle k) w h r.0 (abs_few 104 (along (middle k) w) (beyond (middle k) w) r.0 r.1 r.2)

  beyond_exceeds : k < 32 → is_beyond k v ≡ true → (t : ℕ) → t ≤ 142000 → not (is_within t (middle k) w) ≡ true
  beyond_exceeds lt b t h = elim (cases_Bool (is_within t (middle k) w)) [
    | inr out ↦ ap not out
    | inl is ↦
        let p = of_within t (middle k) w h is in
        let r = few_abs 142 (along (middle k) w) (beyond (middle k) w) p.0 p.1 in
        let o = (all_sectors k lt).1 v.east v.north w.east w.north (near_of v.east w.east near.east)
        (near_of v.north w.north near.north) p.0 r.0 r.1 in
        let lies = is_between (margin_start k) (margin_end k) v o.0 o.1 in
        let beside = (and_parts (is_direction v) _ b).1 in
        absurd (both_ways (lies_between (margin_start k) (margin_end k) v) (not-true _ beside) lies)
  ]

count_more : (p q : ℕ → Bool) → ((t : ℕ) → p t ≡ true → q t ≡ true) → (ts : List ℕ) → count_where p ts ≤ count_where q ts
count_more p q h [] = omega arith
count_more p q h (t ∷ ts) = grind (arith, cases_Bool, h t, count_more p q h ts)

count_less : (p q : ℕ → Bool) → ((t : ℕ) → p t ≡ true → q t ≡ true) → (ts : List ℕ) (t : ℕ) → has ts t ≡ true → p t ≡ false →
    q t ≡ true → count_where p ts < count_where q ts
count_less p q h [] t i n y = absurd cc
count_less p q h (u ∷ ts) t i n y =
    grind (arith, has_cases u ts t i, cases_Bool, h u, count_more p q h ts, count_less p q h ts t)

pub sees_by_limits : LawOf (λ (l : ReceiverLaws). l.sees_by_limits)
sees_by_limits ts t among least most seen near =
    record {
      inside = λ k v s. count_more (λ u. not (is_within u (middle k) (seen v))) (λ u. nat_lt u 104000)
          (λ u out. grind (arith, cases_lt u 104000, lt-ltb, inside_within k v (seen v) (near v) s u)) ts;
      outside = λ k v lt b. count_less (λ u. nat_lt u 104000) (λ u. not (is_within u (middle k) (seen v)))
          (λ u few. beyond_exceeds k v (seen v) (near v) lt b u (omega (arith, ltb-true u 104000 few))) ts t among
          (le-ltb t 104000 least) (beyond_exceeds k v (seen v) (near v) lt b t most);
    }

-- ---- what they recover

some_direction : (v : Vector) → is_direction v ≡ true → ¬ ((v.east ≡ pos 0) × (v.north ≡ pos 0))
some_direction v h e =
    let none : is_direction v ≡ false = λ i. not (nat_abs (e.0 i) == 0 && nat_abs (e.1 i) == 0) in cc (h, none)

-- a direction is in the sector of its bearing
pub in_sector : (s : Side) (g : Leg) → is_direction (direction_on s g) ≡ true →
    IsSector (direction_on s g).east (direction_on s g).north (sector_on s g)
in_sector Outgoing g h = sector_is _ _ (some_direction (direction_on Outgoing g) h)
in_sector Incoming g h = sector_is _ _ (some_direction (direction_on Incoming g) h)

abbrev StandsOut : DirectionReceiver → Map → Side → ℤ × ℤ → ℕ → Type 0
StandsOut D M s p x = IsTrue (stands_out D.by.far D.by.slack s p x (leg M x) (candidates M))

outdone_either : (slack a b : ℕ) (beyond : Bool) →
    (nat_lt (a + slack) b || nat_le a b && beyond) ≡ true → (a + slack < b) ⊎ ((a ≤ b) × (beyond ≡ true))
outdone_either slack a b beyond h = grind (arith, or_cases, ltb-true, leb-true, and_parts)

module _ (D : DirectionReceiver) (M : Map) (t : Lrp) (x : ℕ) (d : Describes M t x) (o : StandsOut D M t.side t.place x) where
  own_sector : IsSector (direction_on t.side (leg M x)).east (direction_on t.side (leg M x)).north t.bearing
  own_sector = let out = and_parts (is_direction (direction_on t.side (leg M x))) _ o in
      grind (arith, d.bearing, in_sector t.side (leg M x) out.0)

  inside : (rating_by D.by t (leg M x)).bearing ≤ D.by.reach
  inside = (D.by.bearings (coordinate_on t.side (leg M x))).inside t.bearing (direction_on t.side (leg M x)) own_sector

  outdone : (y : ℕ) → IsTrue (has_line M y) → y ≢ x → is_outdone D.by.far D.by.slack t.side t.place (leg M x) (leg M y) ≡ true
  outdone y h n =
      let all = (and_parts (is_direction (direction_on t.side (leg M x))) _ o).1 in
      grind (arith, or_cases, eqb-true y x, passes M (λ c. c.0 == x || is_outdone D.by.far D.by.slack t.side t.place (leg M x) c.1) all y h)

  preferred : (y : ℕ) → IsTrue (has_line M y) → y ≢ x → IsTrue (D.prefers (rating_by D.by t (leg M x)) (rating_by D.by t (leg M y)))
  preferred y h n =
      let far = λ (g : Leg). D.by.far t.place (coordinate_on t.side g) in
      let v = direction_on t.side (leg M y) in
      let frc : D.by.frc_apart t.frc (line_at M x).frc ≤ D.by.frc_apart t.frc (line_at M y).frc = grind (arith, d.frc, D.by.frcs t.frc (line_at M y).frc) in
      let fow : D.by.fow_apart t.fow (line_at M x).fow ≤ D.by.fow_apart t.fow (line_at M y).fow = grind (arith, d.fow, D.by.fows t.fow (line_at M y).fow) in
      let a = rating_by D.by t (leg M x) in
      let b = rating_by D.by t (leg M y) in
      elim (outdone_either D.by.slack (far (leg M x)) (far (leg M y)) _ (outdone y h n)) [
        | inl farther ↦ D.nearer a b farther frc fow inside
        | inr both ↦
            let out = (D.by.bearings (coordinate_on t.side (leg M y))).outside t.bearing v own_sector.0
            (ap (λ (k : ℕ). is_beyond k v) d.bearing ∙ both.1) in
            D.monotone a b (record { far = both.0; frc = frc; fow = fow; bearing = omega (arith, out, inside) })
            (inr (inr (inr (omega (arith, out, inside)))))
      ]

  own_best : (y : ℕ) → IsTrue (has_line M y) → IsFalse (D.prefers (rating_by D.by t (leg M y)) (rating_by D.by t (leg M x)))
  own_best y h = grind (arith, cases_eq y x, cases_Bool, D.strict, preferred y h)

  -- so a receiver chooses it, and no other
  takes_own : (y : ℕ) → TakesByDirection D M t y ↔ (y ≡ x)
  takes_own y = (
    (λ k. grind (arith, cases_eq y x, both_ways, k.best x d.known, preferred y k.known)),
    (λ e. subst (TakesByDirection D M t) (sym e) (record { known = d.known; best = own_best })),
  )

pub recovered_by_direction : (g : Margin) → LawOf (λ (l : StringLaws g). l.recovered_by_direction)
recovered_by_direction g D M m P is r e d =
    recovered_by g (TakesByDirection D M) (StandsOut D M) M (takes_own D M) m P is r e (λ k lt x at. d.outgoing k x lt at) d.incoming

-- ---- weights

abbrev pub Positive : Rating → Type 0
Positive w = (0 < w.far) × (0 < w.frc) × (0 < w.fow) × (0 < w.bearing)

pub better : (w a b : Rating) → Positive w → NowhereWorse a b → SomewhereBetter a b → weighted w a < weighted w b
better w a b p n s =
    let far = mul-le-mul_left w.far n.far in
    let frc = mul-le-mul_left w.frc n.frc in
    let fow = mul-le-mul_left w.fow n.fow in
    let bearing = mul-le-mul_left w.bearing n.bearing in
    elim s [
      | inl x ↦ omega (arith, mul-lt-mul_of_pos_left x p.0)
      | inr (inl x) ↦ omega (arith, mul-lt-mul_of_pos_left x p.1)
      | inr (inr (inl x)) ↦ omega (arith, mul-lt-mul_of_pos_left x p.2)
      | inr (inr (inr x)) ↦ omega (arith, mul-lt-mul_of_pos_left x p.3)
    ]

pub by_distance : (w a b : Rating) (slack reach : ℕ) → Positive w → w.bearing * reach ≤ w.far * slack → a.far + slack < b.far →
    a.frc ≤ b.frc → a.fow ≤ b.fow → a.bearing ≤ reach → weighted w a < weighted w b
by_distance w a b slack reach p h far frc fow bearing =
    let class = mul-le-mul_left w.frc frc in
    let form = mul-le-mul_left w.fow fow in
    let turn = mul-le-mul_left w.bearing bearing in
    omega (arith, mul-lt-mul_of_pos_left far p.0, mul-add w.far a.far slack)

-- the receiver that prefers the smaller weighted sum
abbrev pub by_weights : (d : Differences) (w : Rating) → Positive w → w.bearing * d.reach ≤ w.far * d.slack → DirectionReceiver
by_weights d w p h =
    record {
      by = d;
      prefers = λ x y. nat_lt (weighted w x) (weighted w y);
      monotone = λ x y n s. lt-ltb (weighted w x) (weighted w y) (better w x y p n s);
      nearer = λ x y f g i j. lt-ltb (weighted w x) (weighted w y) (by_distance w x y d.slack d.reach p h f g i j);
      strict = λ x y l. le-ltb (weighted w y) (weighted w x) (omega (arith, ltb-true (weighted w x) (weighted w y) l));
    }

pub some_by_weights : LawOf (λ (l : ReceiverLaws). l.some_by_weights)
some_by_weights d w p q r s h = (by_weights d w (p, q, r, s) h, refl, (λ x y. refl))
