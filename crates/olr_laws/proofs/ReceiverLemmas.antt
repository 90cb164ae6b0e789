-- Where the LRPs of an answer are decoded, that receivers exist, and what the legs between the LRPs say.
use Rattle.olr_spec.specs.Margins.{Margin}
use Rattle.olr_spec.proofs.Common.{IsPointWith, slice_index, kept_points, lines_where, candidates, [], option_map, EncodingWith}
use Rattle.olr_spec.proofs.Common.{list_all-map, slice_get-get_or, decoded_bound, extended_path, coordinate_on, get_or_default}
use Rattle.olr_spec.proofs.Common.{◌≡◌, ◌<◌, ◌≤◌, ◌∙◌, Map, ◌-◌, ◌*◌, ◌/◌, cond, last, legs, Side, ◌&&◌, ◌||◌, true, List, Some}
use Rattle.olr_spec.proofs.Common.{length, decoded, nat_abs, Measure, or_left, stretch, node_on, IsTrue, nat_le, Points, IsNear}
use Rattle.olr_spec.proofs.Common.{is_some, is_path, node_at, subst, or_right, last_two, has_line, list_all, and_from, leb-true}
use Rattle.olr_spec.proofs.Common.{ℕ, zero, None, Path, refl, ◌==◌, ◌-ℤ◌, ints, Bool, Coord, start, first, dm_of, up_to, LawOf}
use Rattle.olr_spec.proofs.Common.{ℤ, map, sym, inl, inr, pos, end, Leg, leg, has, ◌⊎◌, suc, ◌+◌, ◌∷◌}
use Rattle.olr_spec.proofs.Common.{slice_get, Reference, cases_Bool, path_fault, attrs_with, first_kept, is_nearest, cond-false}
use Rattle.olr_spec.proofs.Common.{coord_at, unwrap_or, AreJoined, last_kept, and_parts, eqb-true, ltb-true, or_cases, cases_lt}
use Rattle.olr_spec.proofs.Common.{nat_lt, lt-ltb, le-ltb, offset, Option, AllZip, get_or, arith, IsMap, Middle, concat, le-leb}
use Rattle.olr_spec.proofs.Common.{ap, AllPass-from_list_all, middle_points_with, reference_by_kept_with, list_all-from_AllPass}
use Rattle.olr_spec.specs.Recovery.{IsWeighted, IsCut, IsClose, are_cosines, lon_apart, lat_apart, line_by, IsLineAtWith}
use Rattle.olr_spec.specs.Recovery.{stretches, IsStretchesWith, IsStep, IsLeftWith, are_spaced, Weighted, is_cosine}
use Rattle.olr_spec.proofs.Facts.{path_also, path_at, Each, has_index, at_index, has-lines_where, has_last, last_index, Known}
use Rattle.olr_spec.proofs.Facts.{LinkedWith, follow_linked_with, kept_linked_with, empty_stretch, stretch_first, positive}
use Rattle.olr_spec.proofs.Facts.{next_start}
use Rattle.olr_spec.proofs.FitLemmas.{position_is, linked_above, dm_same, last_two_linked, extended_sound, by_answer}
use Rattle.olr_spec.proofs.DecodedLemmas.{Kept, answer_decodes, Back, Form, Front, form}
use Rattle.std.proofs.Math.Nat.{le_of_mul-le-mul_left, mul_comm, mul-le-mul_left, mul-le-mul_right, mul-lt-mul_of_pos_left}
use Rattle.std.proofs.Math.Nat.{div-mul-le_self, lt-div-mul-add}
use Rattle.olr_spec.specs.Receiver.{Rating, IsDifference, Outgoing, Incoming, last_number, decoded_coord, attributes, sector_on}
use Rattle.olr_spec.proofs.SectorLemmas.{has_below}
use Rattle.olr_spec.proofs.JoinedLemmas.{extended_joined}
use Rattle.olr_spec.specs.Directions.{is_direction, is_beyond, direction_on}
use Rattle.olr_laws.specs.ReceiverLaws.{AtEachLrp, is_spaced_by, is_outdone, is_clear, stands_out, ReceiverLaws, StringLaws}
use Rattle.olr_spec.proofs.QueryLemmas.{stretch_parts}
use Rattle.olr_spec.proofs.ReceiverLemmas.{same_path, passes, size}
use Rattle.std.proofs.Common.{lt_of_mul-lt-mul_right}

pub got_index : (f : ℕ → ℕ) (ks : List ℕ) (k v : ℕ) → option_map f (slice_get ks k) ≡ Some v → (k < length ks)
    × (f (slice_index ks k) ≡ v)
got_index f [] k v e = absurd cc
got_index f (x ∷ ks) zero v e = (omega arith, cc)
got_index f (x ∷ ks) (suc k) v e = let r = got_index f ks k v e in (omega (arith, r.0), r.1)

-- ---- receivers exist

abbrev pub apart : ℕ → ℕ → ℕ
apart a b = a - b + (b - a)

apart_differs : IsDifference apart
apart_differs = record { same = λ a. omega arith; other = λ a b e. omega arith }

abbrev total : Rating → ℕ
total a = a.far + a.frc + a.fow + a.bearing

-- it prefers the smaller sum of the measure and the differences
pub some_receiver : LawOf (λ (l : ReceiverLaws). l.some_receiver)
some_receiver far = (
  record {
    far = far;
    frc_apart = apart;
    fow_apart = apart;
    bearing_apart = apart;
    prefers = λ a b. nat_lt (total a) (total b);
    frcs = apart_differs;
    fows = apart_differs;
    bearings = apart_differs;
    monotone = λ a b w h. lt-ltb (total a) (total b) (omega arith);
    strict = λ a b h. le-ltb (total b) (total a) (omega (arith, ltb-true (total a) (total b) h));
  },
  refl,
)

-- ---- a node that is farther

-- the bound of the measure for a node, with e more, and that it is less than the measure for another
own_bound : (u scale a b e f : ℕ) → u ≤ scale → f ≤ u * a + scale * b → f + scale * e ≤ scale * (a + b + e)
own_bound u scale a b e f most h = grind (arith, mul-le-mul_right a most)

by_north : (scale near x f : ℕ) → 0 < scale → near < x → scale * x ≤ f → scale * near < f
by_north scale near x f unit h g = omega (arith, mul-lt-mul_of_pos_left h unit)

by_east : (n d scale u near x f : ℕ) → 0 < scale → n * scale ≤ d * u → d * near < n * x → u * x ≤ f → scale * near < f
by_east n d scale u near x f unit least h g =
    let less : scale * (d * near) < scale * (n * x) = mul-lt-mul_of_pos_left h unit in
    let kept : n * scale * x ≤ d * u * x = mul-le-mul_right x least in
    let all : scale * near * d < u * x * d = grind (arith, less, kept) in
    omega (arith, lt_of_mul-lt-mul_right d all)

-- by the differences to p, b is farther than a by more than e
pub farther_by : (m n d scale e : ℕ) (far : Measure) (p : ℤ × ℤ) (a b : Coord) → 0 < scale → Weighted m d scale far p a →
    Weighted n d scale far p b → (lon_apart p a + lat_apart p a + e < lat_apart p b)
    ⊎ (d * (lon_apart p a + lat_apart p a + e) < n * lon_apart p b) → far p a + scale * e < far p b
farther_by m n d scale e far p a b unit here there h =
    let near = lon_apart p a + lat_apart p a + e in
    let own = own_bound here.u scale (lon_apart p a) (lat_apart p a) e (far p a) here.most here.by_both in
    let over : scale * near < far p b = elim h [
      | inl north ↦ by_north scale near (lat_apart p b) (far p b) unit north there.by_lat
      | inr east ↦ by_east n d scale there.u near (lon_apart p b) (far p b) unit there.least east there.by_lon
    ] in
    omega arith

triangle : (p a b : ℤ) → nat_abs (a -ℤ b) ≤ nat_abs (p -ℤ b) + nat_abs (p -ℤ a)
triangle p a b = grind (arith, ints)

few : (n d scale u : ℕ) → 0 < scale → n * scale ≤ d * u → u ≤ scale → n ≤ d
few n d scale u unit least most =
    let goal : scale * n ≤ scale * d = omega (arith, mul-le-mul_left d most, mul_comm n scale, mul_comm d scale) in
    le_of_mul-le-mul_left goal unit

east_of : (n d x a b B e D : ℕ) → n ≤ d → 0 < d → a < B → b < B → D ≤ x + a → 3 * (d * B) + d * e ≤ n * D → d * (a + b + e) < n * x
east_of n d x a b B e D most some ha hb apart h =
    let wide : n * D ≤ n * (x + a) = mul-le-mul_left n apart in
    let less : n * a ≤ d * a = mul-le-mul_right a most in
    let lon : d * a < d * B = mul-lt-mul_of_pos_left ha some in
    let lat : d * b < d * B = mul-lt-mul_of_pos_left hb some in
    grind (arith, wide, less, lon, lat)

-- a is the own node's coordinate, and b is so far away in latitude, or in longitude times n / d
farther : (n d scale e k : ℕ) (far : Measure) (p : ℤ × ℤ) (a b : Coord) → 0 < d → 0 < scale → Weighted n d scale far p a →
    Weighted n d scale far p b → IsNear k p a
    → (3 * decoded_bound k + e ≤ nat_abs (a.lat -ℤ b.lat)) ⊎ (3 * (d * decoded_bound k) + d * e ≤ n * nat_abs (a.lon -ℤ b.lon))
    → far p a + scale * e < far p b
farther n d scale e k far p a b some unit here there near spaced =
    farther_by n n d scale e far p a b unit here there (elim spaced [
      | inl north ↦ inl (omega (arith, near.lon, near.lat, triangle p.1 a.lat b.lat))
      | inr east ↦ inr (east_of n d (lon_apart p b) (lon_apart p a) (lat_apart p a) (decoded_bound k) e
          (nat_abs (a.lon -ℤ b.lon)) (few n d scale there.u unit there.least there.most) some near.lon near.lat
          (triangle p.0 a.lon b.lon) east)
    ])

-- the weighted sum with this cosine
of_cosine : (n d scale : ℕ) (cosine : Measure) (p : ℤ × ℤ) (c : Coord) → is_cosine n d scale (cosine p c) ≡ true →
    Weighted n d scale (λ p c. cosine p c * lon_apart p c + scale * lat_apart p c) p c
of_cosine n d scale cosine p c h =
    let both = and_parts (nat_le (n * scale) (d * cosine p c)) _ h in
    record {
      u = cosine p c;
      least = leb-true _ _ both.0;
      most = leb-true _ _ both.1;
      by_lon = omega arith;
      by_lat = omega arith;
      by_both = omega arith;
    }

-- a test that all numbers of a list pass
pub passed : (p : ℕ → Bool) (xs : List ℕ) → list_all p xs ≡ true → (x : ℕ) → has xs x ≡ true → p x ≡ true
passed p xs all x h = grind (arith, at_index xs x h, AllPass-from_list_all p xs all)

module _ (n d scale : ℕ) (cosine : Measure) (M : Map) (r : Reference)
    (h : IsTrue (are_cosines n d scale cosine M r)) where
  abbrev near : ℤ × ℤ → ℕ × Leg → Bool
  near p c = is_cosine n d scale (cosine p c.1.begin) && is_cosine n d scale (cosine p c.1.finish)

  cosines_at : (k x : ℕ) → k ≤ last_number r → IsTrue (has_line M x) → near (decoded_coord r k) (x, leg M x) ≡ true
  cosines_at k x up known =
      passes M (near (decoded_coord r k))
      (passed (λ k. list_all (near (decoded_coord r k)) (candidates M)) (up_to (last_number r + 1)) h k
      (has_below (last_number r + 1) k (omega arith))) x known

  weighted_at : (s : Side) (k x : ℕ) → k ≤ last_number r → IsTrue (has_line M x) →
      Weighted n d scale (λ p c. cosine p c * lon_apart p c + scale * lat_apart p c) (decoded_coord r k) (coordinate_on s (leg M x))
  weighted_at Outgoing k x up known =
      of_cosine n d scale cosine _ _ (and_parts _ _ (cosines_at k x up known)).0
  weighted_at Incoming k x up known =
      of_cosine n d scale cosine _ _ (and_parts (is_cosine n d scale (cosine (decoded_coord r k) (leg M x).begin)) _ (cosines_at k x up known)).1

pub some_weighted : LawOf (λ (l : ReceiverLaws). l.some_weighted)
some_weighted n d scale cosine M r some unit h =
    record { some = some; unit = unit; all = weighted_at n d scale cosine M r h }

-- the byte of what remains of an offset
byte_close : (q s left c : ℕ) → 0 < q → 0 < s → IsCut q s (Some (256 * left / s)) c → IsClose q s left c
byte_close q s left c hq hs k =
    let b = 256 * left / s in
    let low_q : q * (b * s) ≤ q * (256 * left) = mul-le-mul_left q (div-mul-le_self (256 * left) s) in
    let high_q : q * (256 * left) < q * (b * s + s) = mul-lt-mul_of_pos_left (lt-div-mul-add hs) hq in
    record { below = grind arith; above = grind arith }

offset_close : (q s left c : ℕ) → 0 < q → 0 < s → IsCut q s (offset left s) c → IsClose q s left c
offset_close q s left c hq hs = grind (arith, cases_Bool (left == 0), eqb-true left 0, byte_close q s left c hq hs)

-- ---- legs

module _ (M : Map) (m : IsMap M) (ls : List ℕ) (known : Each (Known M) ls) where
  last_length : (h i : ℕ) (js : List ℕ) →
      last (map (dm_of M) (stretches ls (h ∷ i ∷ js))) ≡ dm_of M (stretch ls (last_two h i js).0 (last_two h i js).1)
  last_length h i [] = refl
  last_length h i (j ∷ js) = last_length i j js

  steps_of : (g : Margin) (h i : ℕ) (js : List ℕ) → AllZip (λ a w. IsStep a (dm_of M w))
      (attrs_with g (legs M ls) h i ∷ map (λ (p : Middle). p.attrs) (middle_points_with g (legs M ls) h i js)) (stretches ls (h ∷ i ∷ js))
  steps_of g h i [] = grind (arith, dm_same)
  steps_of g h i (j ∷ js) = grind (arith, dm_same, (steps_of g i j js))

  -- what remains of the offsets, front and back, is near to what their bytes cut off from the first leg and the last
  abbrev Cuts : ℕ → List (List ℕ) → Reference → ℕ → ℕ → Type 0
  Cuts n ws r front back =
      ((c : ℕ) → IsCut n (first (map (dm_of M) ws)) r.pos c → IsClose n (first (map (dm_of M) ws)) front c)
      × ((c : ℕ) → IsCut n (last (map (dm_of M) ws)) r.neg c → IsClose n (last (map (dm_of M) ws)) back c)

  cuts_close : (g : Margin) (p q h i : ℕ) (js : List ℕ) → LinkedWith g M ls (h ∷ i ∷ js) → (n : ℕ) → 0 < n →
      Cuts n (stretches ls (h ∷ i ∷ js)) (reference_by_kept_with g (legs M ls) p q h i js) p q
  cuts_close g p q h i js l n some =
      grind (
        arith,
        last_two_linked g M ls h i js l,
        dm_same,
        offset_close,
        stretch_first,
        positive,
        has_index,
        last_length h i js,
      )

linked_bounds : (g : Margin) (M : Map) (ls ks : List ℕ) → LinkedWith g M ls ks → (k : ℕ) → suc k < length ks →
    (slice_index ks k < slice_index ks (suc k)) × (slice_index ks (suc k) ≤ length ls)
linked_bounds g M ls (p ∷ q ∷ ks) l zero h = (l.0.after, l.0.upto)
linked_bounds g M ls (p ∷ q ∷ ks) l (suc k) h = linked_bounds g M ls (q ∷ ks) l.1 k (omega arith)
linked_bounds g M ls _ l k h = absurd (omega arith)

at_start : (M : Map) (ls : List ℕ) (i : ℕ) → i < length ls → node_at M ls i ≡ start M (slice_index ls i)
at_start M ls i h = ap (λ (b : Bool). cond b (start M (slice_index ls i)) (end M (last ls))) (lt-ltb i (length ls) h)

at_end : (M : Map) → IsMap M → (ls : List ℕ) → Each (Known M) ls → AreJoined M ls → (i : ℕ) →
    0 < i → i ≤ length ls → node_at M ls i ≡ end M (slice_index ls (i - 1))
at_end M m ls known joined i some up = elim (cases_lt i (length ls)) [
  | inl lt ↦
      let on : i - 1 + 1 ≡ i = omega arith in
      let next = next_start M (start M (first ls)) (end M (last ls)) ls (i - 1) joined (omega arith) in
      cc (at_start M ls i lt)
  | inr ge ↦
      let whole : length ls ≡ i = omega arith in
      cc (
        cond-false (nat_lt i (length ls)) (start M (slice_index ls i)) (end M (last ls)) (le-ltb i (length ls) ge),
        last_index ls (omega arith),
      )
]

number_known : (M : Map) (j d : ℕ) → j < length (lines_where M (λ _. true)) →
    IsTrue (has_line M (get_or (lines_where M (λ _. true)) j d))
number_known M j d lt =
    let xs = lines_where M (λ _. true) in
    grind (arith, get_or_default xs j d 0 lt, has_index xs j lt, has-lines_where M (λ _. true) (get_or xs j d))

pub every_candidate : (M : Map) (f : ℕ × Leg → Bool) →
    ((x : ℕ) → IsTrue (has_line M x) → f (x, leg M x) ≡ true) → IsTrue (list_all f (candidates M))
every_candidate M f each =
    let xs = lines_where M (λ _. true) in
    list_all-map f (λ x. (x, leg M x)) xs
    ∙ list_all-from_AllPass (λ x. f (x, leg M x)) xs (λ j x lt. each (get_or xs j x) (number_known M j x lt))

-- a test that all candidates pass, if they pass another
pub all_candidates : (M : Map) (f g : ℕ × Leg → Bool) →
    ((x : ℕ) → IsTrue (has_line M x) → f (x, leg M x) ≡ true → g (x, leg M x) ≡ true) →
    IsTrue (list_all f (candidates M)) → IsTrue (list_all g (candidates M))
all_candidates M f g more a = every_candidate M g (λ x known. more x known (passes M f a x known))

-- ---- an answer

-- line x is on the map, and the LRP k of the reference is decoded near its node
pub record IsOwn (M : Map) (r : Reference) (s : Side) (k x : ℕ) : Type 0 where
  pub known : IsTrue (has_line M x)
  pub up : k ≤ last_number r
  pub near : IsNear k (decoded_coord r k) (coordinate_on s (leg M x))

module _ {g : Margin} (M : Map) (m : IsMap M) (P : Path) (is : IsTrue (is_path P.lines)) (none : path_fault M P ≡ None)
    (r : Reference) (e : EncodingWith g M P (Points r)) where
  abbrev Lines : List ℕ
  Lines = (extended_path M P e.before e.after).lines

  abbrev Points_kept : List ℕ
  Points_kept = Kept M P is none r e

  -- LRP k is decoded near the node of its position
  near_kept : (k : ℕ) → k < length Points_kept →
      (d : ℤ × ℤ) × (decoded r k ≡ Some d) × IsNear k d (coord_at M (node_at M Lines (slice_index Points_kept k)))
  near_kept k lt =
      let near = (answer_decodes M P is none r e).near k lt in
      let s = extended_sound M P is none e.before e.after e.tried in
      (near.0, near.1, subst (IsNear k near.0) (position_is M m Lines s.known (slice_index Points_kept k) s.size) near.2)

  near_point : (k v : ℕ) → IsPointWith g M P k v → (d : ℤ × ℤ) × (decoded r k ≡ Some d) × IsNear k d (coord_at M v)
  near_point k v p =
      let at = got_index (node_at M Lines) Points_kept k v (path_at m is none e p) in
      let near = near_kept k at.0 in
      (near.0, near.1, subst (λ (w : ℕ). IsNear k near.0 (coord_at M w)) at.1 near.2)

  point_at : (k : ℕ) → is_some (decoded r k) ≡ true → (v : ℕ) × IsPointWith g M P k v
  point_at k h =
      let count = (answer_decodes M P is none r e).count in
      let within : k ≤ length r.middle + 1 = grind (arith, leb-true, cases_Bool (nat_le k (length r.middle + 1))) in (
        node_at M Lines (slice_index Points_kept k),
        path_also e (ap (option_map (node_at M Lines)) (slice_get-get_or Points_kept k 0 (omega arith))),
      )

  abbrev formed : Form g M Lines Points_kept (Front M P is none r e) (Back M P is none r e) r
  formed = form M P is none r e

  known_lines : Each (Known M) Lines
  known_lines = (extended_sound M P is none e.before e.after e.tried).known

  stretches_are : (ws : List (List ℕ)) → IsStretchesWith g M P ws → ws ≡ stretches Lines (formed.h ∷ formed.i ∷ formed.js)
  stretches_are ws s = same_path M m P is none r e _ s ∙ ap (stretches Lines) formed.kept

  cuts : (ws : List (List ℕ)) → IsStretchesWith g M P ws → (front back : ℕ) → IsLeftWith g M P front back → (n : ℕ) → 0 < n →
      Cuts M m Lines known_lines n ws r front back
  cuts ws s front back l n some =
      let left = same_path M m P is none r e _ l in
      coe 1 0 (i. Cuts M m Lines known_lines n (stretches_are ws s i) (formed.fields_are i) (left.0 i) (left.1 i))
      (cuts_close M m Lines known_lines g (Front M P is none r e) (Back M P is none r e) formed.h formed.i formed.js formed.linked n some)

  all_steps : (ws : List (List ℕ)) → IsStretchesWith g M P ws → AllZip (λ a w. IsStep a (dm_of M w)) (attributes r) ws
  all_steps ws s = grind (arith, formed.fields_are, stretches_are ws s, steps_of M m Lines known_lines g formed.h)

  -- ---- the path's own lines

  bounds : (k : ℕ) → k < last_number r →
      (slice_index Points_kept k < slice_index Points_kept (k + 1)) × (slice_index Points_kept (k + 1) ≤ length Lines)
  bounds k h =
      let on : k + 1 ≡ suc k = omega arith in
      let long = size M m P is none r e in
      grind (arith, long, formed.kept, linked_bounds g M Lines (formed.h ∷ formed.i ∷ formed.js) formed.linked k)

  -- a line leaves position p, or enters it
  abbrev HasLine : Side → ℕ → Type 0
  HasLine Outgoing p = p < length Lines
  HasLine Incoming p = (0 < p) × (p ≤ length Lines)

  at_position : (s : Side) (p : ℕ) → HasLine s p → IsTrue (has_line M (line_by s Lines p))
      × (coord_at M (node_at M Lines p) ≡ coordinate_on s (leg M (line_by s Lines p)))
  at_position Outgoing p lt = (known_lines _ (has_index Lines p lt), ap (coord_at M) (at_start M Lines p lt))
  at_position Incoming p up = (
    known_lines _ (has_index Lines (p - 1) (omega (arith, up))),
    ap (coord_at M) (at_end M m Lines known_lines (extended_joined M P is none e.before e.after e.tried) p up.0 up.1),
  )

  own_line : (s : Side) (k x : ℕ) → k ≤ last_number r → HasLine s (slice_index Points_kept k) → IsLineAtWith g M P s k x →
      IsOwn M r s k x
  own_line s k x h on at =
      let there = same_path M m P is none r e _ at in
      let near = near_kept k (omega (arith, size M m P is none r e)) in
      let line = at_position s (slice_index Points_kept k) on in
      let place : decoded_coord r k ≡ near.0 = ap (λ (o : Option (ℤ × ℤ)). unwrap_or o (pos 0, pos 0)) near.1 in
      subst (IsOwn M r s k) (got_index (line_by s Lines) Points_kept k x there).1
      (record { known = line.0; up = h; near = coe 0 1 (i. IsNear k (sym place i) (line.1 i)) near.2 })

  pub own_lines_are : AtEachLrp g M P r (IsOwn M r)
  own_lines_are =
      record {
        outgoing = λ k x h. own_line Outgoing k x (omega arith) (omega (arith, bounds k h));
        incoming = λ x. let b = bounds (length r.middle) (omega arith) in
            own_line Incoming (last_number r) x (omega arith) (omega (arith, b.0), omega (arith, b.1));
      }

pub decoded_near : (g : Margin) → LawOf (λ (l : StringLaws g). l.decoded_near)
decoded_near g M m P is r e = let p = by_answer M P r e in near_point M m P is p.0 r p.1

pub decoded_points : (g : Margin) → LawOf (λ (l : StringLaws g). l.decoded_points)
decoded_points g M m P is r e = let p = by_answer M P r e in point_at M m P is p.0 r p.1

-- ---- the legs together

joined : (g : Margin) (M : Map) (ls ks : List ℕ) → LinkedWith g M ls ks → concat (stretches ls ks) ≡ stretch ls (first ks) (last ks)
joined g M ls [] l = sym (empty_stretch ls 0 0 (omega arith))
joined g M ls (p ∷ []) l = sym (empty_stretch ls p p (omega arith))
joined g M ls (p ∷ q ∷ ks) l =
    let here = linked_above g M ls q ks l.1 (last (q ∷ ks)) in
    grind (arith, has_last (q ∷ ks), joined g M ls (q ∷ ks) l.1, stretch_parts ls p q (last (q ∷ ks)))

pub stretches_join : (g : Margin) → LawOf (λ (l : StringLaws g). l.stretches_join)
stretches_join g M P ws p =
    let E = extended_path M P p.before p.after in
    let gs = legs M E.lines in
    let ks = kept_points gs E.pos E.neg p.points in
    let linked = kept_linked_with g M E.lines (first_kept gs E.pos p.points) (last_kept gs E.neg p.points) (0 ∷ p.points)
    (follow_linked_with g M E.lines 0 p.points p.follow) in
    path_also p (ap concat p.holds ∙ joined g M E.lines ks linked)

pub offsets_close : (g : Margin) → LawOf (λ (l : StringLaws g). l.offsets_close)
offsets_close g M m P is r e = let p = by_answer M P r e in cuts M m P is p.0 r p.1

pub steps_close : (g : Margin) → LawOf (λ (l : StringLaws g). l.distances_close)
steps_close g M m P is r e ws s = let p = by_answer M P r e in all_steps M m P is p.0 r p.1 ws s

-- ---- the nearest node, and without the decoded coordinate

pub outdone_of : (slack a b : ℕ) (beyond : Bool) → (a + slack < b) ⊎ ((a ≤ b) × (beyond ≡ true)) →
    (nat_lt (a + slack) b || nat_le a b && beyond) ≡ true
outdone_of slack a b beyond h = grind (arith, lt-ltb, le-leb, or_left, or_right, and_from)

pub same_place : (M : Map) (s : Side) (x y : ℕ) → node_on s (leg M y) ≡ node_on s (leg M x) →
    coordinate_on s (leg M y) ≡ coordinate_on s (leg M x)
same_place M s x y e = grind arith

module _ (n d scale : ℕ) (far : Measure) (M : Map) (r : Reference) (w : IsWeighted n d scale far M r) (s : Side) (k x : ℕ)
    (own : IsOwn M r s k x) where
  -- how far the node of line y is
  abbrev away : ℕ → ℕ
  away y = far (decoded_coord r k) (coordinate_on s (leg M y))

  farther_off : (e y : ℕ) → IsTrue (has_line M y) →
      (3 * decoded_bound k + e ≤ nat_abs ((coordinate_on s (leg M x)).lat -ℤ (coordinate_on s (leg M y)).lat))
      ⊎ (3 * (d * decoded_bound k) + d * e ≤ n * nat_abs ((coordinate_on s (leg M x)).lon -ℤ (coordinate_on s (leg M y)).lon)) →
      away x + scale * e < away y
  farther_off e y there =
      farther n d scale e k far (decoded_coord r k) (coordinate_on s (leg M x)) (coordinate_on s (leg M y)) w.some w.unit
      (w.all s k x own.up own.known) (w.all s k y own.up there) own.near

  spaced_nearest : IsTrue (are_spaced n d k s (leg M x) (candidates M)) →
      IsTrue (is_nearest far s (decoded_coord r k) (leg M x) (candidates M))
  spaced_nearest = all_candidates M _ _ (λ y there t.
      grind (arith, or_cases, or_left, or_right, leb-true, lt-ltb, farther_off 0 y there))

  other_outdone : (e y : ℕ) → IsTrue (has_line M y) →
      (y == x || is_spaced_by n d e k (coordinate_on s (leg M x)) (coordinate_on s (leg M y))
      || node_on s (leg M y) == node_on s (leg M x) && is_beyond (sector_on s (leg M x)) (direction_on s (leg M y))) ≡ true →
      (y == x || is_outdone far (scale * e) s (decoded_coord r k) (leg M x) (leg M y)) ≡ true
  other_outdone e y there t =
      let out = outdone_of (scale * e) (away x) (away y) (is_beyond (sector_on s (leg M x)) (direction_on s (leg M y))) in
      let spaced_y = is_spaced_by n d e k (coordinate_on s (leg M x)) (coordinate_on s (leg M y)) in
      elim (or_cases (y == x || spaced_y) _ t) [
        | inl front ↦ elim (or_cases (y == x) spaced_y front) [
          | inl same ↦ or_left (y == x) _ same
          | inr spaced ↦ or_right (y == x) _ (out (inl (farther_off e y there (grind (arith, or_cases, leb-true)))))
        ]
        | inr here ↦
            let both = and_parts (node_on s (leg M y) == node_on s (leg M x)) _ here in
            let as_far : away y ≡ away x = ap (far (decoded_coord r k)) (same_place M s x y (eqb-true _ _ both.0)) in
            or_right (y == x) _ (out (inr (omega arith, both.1)))
      ]

  clear_out : (e : ℕ) → IsTrue (is_clear n d e k s x (leg M x) (candidates M)) →
      IsTrue (stands_out far (scale * e) s (decoded_coord r k) x (leg M x) (candidates M))
  clear_out e h =
      let p = and_parts (is_direction (direction_on s (leg M x))) _ h in
      and_from _ _ p.0 (all_candidates M _ _ (other_outdone e) p.1)

pub nearest_own : (g : Margin) → LawOf (λ (l : StringLaws g). l.own_is_nearest)
nearest_own g M m P is r e n d scale far w =
    let p = by_answer M P r e in
    let lines = own_lines_are M m P is p.0 r p.1 in
    record {
      outgoing = λ k x h at. spaced_nearest n d scale far M r w Outgoing k x (lines.outgoing k x h at);
      incoming = λ x at. spaced_nearest n d scale far M r w Incoming (last_number r) x (lines.incoming x at);
    }

pub clear_stands_out : (g : Margin) → LawOf (λ (l : StringLaws g). l.clear_stands_out)
clear_stands_out g M m P is r enc n d scale e far w clear =
    let p = by_answer M P r enc in
    let lines = own_lines_are M m P is p.0 r p.1 in
    record {
      outgoing = λ k x h at. clear_out n d scale far M r w Outgoing k x (lines.outgoing k x h at) e (clear.outgoing k x h at);
      incoming = λ x at. clear_out n d scale far M r w Incoming (last_number r) x (lines.incoming x at) e (clear.incoming x at);
    }
