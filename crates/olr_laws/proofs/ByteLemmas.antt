-- Bytes have no fault exactly if some reference encodes as them.
use Rattle.olr_spec.proofs.Common.{inl, inr, ◌≡◌, ℕ, zero, suc, ◌+◌, ◌-◌, ◌*◌, ◌/◌, ◌%◌, ◌<◌, ◌≤◌, ℤ, pos, negsuc, ◌≤ℤ◌, false}
use Rattle.olr_spec.proofs.Common.{List, ◌∷◌, ◌++◌, length, Option, Some, None, IfSome, IsTrue, refl, sym, ap, ◌∙◌, arith}
use Rattle.olr_spec.proofs.Common.{nat_le, [], eqb-true, leb-false, get_or-append-add, int_le, flat_map, slice_index, cases_lt}
use Rattle.olr_spec.proofs.Common.{and_from, or_parts, not-false, ints, within, fits16, First, Middle, Last, Reference}
use Rattle.olr_spec.proofs.Common.{AreAttrs, IsFirst, IsMiddle, IsLast, IsReference, fits24, signed16, first_bytes}
use Rattle.olr_spec.proofs.Common.{middle_bytes, last_bytes, flag, offset_bytes, ltb-false, recursion_from_All, Attrs, residue}
use Rattle.olr_spec.proofs.Common.{signed24, attr_bytes, HasBytes, extra, bit, flags_of, attribute1_bytes, v3_fault, LawOf}
use Rattle.olr_spec.proofs.SectorLemmas.{le_test}
use Rattle.olr_spec.proofs.ReadLemmas.{AreBytes, attributes_behind, reserved, no_fault, encoded_passes}
use Rattle.olr_spec.specs.Laws.{FieldLaws}

-- ---- decoded fields

-- a number below twice suc h, as the two's complement of a whole number
signed_of : (h v : ℕ) → v < suc h + suc h → (z : ℤ) × (negsuc h ≤ℤ z) × (z ≤ℤ pos h) × (residue (suc h + suc h) z ≡ v)
signed_of h v lt = elim (cases_lt v (suc h)) [
  | inl low ↦ (pos v, omega (arith, ints), omega (arith, ints), refl)
  | inr high ↦ (negsuc (suc (h + h) - v), omega (arith, ints), omega (arith, ints), omega arith)
]

in_range : (a b z : ℤ) → a ≤ℤ z → z ≤ℤ b → IsTrue (within a b z)
in_range a b z h k = and_from (int_le a z) (int_le z b) (le_test a z h) (le_test z b k)

read16 : (a b : ℕ) → a < 256 → b < 256 → (z : ℤ) × IsTrue (fits16 z) × (signed16 z ≡ a ∷ b ∷ [])
read16 a b la lb = grind (arith, signed_of 32767 (256 * a + b), in_range (negsuc 32767) (pos 32767))

read24 : (a b c : ℕ) → a < 256 → b < 256 → c < 256 → (z : ℤ) × IsTrue (fits24 z) × (signed24 z ≡ a ∷ b ∷ c ∷ [])
read24 a b c la lb lc = grind (arith, signed_of 8388607 (65536 * a + 256 * b + c))

read_attrs : (a b c : ℕ) → a < 64 → b < 256 → c < 256 → (t : Attrs) × AreAttrs t × (attr_bytes t ≡ a ∷ b ∷ c ∷ [])
read_attrs a b c la lb lc = (
  record { frc = a / 8; fow = a % 8; lfrc = b / 32; bearing = b % 32; dnp = c },
  record { frc = omega arith; fow = omega arith; lfrc = omega arith; bearing = omega arith; dnp = lc },
  grind arith,
)

read_first : (a b c d e f g h k : ℕ) (t : List ℕ) → AreBytes (a ∷ b ∷ c ∷ d ∷ e ∷ f ∷ g ∷ h ∷ k ∷ t) → g < 64 → (p : First)
    × IsFirst p × (first_bytes p ≡ a ∷ b ∷ c ∷ d ∷ e ∷ f ∷ g ∷ h ∷ k ∷ [])
read_first a b c d e f g h k t w lt =
    let lon = read24 a b c w.0 w.1.0 w.1.1.0 in
    let lat = read24 d e f w.1.1.1.0 w.1.1.1.1.0 w.1.1.1.1.1.0 in
    let attrs = read_attrs g h k lt w.1.1.1.1.1.1.1.0 w.1.1.1.1.1.1.1.1.0 in (
      record { lon = lon.0; lat = lat.0; attrs = attrs.0 },
      record { lon = lon.1; lat = lat.1; attrs = attrs.1 },
      λ i. lon.2 i ++ lat.2 i ++ attrs.2 i,
    )

read_middle : (a b c d e f g : ℕ) (t : List ℕ) → AreBytes (a ∷ b ∷ c ∷ d ∷ e ∷ f ∷ g ∷ t) → e < 64 → (p : Middle) × IsMiddle p
    × (middle_bytes p ≡ a ∷ b ∷ c ∷ d ∷ e ∷ f ∷ g ∷ [])
read_middle a b c d e f g t w lt =
    let lon = read16 a b w.0 w.1.0 in
    let lat = read16 c d w.1.1.0 w.1.1.1.0 in
    let attrs = read_attrs e f g lt w.1.1.1.1.1.0 w.1.1.1.1.1.1.0 in (
      record { dlon = lon.0; dlat = lat.0; attrs = attrs.0 },
      record { dlon = lon.1; dlat = lat.1; attrs = attrs.1 },
      λ i. lon.2 i ++ lat.2 i ++ attrs.2 i,
    )

-- ---- the LRPs after the first, and the offsets

-- the bytes t are those of a reference after its first LRP, which is p
abbrev Ends : First → List ℕ → Type 0
Ends p t =
    (r : Reference) × IsReference r × (r.first ≡ p) × (t ≡ flat_map middle_bytes r.middle ++ last_bytes r.last r.pos r.neg)

offsets_fit : (positive negative : Option ℕ) → AreBytes (offset_bytes positive ++ offset_bytes negative) →
    IfSome positive (λ n. n < 256) × IfSome negative (λ n. n < 256)
offsets_fit positive negative w = grind arith

module _ (p : First) (is : IsFirst p) where
  -- the last LRP, with the flags of the offsets
  last_with : (a b c d f g : ℕ) (positive negative : Option ℕ) →
      AreBytes (a ∷ b ∷ c ∷ d ∷ f ∷ g ∷ (offset_bytes positive ++ offset_bytes negative)) → f < 64 →
      64 * flag positive + 32 * flag negative + g % 32 ≡ g →
      Ends p (a ∷ b ∷ c ∷ d ∷ f ∷ g ∷ (offset_bytes positive ++ offset_bytes negative))
  last_with a b c d f g positive negative w lt e =
      let lon = read16 a b w.0 w.1.0 in
      let lat = read16 c d w.1.1.0 w.1.1.1.0 in
      let first : 8 * (f / 8) + f % 8 ≡ f = omega arith in
      let l : Last = record { dlon = lon.0; dlat = lat.0; frc = f / 8; fow = f % 8; bearing = g % 32 } in
      let fits = offsets_fit positive negative w.1.1.1.1.1.1 in
      let is_last : IsLast l =
      record { dlon = lon.1; dlat = lat.1; frc = omega arith; fow = omega arith; bearing = omega arith } in (
        record { first = p; middle = []; last = l; pos = positive; neg = negative },
        record { first = is; middle = tt; last = is_last; pos = fits.0; neg = fits.1 },
        refl,
        sym (λ i. lon.2 i ++ lat.2 i ++ first i ∷ e i ∷ (offset_bytes positive ++ offset_bytes negative)),
      )

  read_last : (a b c d f g : ℕ) (rest : List ℕ) → AreBytes (a ∷ b ∷ c ∷ d ∷ f ∷ g ∷ rest) → f < 64 → g < 128 →
      bit 6 g + bit 5 g ≡ length rest → Ends p (a ∷ b ∷ c ∷ d ∷ f ∷ g ∷ rest)
  read_last a b c d f g [] w lf lg e = last_with a b c d f g None None w lf (omega arith)
  read_last a b c d f g (h ∷ []) w lf lg e =
      grind (arith, cases_lt g 64, last_with a b c d f g None (Some h) w lf, last_with a b c d f g (Some h) None w lf)
  read_last a b c d f g (h ∷ k ∷ []) w lf lg e = last_with a b c d f g (Some h) (Some k) w lf (omega arith)
  read_last a b c d f g (h ∷ k ∷ l ∷ rest) w lf lg e = absurd (omega arith)

  -- m LRPs before the last
  read_points : (m : ℕ) (t : List ℕ) → AreBytes t → 7 * m + 6 ≤ length t →
      bit 6 (slice_index t (7 * m + 5)) + bit 5 (slice_index t (7 * m + 5)) ≡ length t - (7 * m + 6)
      → slice_index t (7 * m + 5) < 128 → reserved (attribute1_bytes t 4 (suc m)) ≡ false → Ends p t
  read_points zero (a ∷ b ∷ c ∷ d ∷ f ∷ g ∷ rest) w long flags top free = grind (arith, leb-false, or_parts, read_last)
  read_points (suc m) (a ∷ b ∷ c ∷ d ∷ e ∷ f ∷ g ∷ t) w long flags top free =
      let cut : List ℕ = a ∷ b ∷ c ∷ d ∷ e ∷ f ∷ g ∷ [] in
      let parts = or_parts (nat_le 64 e) (reserved (attribute1_bytes (cut ++ t) 11 (suc m))) free in
      let q = read_middle a b c d e f g t w (leb-false 64 e parts.0) in
      let place : 7 * suc m + 5 ≡ 7 + (7 * m + 5) = omega arith in
      let same = ap (slice_index (cut ++ t)) place ∙ get_or-append-add cut t (7 * m + 5) 0 in
      let rest = read_points m t w.1.1.1.1.1.1.1 (omega arith) (omega arith) (omega arith)
      (ap reserved (sym (attributes_behind cut t 4 (suc m))) ∙ parts.1) in (
        record rest.0 { middle = q.0 ∷ rest.0.middle },
        record { first = rest.1.first; middle = (q.1, rest.1.middle); last = rest.1.last; pos = rest.1.pos; neg = rest.1.neg },
        rest.2,
        λ i. sym q.2 i ++ rest.3 i,
      )
  read_points _ _ w long flags top free = absurd (omega arith)

-- ---- bytes without a fault

-- what holds if none of the four tests reports a fault
record Passes (b : List ℕ) : Type 0 where
  long : 16 ≤ length b
  few : extra b ≤ 2
  status : slice_index b 0 ≡ 11
  flags : bit 6 (flags_of b) + bit 5 (flags_of b) ≡ extra b
  free : reserved (slice_index b 7 ∷ attribute1_bytes b 14 ((length b - 16) / 7 + 1)) ≡ false
  top : flags_of b < 128

passes : (b : List ℕ) → v3_fault b ≡ None → Passes b
passes b e = grind (arith, no_fault, or_parts, ltb-false, eqb-true, not-false, leb-false)

-- the first ten bytes, and the others
read_bytes : (b : List ℕ) → AreBytes b → Passes b → (r : Reference) × HasBytes r b
read_bytes (s ∷ a ∷ b ∷ c ∷ d ∷ e ∷ f ∷ g ∷ k ∷ l ∷ t) w p =
    let cut : List ℕ = s ∷ a ∷ b ∷ c ∷ d ∷ e ∷ f ∷ g ∷ k ∷ l ∷ [] in
    let m : ℕ = (length (cut ++ t) - 16) / 7 in
    let parts = or_parts (nat_le 64 g) (reserved (attribute1_bytes (cut ++ t) 14 (m + 1))) p.free in
    let first = read_first a b c d e f g k l t w.1 (leb-false 64 g parts.0) in
    let place : length (cut ++ t) - 1 - extra (cut ++ t) ≡ 10 + (7 * m + 5) = omega arith in
    let same = ap (slice_index (cut ++ t)) place ∙ get_or-append-add cut t (7 * m + 5) 0 in
    let long : extra (cut ++ t) ≡ length t - (7 * m + 6) = omega arith in
    let count : m + 1 ≡ suc m = omega arith in
    let rest = read_points first.0 first.1 m t w.1.1.1.1.1.1.1.1.1.1 (omega arith) (omega (arith, p.flags)) (omega (arith, p.top))
    (ap reserved (sym (attributes_behind cut t 4 (suc m)) ∙ ap (attribute1_bytes (cut ++ t) 14) (sym count)) ∙ parts.1) in
    grind arith
read_bytes _ w p = absurd (omega arith)

-- ---- bytes of a reference

pub no_fault_where_encoded : LawOf (λ (l : FieldLaws). l.no_fault)
no_fault_where_encoded b h = grind (arith, read_bytes, recursion_from_All, passes, encoded_passes)
