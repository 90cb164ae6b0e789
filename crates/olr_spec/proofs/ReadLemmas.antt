-- The bytes of a reference have no fault.
use Rattle.olr_spec.proofs.Common.{◌≡◌, ℕ, zero, suc, ◌+◌, ◌-◌, ◌*◌, ◌/◌, ◌<◌, Bool, false, cond, ◌||◌, List, ◌∷◌, ◌++◌, length}
use Rattle.olr_spec.proofs.Common.{Option, Some, None, refl, ap, ◌∙◌, arith, nat_le, length-append, [], eq-eqb, le-ltb}
use Rattle.olr_spec.proofs.Common.{get_or-append-add, flat_map, slice_index, ◌↔◌, AllByRecursion, list_any, Middle, Last}
use Rattle.olr_spec.proofs.Common.{Reference, IsMiddle, IsLast, IsReference, first_bytes, middle_bytes, last_bytes, flag}
use Rattle.olr_spec.proofs.Common.{offset_bytes, reference_bytes, lt-leb, or_from, not_from_true, attribute1, status_byte}
use Rattle.olr_spec.proofs.Common.{V3Fault, extra, attribute1_bytes, v3_fault}
use Rattle.olr_spec.proofs.BytesLemmas.{flag_below, flag_is}

abbrev pub AreBytes : List ℕ → Type 0
AreBytes xs = AllByRecursion (λ x. x < 256) xs

-- ---- indices in the bytes

-- attribute bytes after other bytes
pub attributes_behind : (xs ys : List ℕ) (i n : ℕ) → attribute1_bytes (xs ++ ys) (length xs + i) n ≡ attribute1_bytes ys i n
attributes_behind xs ys i zero = refl
attributes_behind xs ys i (suc n) = grind (arith, get_or-append-add, (attributes_behind xs ys (i + 7) n))

abbrev pub reserved : List ℕ → Bool
reserved xs = list_any (λ a. nat_le 64 a) xs

-- ---- bytes without a fault

pub no_fault : (b : Bool) (f : V3Fault) (o : Option V3Fault) → (cond b (Some f) o ≡ None) ↔ ((b ≡ false) × (o ≡ None))
no_fault b f o = grind arith

-- ---- bytes of a reference

middles_length : (ps : List Middle) → length (flat_map middle_bytes ps) ≡ 7 * length ps
middles_length [] = refl
middles_length (p ∷ ps) = omega (arith, length-append (middle_bytes p) (flat_map middle_bytes ps), middles_length ps)

-- none of the LRPs' attribute bytes has a reserved bit
unreserved : (ps : List Middle) (l : Last) (positive negative : Option ℕ) → AllByRecursion IsMiddle ps → IsLast l
    → reserved (attribute1_bytes (flat_map middle_bytes ps ++ last_bytes l positive negative) 4 (suc (length ps))) ≡ false
unreserved [] l positive negative h k = ap (λ (b : Bool). b || false) (lt-leb 64 (attribute1 l.frc l.fow) (omega arith))
unreserved (p ∷ ps) l positive negative h k =
    grind (arith, attributes_behind (middle_bytes p), unreserved ps l positive negative h.1 k)

pub encoded_passes : (r : Reference) → IsReference r → v3_fault (reference_bytes r) ≡ None
encoded_passes r h =
    let b = reference_bytes r in
    let cut : List ℕ = status_byte ∷ first_bytes r.first in
    let middles = flat_map middle_bytes r.middle in
    let ends = last_bytes r.last r.pos r.neg in
    let m = length r.middle in
    let n = flag r.pos + flag r.neg in
    let tail : length ends ≡ 6 + n =
    omega (arith, length-append (offset_bytes r.pos) (offset_bytes r.neg), flag_is r.pos, flag_is r.neg) in
    let size : length b ≡ 16 + (7 * m + n) = omega (arith, length-append middles ends, middles_length r.middle) in
    let over : extra b ≡ n = omega (arith, flag_below r.pos, flag_below r.neg) in
    let count : (length b - 16) / 7 + 1 ≡ suc m = omega arith in
    let place : length b - 1 - extra b ≡ 10 + (length middles + 5) = omega (arith, middles_length r.middle) in
    let flags = ap (slice_index b) place ∙ get_or-append-add cut (middles ++ ends) (length middles + 5) 0
    ∙ get_or-append-add middles ends 5 0 in
    let bearing = h.last.bearing in
    let low = lt-leb 64 (slice_index b 7) (omega arith) in
    let clear = ap (λ (k : ℕ). reserved (attribute1_bytes b 14 k)) count
    ∙ ap reserved (attributes_behind cut (middles ++ ends) 4 (suc m))
    ∙ unreserved r.middle r.last r.pos r.neg h.middle h.last in
    grind (arith, no_fault, or_from, le-ltb, eq-eqb, not_from_true, lt-leb, flag_below r.pos, flag_below r.neg)
