-- The binary physical format, version 3, of a line location (White Paper, binary format).
--     IsReference r      the fields fit their bits
--     reference_bytes r, HasBytes r b      the bytes that a reference encodes as
--     v3_fault b      the first fault of bytes that decode to no reference
use Rattle.std.specs.Prelude.{◌≡◌, ℕ, zero, suc, ◌+◌, ◌-◌, ◌*◌, ◌/◌, ◌%◌, ◌^◌, ◌<◌, ℤ, pos, negsuc, Bool, not, ◌||◌}
use Rattle.std.specs.Prelude.{List, [], ◌∷◌, ◌++◌, length, flat_map, nat_lt, nat_le, ◌==◌, slice_index, Option, Some}
use Rattle.std.specs.Prelude.{None, IfSome, if◌then◌else◌, IsTrue}
use Rattle.std.specs.List.{list_any, AllByRecursion}
use Rattle.std.specs.Int.{bytes_high_first}
use Rattle.olr_spec.specs.Coordinates.{within, fits16}
use Rattle.olr_spec.specs.Reference.{Attrs, First, Middle, Last, Reference}

-- ---- what can be encoded

-- 3 bits for each class and form of way, 5 for a bearing, 8 for a distance
pub record AreAttrs (a : Attrs) : Type 0 where
  pub frc : a.frc < 8
  pub fow : a.fow < 8
  pub lfrc : a.lfrc < 8
  pub bearing : a.bearing < 32
  pub dnp : a.dnp < 256

-- in two's complement of 24 bits
abbrev pub fits24 : ℤ → Bool
fits24 z = within (negsuc 8388607) (pos 8388607) z

-- 24 bits for each coordinate
pub record IsFirst (p : First) : Type 0 where
  pub lon : IsTrue (fits24 p.lon)
  pub lat : IsTrue (fits24 p.lat)
  pub attrs : AreAttrs p.attrs

-- 16 bits for each coordinate
pub record IsMiddle (p : Middle) : Type 0 where
  pub dlon : IsTrue (fits16 p.dlon)
  pub dlat : IsTrue (fits16 p.dlat)
  pub attrs : AreAttrs p.attrs

pub record IsLast (p : Last) : Type 0 where
  pub dlon : IsTrue (fits16 p.dlon)
  pub dlat : IsTrue (fits16 p.dlat)
  pub frc : p.frc < 8
  pub fow : p.fow < 8
  pub bearing : p.bearing < 32

-- all fields, and 8 bits for each offset
pub record IsReference (r : Reference) : Type 0 where
  pub first : IsFirst r.first
  pub middle : AllByRecursion IsMiddle r.middle
  pub last : IsLast r.last
  pub pos : IfSome r.pos (λ n. n < 256)
  pub neg : IfSome r.neg (λ n. n < 256)

-- ---- encoding

-- z in two's complement modulo m, such as 2^16
abbrev pub residue : ℕ → ℤ → ℕ
residue m (pos n) = n
residue m (negsuc n) = m - suc n

-- high byte first
abbrev pub signed16 : ℤ → List ℕ
signed16 z = bytes_high_first 2 (residue 65536 z)

abbrev pub signed24 : ℤ → List ℕ
signed24 z = bytes_high_first 3 (residue 16777216 z)

-- attribute byte 1: two reserved bits that are 0, FRC, FOW
abbrev pub attribute1 : ℕ → ℕ → ℕ
attribute1 frc fow = 8 * frc + fow

-- attribute byte 2: LFRCNP, bearing
abbrev pub attribute2 : ℕ → ℕ → ℕ
attribute2 lfrc bearing = 32 * lfrc + bearing

abbrev pub attr_bytes : Attrs → List ℕ
attr_bytes a = attribute1 a.frc a.fow ∷ attribute2 a.lfrc a.bearing ∷ a.dnp ∷ []

abbrev pub first_bytes : First → List ℕ
first_bytes p = signed24 p.lon ++ signed24 p.lat ++ attr_bytes p.attrs

abbrev pub middle_bytes : Middle → List ℕ
middle_bytes p = signed16 p.dlon ++ signed16 p.dlat ++ attr_bytes p.attrs

-- 1 if there is an offset
abbrev pub flag : Option ℕ → ℕ
flag None = 0
flag (Some n) = 1

-- attribute byte 4: a reserved bit that is 0, the flags of the two offsets, bearing
abbrev pub attribute4 : Option ℕ → Option ℕ → ℕ → ℕ
attribute4 positive negative bearing = 64 * flag positive + 32 * flag negative + bearing

abbrev pub offset_bytes : Option ℕ → List ℕ
offset_bytes None = []
offset_bytes (Some n) = n ∷ []

abbrev pub last_bytes : Last → Option ℕ → Option ℕ → List ℕ
last_bytes p positive negative =
    signed16 p.dlon ++ signed16 p.dlat ++ attribute1 p.frc p.fow ∷ attribute4 positive negative p.bearing ∷ offset_bytes
    positive ++ offset_bytes negative

-- the status byte: attributes present, version 3
abbrev pub status_byte : ℕ
status_byte = 11

-- status byte, first LRP, LRPs between, last LRP, and an offset byte for each flag that is set
abbrev pub reference_bytes : Reference → List ℕ
reference_bytes r = status_byte ∷ first_bytes r.first ++ flat_map middle_bytes r.middle ++ last_bytes r.last r.pos r.neg

-- the reference r, whose fields fit, encodes as the bytes b
abbrev pub HasBytes : Reference → List ℕ → Type 0
HasBytes r b = IsReference r × (b ≡ reference_bytes r)

-- ---- faults

-- a wrong number of bytes; another status byte; flags for another number of offset bytes; a reserved bit that is set
-- (profile)
pub data V3Fault : Type 0 where
  Length Status Flags Reserved : V3Fault

-- the number of bytes after the LRPs: those of the offsets
abbrev pub extra : List ℕ → ℕ
extra b = (length b - 16) % 7

-- bit k of a byte, where bit 0 is the lowest
abbrev pub bit : ℕ → ℕ → ℕ
bit k byte = byte / 2 ^ k % 2

-- attribute byte 4, which is the last byte before the offsets
abbrev pub flags_of : List ℕ → ℕ
flags_of b = slice_index b (length b - 1 - extra b)

-- attribute byte 1 of n consecutive LRPs, of which the first has it at index i
abbrev pub attribute1_bytes : List ℕ → ℕ → ℕ → List ℕ
attribute1_bytes b i zero = []
attribute1_bytes b i (suc n) = slice_index b i ∷ attribute1_bytes b (i + 7) n

-- a reserved bit is set
abbrev pub has_reserved : List ℕ → Bool
has_reserved b =
    list_any (λ a. nat_le 64 a) (slice_index b 7 ∷ attribute1_bytes b 14 ((length b - 16) / 7 + 1))
    || nat_le 128 (flags_of b)

-- the first fault in this order (profile)
abbrev pub v3_fault : List ℕ → Option V3Fault
v3_fault b =
    if nat_lt (length b) 16 || nat_lt 2 (extra b) then Some Length
    else if not (slice_index b 0 == status_byte) then Some Status
    else if not (bit 6 (flags_of b) + bit 5 (flags_of b) == extra b) then Some Flags
    else if has_reserved b then Some Reserved
    else None
