-- The answer of a path on a map. It depends on no earlier map or answer.
--     Answer, Refusal      a reference, or the reason why the path is not encodable
--     path_fault M P      the first of the reasons that the path's own lines give
--     Encodes M P A, EncodesWith g M P A      A is the answer, with a margin
--     IsPointWith g M P k v      node v is LRP k of its reference
use Rattle.std.specs.Prelude.{◌≡◌, ℕ, suc, ◌+◌, List, ◌∷◌, length, find, nat_le, ◌==◌, not, slice_get, Option, Some, None}
use Rattle.std.specs.Prelude.{option_map, MatchOption, if◌then◌else◌}
use Rattle.std.specs.Option.{option_or}
use Rattle.olr_spec.specs.Margins.{Margin, no_margin}
use Rattle.olr_spec.specs.Map.{Map, has_line, start, end}
use Rattle.olr_spec.specs.Routes.{dm_of}
use Rattle.olr_spec.specs.Extension.{Path}
use Rattle.olr_spec.specs.Points.{node_at, last_position, OfPathWith}
use Rattle.olr_spec.specs.Reference.{Reference, legs, kept_points, reference_with}

-- the reasons, in this order (profile): a line isn't on the map; line k of the path doesn't end where the next starts;
-- the offsets are at least as long as the path; no position may be the next LRP after position k
pub data Refusal : Type 0 where
  Unknown_line : (line : ℕ) → Refusal
  Broken : (k : ℕ) → Refusal
  Offset_too_long : Refusal
  No_next_point : (k : ℕ) → Refusal

pub data Answer : Type 0 where
  Points : (reference : Reference) → Answer
  Refused : (refusal : Refusal) → Answer

-- the first line that isn't on the map
abbrev pub first_unknown : Map → List ℕ → Option ℕ
first_unknown M ls = find (λ x. not (has_line M x)) ls

-- the index, counted from k, of the first line that doesn't end where the next starts
abbrev pub first_break : Map → ℕ → List ℕ → Option ℕ
first_break M k (x ∷ y ∷ ls) = if end M x == start M y then first_break M (suc k) (y ∷ ls) else Some k
first_break M k _ = None

-- the sum of the offsets must be less than the path's length (White Paper, data format rules)
abbrev pub path_fault : Map → Path → Option Refusal
path_fault M P =
    option_or (option_map Unknown_line (first_unknown M P.lines))
    (option_or (option_map Broken (first_break M 0 P.lines))
    (if nat_le (dm_of M P.lines) (P.pos + P.neg) then Some Offset_too_long else None))

-- for an extended path E, by the LRPs after position 0: a reference if the last of them is the end
abbrev pub answer_by_points_with : Margin → Map → Path → List ℕ → Answer
answer_by_points_with g M E js =
    if last_position 0 js == length E.lines
    then Points (reference_with g (legs M E.lines) E.pos E.neg js)
    else Refused (No_next_point (last_position 0 js))

-- A is the answer of the extended path, by its LRPs
abbrev pub EncodingWith : Margin → Map → Path → Answer → Type 0
EncodingWith g M P A = OfPathWith g M P (λ E _ _ js. A ≡ answer_by_points_with g M E js)

-- a reason that the path's own lines give, or else the answer by its LRPs (White Paper, encoding steps)
abbrev pub EncodesWith : Margin → Map → Path → Answer → Type 0
EncodesWith g M P A = MatchOption (path_fault M P) (EncodingWith g M P A) (λ r. A ≡ Refused r)

-- node v is LRP k of the path's reference, counted from 0
abbrev pub IsPointWith : Margin → Map → Path → ℕ → ℕ → Type 0
IsPointWith g M P k v =
    OfPathWith g M P (λ E _ _ js. option_map (node_at M E.lines) (slice_get (kept_points (legs M E.lines) E.pos E.neg js) k)
    ≡ Some v)

-- ---- without a margin, as the program encodes

abbrev pub Encodes : Map → Path → Answer → Type 0
Encodes = EncodesWith no_margin
