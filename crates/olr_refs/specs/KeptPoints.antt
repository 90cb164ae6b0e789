-- The location reference points (LRPs) of an extended path, by position.
--     later ps      the LRPs after the first
--     ArePoints g M ls ps      ps are position 0 and the LRPs after it, which lead to the end
--     AreKept g M ls ps      ps are at least two, and each but the first may follow the one before it
--     middle_points_of g gs ps      the LRPs of ps between the first and the last, with their fields
--     AreAlong ds ps      their distances ascend from 0 to that of the end; ds are the distances of all positions
--     IsFirstKept ds ps positive k      LRP k is the last that is at most the positive offset from the start
--     IsLastKept ds ps negative k      LRP k is the first that is at most the negative offset from the end
--     AreTrimmed ds ps positive negative ks pos_left neg_left      ks are the LRPs from the one to the other, with
--         these remainders of the offsets
use Rattle.std.specs.Prelude.{◌≡◌, ℕ, ◌+◌, ◌-◌, ◌<◌, ◌≤◌, List, [], ◌∷◌, length, slice_index, slice_range}
use Rattle.olr_spec.specs.Map.{Map}
use Rattle.olr_spec.specs.Margins.{Margin}
use Rattle.olr_spec.specs.Bearings.{Leg}
use Rattle.olr_spec.specs.Reference.{Middle, middle_points_with}
use Rattle.olr_spec.specs.Points.{CandidateWith, FollowWith, last_position}

abbrev pub later : List ℕ → List ℕ
later [] = []
later (p ∷ ps) = ps

pub record ArePoints (g : Margin) (M : Map) (ls ps : List ℕ) : Type 0 where
  pub from_start : ps ≡ 0 ∷ later ps
  pub follow : FollowWith g M ls 0 (later ps)
  pub to_end : last_position 0 (later ps) ≡ length ls

pub record AreKept (g : Margin) (M : Map) (ls ps : List ℕ) : Type 0 where
  pub linked : (k : ℕ) → k + 1 < length ps → CandidateWith g M ls (slice_index ps k) (slice_index ps (k + 1))
  pub two : 2 ≤ length ps

abbrev pub middle_points_of : Margin → List Leg → List ℕ → List Middle
middle_points_of g gs [] = []
middle_points_of g gs (h ∷ []) = []
middle_points_of g gs (h ∷ i ∷ ps) = middle_points_with g gs h i ps

-- the distance of LRP k, by the distances of all positions
abbrev pub distance_at : List ℕ → List ℕ → ℕ → ℕ
distance_at ds ps k = slice_index ds (slice_index ps k)

-- the distance of the end
abbrev pub whole_distance : List ℕ → ℕ
whole_distance ds = slice_index ds (length ds - 1)

-- LRPs of the lines, the last of which is the end
pub record AreAlong (ds ps : List ℕ) : Type 0 where
  pub some : 0 < length ps
  pub start : distance_at ds ps 0 ≡ 0
  pub end : distance_at ds ps (length ps - 1) ≡ whole_distance ds
  pub within : (k : ℕ) → k < length ps → slice_index ps k < length ds
  pub ascend : (j k : ℕ) → j ≤ k → k < length ps → distance_at ds ps j ≤ distance_at ds ps k

-- distances ascend with the LRPs, so that no later LRP is within the offset
pub record IsFirstKept (ds ps : List ℕ) (positive k : ℕ) : Type 0 where
  pub within : k < length ps
  pub near : distance_at ds ps k ≤ positive
  pub next : k + 1 < length ps → positive < distance_at ds ps (k + 1)

pub record IsLastKept (ds ps : List ℕ) (negative k : ℕ) : Type 0 where
  pub within : k < length ps
  pub near : whole_distance ds ≤ distance_at ds ps k + negative
  pub before : 0 < k → distance_at ds ps (k - 1) + negative < whole_distance ds

pub record AreTrimmed (ds ps : List ℕ) (positive negative : ℕ) (ks : List ℕ) (pos_left neg_left : ℕ) : Type 0 where
  pub first : ℕ
  pub last : ℕ
  pub is_first : IsFirstKept ds ps positive first
  pub is_last : IsLastKept ds ps negative last
  pub range : ks ≡ slice_range ps first (last + 1)
  pub pos_cut : distance_at ds ps first + pos_left ≡ positive
  pub neg_cut : whole_distance ds + neg_left ≡ distance_at ds ps last + negative
