-- A receiver's map on which roads are split (profile): line x of M is the lines chain x of N there, in driving order.
--     chains chain xs      the lines of N that the lines xs of M are
--     IsNode M v      a line of M begins or ends at node v
--     IsInner M N c s most y z      z is the next line of a road behind y: no line of M begins or ends between, and what is
--         in reach there goes on by z or turns round
--     IsRoad b M N chain c s most x      line x of M is a road of N, at most b thousandths shorter, with inner nodes alone
--         between its lines
--     HasRoads b M N chain c s most      each line in reach is one of such a road; all others of N may be anything
--     HasRoadsAlong g a M N chain ls      the lines ls are roads of N, at most a thousandths longer, with classes within the
--         margin, and no line of N is in two of them
--     LegHasRoads g b M N chain ls p q      what is in reach of the leg from position p to position q are roads, and the leg is
--         the unique shortest path from its first line on, or, if that line isn't split, from the end of that line on
--     LastHasRoads g b M N chain ls p q      so it is for the last leg, or for what is before its last line, if that isn't split
--     HasKeptRoads g b M N chain P      so it is for each leg of a path
--     RecoversLeg g M N chain ls p q, RecoversLastLeg      so it is for one leg, and for the last one
--     RecoversRoads g M N chain ls ks      from the first line of the path's own road at each LRP to the next, or to the last
--         line of the road at the last LRP, the shortest route on N recovers the roads of the leg, and nothing else
use Rattle.std.specs.Prelude.{◌≡◌, ℕ, ◌+◌, ◌-◌, ◌*◌, ◌<◌, ◌≤◌, List, [], ◌∷◌, ◌++◌, length, slice_index, ◌↔◌, ◌⊎◌, IsTrue}
use Rattle.olr_spec.specs.Map.{Map, has_line, line_at, start, end, dm, has}
use Rattle.olr_spec.specs.Extension.{Path, first, last, none_twice}
use Rattle.olr_spec.specs.Points.{stretch, OfPathWith}
use Rattle.olr_spec.specs.Reference.{attrs_with, legs, kept_points}
use Rattle.olr_spec.specs.Receiver.{RecoversTo, RecoversLast, Within}
use Rattle.olr_spec.specs.Routes.{IsRoute, dm_of, UniqueShortest}
use Rattle.olr_spec.specs.Margins.{Margin, counted, allowed}
use Rattle.olr_spec.specs.Elsewhere.{InReach, OfLegs}

abbrev pub chains : (ℕ → List ℕ) → List ℕ → List ℕ
chains chain [] = []
chains chain (x ∷ xs) = chain x ++ chains chain xs

abbrev pub IsNode : Map → ℕ → Type 0
IsNode M v = (x : ℕ) × IsTrue (has_line M x) × ((start M x ≡ v) ⊎ (end M x ≡ v))

pub record IsInner (M N : Map) (c s most y z : ℕ) : Type 0 where
  pub new : ¬ IsNode M (end N y)
  pub onward : (w : ℕ) → InReach N c s most w → start N w ≡ end N y → (w ≡ z) ⊎ (end N w ≡ start N y)

pub record IsRoad (b : ℕ) (M N : Map) (chain : ℕ → List ℕ) (c s most x : ℕ) : Type 0 where
  pub known : IsTrue (has_line M x)
  pub route : IsRoute N (start M x) (end M x) (chain x)
  pub length : (1000 - b) * dm M x ≤ 1000 * dm_of N (chain x)
  pub inner : (before after : List ℕ) (y z : ℕ) → chain x ≡ before ++ y ∷ z ∷ after → IsInner M N c s most y z

abbrev pub HasRoads : ℕ → Map → Map → (ℕ → List ℕ) → ℕ → ℕ → ℕ → Type 0
HasRoads b M N chain c s most =
    (y : ℕ) → InReach N c s most y → (x : ℕ) × IsRoad b M N chain c s most x × IsTrue (has (chain x) y)

pub record HasRoadsAlong (g : Margin) (a : ℕ) (M N : Map) (chain : ℕ → List ℕ) (ls : List ℕ) : Type 0 where
  pub some : (x : ℕ) → IsTrue (has ls x) → 0 < length (chain x)
  pub routes : (x : ℕ) → IsTrue (has ls x) → IsRoute N (start M x) (end M x) (chain x)
  pub own : (x : ℕ) → IsTrue (has ls x) → 1000 * dm_of N (chain x) ≤ (1000 + a) * dm M x
  pub classes : (x : ℕ) → IsTrue (has ls x) → Within N (allowed g (line_at M x).frc) (chain x)
  pub once : IsTrue (none_twice (chains chain ls))

-- of the leg from position p to position q the lines up to position k, which lead to node t
pub data PartHasRoads (g : Margin) (b : ℕ) (M N : Map) (chain : ℕ → List ℕ) (ls : List ℕ) (p q k t : ℕ) : Type 0 where
  Whole : UniqueShortest (counted g M (stretch ls p k)) (start M (slice_index ls p)) t (stretch ls p k) →
      HasRoads b M N chain (attrs_with g (legs M ls) p q).lfrc (start M (slice_index ls p)) (dm_of N (chains chain (stretch ls p k))) →
      PartHasRoads g b M N chain ls p q k t
  Behind : chain (slice_index ls p) ≡ first (chain (slice_index ls p)) ∷ [] →
      UniqueShortest (counted g M (stretch ls (p + 1) k)) (end M (slice_index ls p)) t (stretch ls (p + 1) k) →
      HasRoads b M N chain (attrs_with g (legs M ls) p q).lfrc (end M (slice_index ls p)) (dm_of N (chains chain (stretch ls (p + 1) k))) →
      PartHasRoads g b M N chain ls p q k t

abbrev pub LegHasRoads : Margin → ℕ → Map → Map → (ℕ → List ℕ) → List ℕ → ℕ → ℕ → Type 0
LegHasRoads g b M N chain ls p q = PartHasRoads g b M N chain ls p q q (end M (slice_index ls (q - 1)))

abbrev pub LastHasRoads : Margin → ℕ → Map → Map → (ℕ → List ℕ) → List ℕ → ℕ → ℕ → Type 0
LastHasRoads g b M N chain ls p q =
    let y = slice_index ls (q - 1) in
    LegHasRoads g b M N chain ls p q
    ⊎ ((chain y ≡ first (chain y) ∷ []) × (p + 1 < q) × PartHasRoads g b M N chain ls p q (q - 1) (start M y))

abbrev pub HasKeptRoads : Margin → ℕ → Map → Map → (ℕ → List ℕ) → Path → Type 0
HasKeptRoads g b M N chain P =
    OfPathWith g M P (λ E _ _ js.
    OfLegs (LegHasRoads g b M N chain E.lines) (LastHasRoads g b M N chain E.lines) (kept_points (legs M E.lines) E.pos E.neg js))

-- the roads of one leg, and of the last one
abbrev pub RecoversLeg : Margin → Map → Map → (ℕ → List ℕ) → List ℕ → ℕ → ℕ → Type 0
RecoversLeg g M N chain ls p q =
    (w : List ℕ) → RecoversTo N (attrs_with g (legs M ls) p q).lfrc (first (chain (slice_index ls p))) (first (chain (slice_index ls q))) w
    ↔ (w ≡ chains chain (stretch ls p q))

abbrev pub RecoversLastLeg : Margin → Map → Map → (ℕ → List ℕ) → List ℕ → ℕ → ℕ → Type 0
RecoversLastLeg g M N chain ls p q =
    (w : List ℕ) → RecoversLast N (attrs_with g (legs M ls) p q).lfrc (first (chain (slice_index ls p))) (last (chain (slice_index ls (q - 1)))) w
    ↔ (w ≡ chains chain (stretch ls p q))

abbrev pub RecoversRoads : Margin → Map → Map → (ℕ → List ℕ) → List ℕ → List ℕ → Type 0
RecoversRoads g M N chain ls = OfLegs (RecoversLeg g M N chain ls) (RecoversLastLeg g M N chain ls)
