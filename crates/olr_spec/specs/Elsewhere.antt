-- Another map, as a receiver's is, on which the path's own lines stay the unique shortest routes (profile).
--     HasNoOther M N      each line of N is a line of M with the same ends
--     IsNearly a b M N xs      the lines xs are on N, at most a thousandths longer; the others are at most b thousandths
--         shorter
--     IsNearlyAlong a b M N ls      so it is for each part of the lines ls: no line is more than b thousandths shorter
--     HasAlong a M N ls      the lines ls are on N, with the same ends, at most a thousandths longer
--     HasClasses g M N ls      the classes of these lines are at most as much less important as the margin allows
--     InReach N c s most y      line y has at least the importance c, and a route from s over such lines, which is shorter
--         than most, leads to its start
--     IsOurs b M N y      line y is a line of M with the same ends, at most b thousandths shorter
--     HasOurs b M N c s most      each line in reach is ours; all others of N may be anything
--     LegHasOurs g b M N ls p q      so it is for the leg from position p to position q: in reach are the lines of at least
--         its LFRCNP that begin where a route from the end of line p isn't yet as long as the rest of the leg
--     OfLegs Q L ks      Q holds of the positions of each two neighbouring LRPs, and L of those of the last two
--     KeptLines g M P Q      Q holds of the lines from the first remaining LRP of the path to the last
--     KeptLegs g M P Q      Q holds of the positions of each two neighbouring LRPs that remain
--     RecoversLegs g M N ls ks      from the path's own line at each LRP to the next, the shortest route on N over lines
--         of at least the importance that the reference of M names recovers the leg, and nothing else
--     suffices g a b      these differences are within the margin
use Rattle.std.specs.Prelude.{◌≡◌, ℕ, ◌+◌, ◌-◌, ◌*◌, ◌<◌, ◌≤◌, Bool, List, [], ◌∷◌, slice_index, nat_le, ◌↔◌, ⊤, IsTrue, IsFalse}
use Rattle.olr_spec.specs.Map.{Map, has_line, line_at, start, end, dm, has}
use Rattle.olr_spec.specs.Margins.{Margin, allowed}
use Rattle.olr_spec.specs.Extension.{Path}
use Rattle.olr_spec.specs.Points.{stretch, OfPathWith}
use Rattle.olr_spec.specs.Reference.{attrs_with, legs, first_kept, last_kept, kept_points}
use Rattle.olr_spec.specs.Receiver.{RecoversTo, RecoversLast, Within}
use Rattle.olr_spec.specs.Routes.{IsRoute, dm_of}

pub record HasNoOther (M N : Map) : Type 0 where
  pub known : (x : ℕ) → IsTrue (has_line N x) → IsTrue (has_line M x)
  pub starts : (x : ℕ) → IsTrue (has_line N x) → start N x ≡ start M x
  pub ends : (x : ℕ) → IsTrue (has_line N x) → end N x ≡ end M x

-- the lines xs may be shorter by any amount, and the others longer
pub record IsNearly (a b : ℕ) (M N : Map) (xs : List ℕ) : Type 0 where
  pub known : (x : ℕ) → IsTrue (has xs x) → IsTrue (has_line N x)
  pub own : (x : ℕ) → IsTrue (has xs x) → 1000 * dm N x ≤ (1000 + a) * dm M x
  pub others : (y : ℕ) → IsTrue (has_line N y) → IsFalse (has xs y) → (1000 - b) * dm M y ≤ 1000 * dm N y

pub record IsNearlyAlong (a b : ℕ) (M N : Map) (ls : List ℕ) : Type 0 where
  pub known : (x : ℕ) → IsTrue (has ls x) → IsTrue (has_line N x)
  pub own : (x : ℕ) → IsTrue (has ls x) → 1000 * dm N x ≤ (1000 + a) * dm M x
  pub all : (y : ℕ) → IsTrue (has_line N y) → (1000 - b) * dm M y ≤ 1000 * dm N y

pub record HasAlong (a : ℕ) (M N : Map) (ls : List ℕ) : Type 0 where
  pub known : (x : ℕ) → IsTrue (has ls x) → IsTrue (has_line N x)
  pub starts : (x : ℕ) → IsTrue (has ls x) → start N x ≡ start M x
  pub ends : (x : ℕ) → IsTrue (has ls x) → end N x ≡ end M x
  pub own : (x : ℕ) → IsTrue (has ls x) → 1000 * dm N x ≤ (1000 + a) * dm M x

abbrev pub HasClasses : Margin → Map → Map → List ℕ → Type 0
HasClasses g M N ls = (x : ℕ) → IsTrue (has ls x) → (line_at N x).frc ≤ allowed g (line_at M x).frc

-- a receiver's route from s that is shorter than most may go on by line y
pub record InReach (N : Map) (c s most y : ℕ) : Type 0 where
  pub known : IsTrue (has_line N y)
  pub class : (line_at N y).frc ≤ c
  pub way : List ℕ
  pub route : IsRoute N s (start N y) way
  pub within : Within N c way
  pub near : dm_of N way < most

pub record IsOurs (b : ℕ) (M N : Map) (y : ℕ) : Type 0 where
  pub known : IsTrue (has_line M y)
  pub starts : start N y ≡ start M y
  pub ends : end N y ≡ end M y
  pub length : (1000 - b) * dm M y ≤ 1000 * dm N y

abbrev pub HasOurs : ℕ → Map → Map → ℕ → ℕ → ℕ → Type 0
HasOurs b M N c s most = (y : ℕ) → InReach N c s most y → IsOurs b M N y

abbrev pub LegHasOurs : Margin → ℕ → Map → Map → List ℕ → ℕ → ℕ → Type 0
LegHasOurs g b M N ls p q =
    HasOurs b M N (attrs_with g (legs M ls) p q).lfrc (end N (slice_index ls p)) (dm_of N (stretch ls (p + 1) q))

abbrev pub OfLegs : (ℕ → ℕ → Type 0) → (ℕ → ℕ → Type 0) → List ℕ → Type 0
OfLegs Q L (p ∷ q ∷ []) = L p q
OfLegs Q L (p ∷ q ∷ r ∷ ks) = Q p q × OfLegs Q L (q ∷ r ∷ ks)
OfLegs Q L _ = ⊤

abbrev pub KeptLegs : Margin → Map → Path → (List ℕ → ℕ → ℕ → Type 0) → Type 0
KeptLegs g M P Q =
    OfPathWith g M P (λ E _ _ js. OfLegs (Q E.lines) (Q E.lines) (kept_points (legs M E.lines) E.pos E.neg js))

abbrev pub KeptLines : Margin → Map → Path → (List ℕ → Type 0) → Type 0
KeptLines g M P Q =
    OfPathWith g M P (λ E _ _ js.
    Q (stretch E.lines (first_kept (legs M E.lines) E.pos js) (last_kept (legs M E.lines) E.neg js)))

abbrev pub RecoversLegs : Margin → Map → Map → List ℕ → List ℕ → Type 0
RecoversLegs g M N ls =
    let class = λ (p q : ℕ). (attrs_with g (legs M ls) p q).lfrc in
    OfLegs (λ p q. (w : List ℕ) → RecoversTo N (class p q) (slice_index ls p) (slice_index ls q) w ↔ (w ≡ stretch ls p q))
    (λ p q. (w : List ℕ) → RecoversLast N (class p q) (slice_index ls p) (slice_index ls (q - 1)) w ↔ (w ≡ stretch ls p q))

abbrev pub suffices : Margin → ℕ → ℕ → Bool
suffices g a b = nat_le ((1000 + a) * 1000) ((1000 - b) * (1000 + g.routes))
