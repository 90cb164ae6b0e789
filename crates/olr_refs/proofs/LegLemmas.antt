-- The legs of joined lines, by the lines and their distances.
use Rattle.olr_refs.proofs.Common.{arith, ◌≡◌, ◌<◌, ◌-◌, ℕ, List, length, take, drop, map, max, ap, ◌∙◌, get_or-map, take-map}
use Rattle.olr_refs.proofs.Common.{slice_index, slice_range, IsTrue, Map, IsMap, has_line, has_node, coord_at, node_at, stretch}
use Rattle.olr_refs.proofs.Common.{Attrs, attrs_with, leg, legs, leg_at, position, dm_between, Each, AreJoined}
use Rattle.olr_refs.proofs.Common.{ResolvedLine, records_of, ◌/◌, drop-map, fold, Line, is_good, line_at, bearing_out, no_leg}
use Rattle.olr_refs.proofs.Common.{position_is, route_known, Margin, allowed, map-map}
use Rattle.olr_bearing.specs.declared.places.Ends.{Ends}
use Rattle.olr_bearing.specs.Legs as ends

-- each of them is on the map
pub joined_known : (M : Map) (ls : List ℕ) → AreJoined M ls → Each (λ x. IsTrue (has_line M x)) ls
joined_known M ls w = route_known M _ _ ls w

pub position_at : (M : Map) → IsMap M → (ls : List ℕ) (i : ℕ) → AreJoined M ls → 0 < length ls →
    position (legs M ls) i ≡ coord_at M (node_at M ls i)
position_at M m ls i w n = position_is M m ls (joined_known M ls w) i n

pub leg_at-legs : (M : Map) (ls : List ℕ) (i : ℕ) → i < length ls → leg_at (legs M ls) i ≡ leg M (slice_index ls i)
leg_at-legs M ls i h = get_or-map (leg M) ls i 0 no_leg h

range_map : {X : Type 0} (f : ℕ → X) (ls : List ℕ) (i j : ℕ) → slice_range (map f ls) i j ≡ map f (stretch ls i j)
range_map f ls i j = ap (take (j - i)) (drop-map f i ls) ∙ take-map f (j - i) (drop i ls)

-- the leg of line i, by its record and the coordinates of its ends
pub leg_read : (M : Map) (ls : List ℕ) (i : ℕ) (l : Line) (e : Ends) → i < length ls →
    l ≡ line_at M (slice_index ls i) → e.from ≡ coord_at M l.from → e.to ≡ coord_at M l.to
    → ends.leg_between l e ≡ leg_at (legs M ls) i
leg_read M ls i l e h is from to = grind (arith, leg_at-legs)

-- what is known of the record of a line of the map
pub record_sound : (M : Map) → IsMap M → (x : ℕ) (l : Line) → IsTrue (has_line M x) → l ≡ line_at M x →
    IsTrue (is_good l) × IsTrue (has_node M l.from) × IsTrue (has_node M l.to)
record_sound M m x l h e = grind (arith, is_good, has_node)

-- ---- attributes

class_read : (M : Map) (slot : ℕ → ℕ) (ls : List ℕ) (rs : List ResolvedLine) (i j : ℕ) → rs ≡ records_of M slot ls →
    fold max 0 (map (λ r. r.frc) (stretch rs i j)) ≡ fold max 0 (map (λ g. g.line.frc) (slice_range (legs M ls) i j))
class_read M slot ls rs i j e = grind (arith, range_map, map-map)

pub attrs_read : (g : Margin) (M : Map) (slot : ℕ → ℕ) (ls : List ℕ) (rs : List ResolvedLine) (i j frc fow lfrc bearing d : ℕ) (l : Line)
    (e : Ends) → rs ≡ records_of M slot ls →
    ends.leg_between l e ≡ leg_at (legs M ls) i → frc ≡ l.frc → fow ≡ l.fow
    → lfrc ≡ allowed g (fold max 0 (map (λ r. r.frc) (stretch rs i j))) → bearing ≡ bearing_out (ends.leg_between l e) →
    d ≡ dm_between (legs M ls) i j
    → ◌≡◌ {A = Attrs} (record { frc = frc; fow = fow; lfrc = lfrc; bearing = bearing; dnp = d / 586 })
    (attrs_with g (legs M ls) i j)
attrs_read g M slot ls rs i j frc fow lfrc bearing d l e resolved is hr hf hl hb hd = grind (arith, class_read)
