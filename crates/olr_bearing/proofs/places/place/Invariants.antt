use Rattle.olr_spec.proofs.Common.{◌≡◌, ℕ, ◌<◌, ◌≤◌, List, [], ◌∷◌, ◌++◌, IsTrue, drop, ShapePoint, ascends_between}
use Rattle.olr_spec.proofs.Common.{Leg, scaled_on, scaled_coord}
use Rattle.olr_bearing.specs.Legs.{leg_between}
use Rattle.olr_bearing.proofs.places.place.Given as goal

-- the line's end, as the last of its shape points
abbrev pub end_point : Leg → ShapePoint
end_point g = record { at = g.line.len; place = g.finish }

-- the coordinate at `at` is at or after the shape point `from`, and is found among the shape points `rest` and the
-- line's end
pub record Reached (g : Leg) (at : ℕ) (from : ShapePoint) (rest : List ShapePoint) : Type 0 where
  pub behind : from.at ≤ at
  pub inside : from.at < g.line.len
  pub ascends : IsTrue (ascends_between from.at rest g.line.len)
  pub found : scaled_on from (rest ++ end_point g ∷ []) at ≡ scaled_coord g at

abbrev pub invariant-loop-to : goal.invariant-loop-to
invariant-loop-to l = Reached (leg_between l.line l.ends) l.at l.from (drop l.to-index l.to-items)
