use Rattle.olr_ambiguity.proofs.Common.{◌≡◌, ◌<◌, ℕ, Contains, Some, slice_get, coordinate_on, leg, decoded_coord, side_at}
use Rattle.olr_ambiguity.proofs.Common.{Window, IsWindow}
use Rattle.olr_ambiguity.proofs.near.windows.Given as goal

-- of the lines so far
abbrev pub invariant-loop-k : goal.invariant-loop-k
invariant-loop-k g l = (j x : ℕ) → j < l.k → slice_get l.own j ≡ Some x →
    (w : Window) × Contains l.windows.items w
    × IsWindow (decoded_coord l.reference j) (coordinate_on (side_at l.reference j) (leg (g.M.MapRead.map l.map) x)) w
