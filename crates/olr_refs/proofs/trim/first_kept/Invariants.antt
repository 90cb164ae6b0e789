use Rattle.olr_refs.proofs.Common.{◌<◌, ◌≤◌, ◌-◌, length, distance_at}
use Rattle.olr_refs.proofs.trim.first_kept.Given as goal

abbrev pub invariant-loop-first : goal.invariant-loop-first
invariant-loop-first l = (l.first < length l.points) × (distance_at l.distances l.points l.first ≤ l.pos)

abbrev pub decreases-loop-first : goal.decreases-loop-first
decreases-loop-first l = length l.points - l.first
