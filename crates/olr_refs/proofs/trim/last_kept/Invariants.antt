use Rattle.olr_refs.proofs.Common.{◌≡◌, ◌<◌, ◌≤◌, ◌+◌, length, distance_at, whole_distance}
use Rattle.olr_refs.proofs.trim.last_kept.Given as goal

abbrev pub invariant-loop-last : goal.invariant-loop-last
invariant-loop-last l = (l.last < length l.points) × (l.end ≤ distance_at l.distances l.points l.last + l.neg)
    × (l.end ≡ whole_distance l.distances)

abbrev pub decreases-loop-last : goal.decreases-loop-last
decreases-loop-last l = l.last
