use Rattle.olr_renewal.proofs.Common.{ℕ, ◌<◌, take, length, get_or, IsTrue, has, Includes}
use Rattle.olr_renewal.proofs.candidates.put_positions.Given as goal

-- the positions of the path ids so far are added
abbrev pub invariant-loop-path_id : goal.invariant-loop-path_id
invariant-loop-path_id l = Includes l.initial.found.items l.found.items × ((k : ℕ) → k < length l.path_ids →
    IsTrue (has (take l.path_id-index l.of) (get_or l.path_ids k 0)) → IsTrue (has l.found.items k))
