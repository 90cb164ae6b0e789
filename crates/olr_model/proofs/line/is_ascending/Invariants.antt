use Rattle.std.proofs.Common.{◌≡◌, drop, take, true}
use Rattle.olr_spec.specs.Map.{ascends_between, are_coords}
use Rattle.olr_model.proofs.line.is_ascending.Given as goal

-- the rest is ascending from the last distance on exactly if the whole is, and the coordinates so far are in range
abbrev pub invariant-loop-point : goal.invariant-loop-point
invariant-loop-point l =
    record {
      ascends : ascends_between l.low (drop l.point-index l.shape) l.len ≡ ascends_between 0 l.fn.shape l.len;
      placed : are_coords (take l.point-index l.shape) ≡ true;
    }
