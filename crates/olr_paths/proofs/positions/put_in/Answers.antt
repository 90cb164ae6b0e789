use Rattle.olr_paths.proofs.Common.{◌∙◌}
use Rattle.olr_paths.proofs.NotedPositions.{all_same}
use Rattle.olr_paths.proofs.positions.put_in.Goals as goal

pub invariant_of-list : goal.invariant_of-list
invariant_of-list c =
    let l = c.truncate.new.self in
    record {
      long = l.long;
      ascend = l.ascend;
      noted = l.noted;
      encoded = λ off. all_same c.args.list.now.paths.entries l.paths.entries
          ((rw c.len-count.ensures.len at c.truncate.ensures) ∙ c.make_room.ensures.before)
          (c.args.list.now.encoded off);
    }
