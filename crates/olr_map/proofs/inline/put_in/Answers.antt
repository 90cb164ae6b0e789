use Rattle.olr_map.proofs.Turning.{turned_in}
use Rattle.olr_map.proofs.inline.put_in.Goals as goal

pub returns-clause-put : goal.returns-clause-put
returns-clause-put g c =
    turned_in c.args.values.now c.args.at c.args.count c.args.value _ _ c.requires.within c.requires.room
    c.rotate_right.ensures.after
