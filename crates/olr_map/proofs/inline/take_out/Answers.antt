use Rattle.olr_map.proofs.Turning.{turned_out}
use Rattle.olr_map.proofs.inline.take_out.Goals as goal

pub returns-clause-taken : goal.returns-clause-taken
returns-clause-taken g c =
    turned_out c.args.values.now c.args.at c.args.count _ _ c.requires.within c.requires.few c.rotate_left.ensures.after
