use Rattle.olr_input.proofs.Common.{prepend_known-nil}
use Rattle.olr_input.proofs.blocks.Blocks.new.Goals as goal

pub returns-clause-left : goal.returns-clause-left
returns-clause-left g c = prepend_known-nil (g.R.Read.remaining c.args.input)
