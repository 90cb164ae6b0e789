use Rattle.olr_run.proofs.Common.{refl}
use Rattle.olr_run.proofs.loader.Loader.new.Goals as goal

pub returns : goal.returns
returns c = record { content = c.new.ensures; place = refl }
