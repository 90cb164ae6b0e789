use Rattle.olr_run.proofs.Common.{refl}
use Rattle.olr_run.proofs.Restoring.{loads_begun}
use Rattle.olr_run.proofs.loader.Loader.begin.Goals as goal

pub returns-clause-loaded : goal.returns-clause-loaded
returns-clause-loaded c = λ s a. loads_begun c.args.self.now _ s.content s.batch a refl c.if-self.false refl refl
