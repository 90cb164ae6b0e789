use Rattle.olr_run.proofs.Common.{refl}
use Rattle.olr_run.proofs.Restoring.{loads_committed}
use Rattle.olr_run.proofs.loader.Loader.commit.Goals as goal

pub returns-clause-loaded : goal.returns-clause-loaded
returns-clause-loaded c = λ s a.
    loads_committed c.args.self.now _ c.args.count s.content s.batch a refl c.if-not-self.false
    c.if-count-self.false refl
