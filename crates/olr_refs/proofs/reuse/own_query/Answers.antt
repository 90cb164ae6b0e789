use Rattle.olr_refs.proofs.Common.{arith, refl, leb-true, le-leb}
use Rattle.olr_refs.proofs.Reusing.{own_at}
use Rattle.olr_refs.proofs.reuse.own_query.Goals as goal

pub returns : goal.returns
returns g c =
    own_at _ _ _ _ c.requires.reuse c.args.resolved.now.joined _ _ _ _ c.requires.reach c.requires.last (omega arith)
    (omega arith) (omega arith) c.requires.query refl refl (leb-true _ _) (le-leb _ _)
