use Rattle.olr_refs.proofs.Common.{arith, dm_same}
use Rattle.olr_refs.proofs.LegLemmas.{joined_known}
use Rattle.olr_refs.proofs.Stretches.{dm_stretch}
use Rattle.olr_refs.proofs.along.ResolvedPath.between.Goals as goal

pub overflow_sub-result : goal.overflow_sub-result
overflow_sub-result g c =
    let sum =
    dm_stretch _ _ _
    _ _ c.args.self.now.measured c.requires.order c.requires.within in omega arith

pub returns : goal.returns
returns g c = grind (arith, dm_stretch, dm_same, joined_known, g.met.M.MapRead.sound c.args.self.now.map.now)
