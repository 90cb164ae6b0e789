use Rattle.olr_refs.proofs.Common.{arith}
use Rattle.olr_refs.proofs.LegLemmas.{position_at}
use Rattle.olr_refs.proofs.along.ResolvedPath.place.Goals as goal

pub returns : goal.returns
returns g c = grind (arith, position_at, g.met.M.MapRead.sound c.args.self.now.map.now)
