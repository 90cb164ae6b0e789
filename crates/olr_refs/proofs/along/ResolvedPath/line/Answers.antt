use Rattle.olr_refs.proofs.Common.{arith, get_or_default}
use Rattle.olr_refs.proofs.Joined.{known_get}
use Rattle.olr_refs.proofs.LegLemmas.{record_sound}
use Rattle.olr_refs.proofs.along.ResolvedPath.line.Goals as goal

pub returns : goal.returns
returns g c = grind (arith, record_sound, known_get, get_or_default, g.met.M.MapRead.sound c.args.self.now.map.now)
