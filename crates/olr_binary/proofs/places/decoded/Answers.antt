use Rattle.olr_binary.proofs.Common.{arith}
use Rattle.olr_binary.proofs.PlaceLemmas.{decoded_laws}
use Rattle.olr_binary.proofs.places.decoded.Goals as goal

pub returns : goal.returns
returns c = grind (arith, decoded_laws)
