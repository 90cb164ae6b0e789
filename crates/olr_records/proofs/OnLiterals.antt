-- What a proof unfolds to compute the texts of numbers and of degrees on literals.
use Rattle.olr_records.proofs.Common.{⊤}
use Rattle.std.specs.Fmt.{digits}
use Rattle.olr_coords.specs.DegreesText.{decimals}

unfoldable pub on_literals : ⊤
unfolding digits decimals
on_literals = tt
