use Rattle.olr_renewal.proofs.Common.{on_ok_weaker}
use Rattle.std.proofs.lemmas.Simd.{map-map}
use Rattle.olr_renewal.proofs.detours.begin_detours.Goals as goal

pub returns : goal.returns
returns g c = let raw = c.as_slice-changed.ensures.value in on_ok_weaker c.begin_at-2.result
    (λ after some few. record { before = rw map-map (rw raw at c.in_ok-begin_at.ensures); after = rw map-map (rw raw at after) })
    c.begin_at-2.ensures
