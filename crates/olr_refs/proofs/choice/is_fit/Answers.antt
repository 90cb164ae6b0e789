use Rattle.olr_refs.proofs.Common.{arith, rules}
use Rattle.olr_refs.proofs.PointLemmas.{close_read}
use Rattle.olr_refs.proofs.choice.is_fit.Goals as goal

pub returns-then-is_some : goal.returns-then-is_some
returns-then-is_some c =
    let lon = close_read _ _ _ _ _ (search rules) (search rules) c.lon.ensures.value c.lon-2.ensures.value c.rel16.ensures in
    let lat = close_read _ _ _ _ _ (search rules) (search rules) c.lat.ensures.value c.lat-then-is_some.ensures.value
    c.rel16-then-is_some.ensures in
    grind arith

pub returns-else-is_some : goal.returns-else-is_some
returns-else-is_some c =
    let lon = close_read _ _ _ _ _ (search rules) (search rules) c.lon.ensures.value c.lon-2.ensures.value c.rel16.ensures in
    grind arith
