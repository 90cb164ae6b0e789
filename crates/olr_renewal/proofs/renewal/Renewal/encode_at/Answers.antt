use Rattle.olr_renewal.proofs.Common.{refl, map-append, results_of}
use Rattle.olr_renewal.proofs.renewal.Renewal.encode_at.Goals as goal

pub returns : goal.returns
returns g c = (
  results_of c.in_ok-published.published.value,
  rw c.deref.ensures at c.in_ok-published.ensures,
  rw (c.in_ok-push.ensures.items, map-append, c.in_ok-path.ensures.cases) refl,
  rw c.deref-2.ensures at c.in_ok-push_if_changed.ensures,
  rw c.encoded-self.ensures refl,
)
