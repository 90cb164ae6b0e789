use Rattle.olr_renewal.proofs.Common.{refl}
use Rattle.olr_renewal.proofs.renewal.Renewal.advance.Goals as goal

pub returns-in-Skip : goal.returns-in-Skip
returns-in-Skip g c = rw c.in-Skip.is refl

pub returns-in-Retain : goal.returns-in-Retain
returns-in-Retain g c = rw c.in-Retain.is (refl, refl, rw c.encoded-self.ensures refl)
