use Rattle.olr_refs.proofs.Common.{arith, subst, DistancesTo}
use Rattle.olr_refs.proofs.Joined.{longer_by, one_more}
use Rattle.olr_refs.proofs.Resolving.{records_length, record_at}
use Rattle.olr_refs.proofs.along.distances.Goals as goal

pub loop-record-preserved : goal.loop-record-preserved
loop-record-preserved c =
    record { are = λ M slot ls e. grind (arith, records_length, record_at, longer_by, one_more); small = omega arith }

pub returns : goal.returns
returns c = λ M slot ls e.
    let long = records_length M slot ls _ e in
    subst (λ k. DistancesTo M ls k c.loop-record.distances.items) (omega arith) (c.loop-record.invariant.are M slot ls e).0
