use Rattle.olr_records.proofs.Common.{arith, fields_of}
use Rattle.olr_records.proofs.ReadLemmas.{explain_is}
use Rattle.olr_records.proofs.read.text_to_explain.Goals as goal
use Rattle.olr_records.proofs.read.text_to_explain.Goals.{in_default-via-in-Explain+else-len-eq2, in_default-via-in_default}

pub returns-in_default-clause-none : goal.returns-in_default-clause-none
returns-in_default-clause-none c = λ text e.
    let is = explain_is (fields_of c.args.row.now.fields) text e in
    elim c.in_default.branch [
      | in_default-via-in-Explain+else-len-eq2 w ↦ grind (arith, is)
      | in_default-via-in_default w ↦ grind (arith, is)
    ]
