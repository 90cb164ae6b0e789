-- After each byte, the part that was read and the rest still make the same record.
use Rattle.olr_input.proofs.Common.{◌∙◌, arith}
use Rattle.olr_input.proofs.CsvBytes.{did, copied, skipped, field_ended, record_ended, text_ended, none_left}
use Rattle.olr_input.proofs.machine.first_record.Goals.{in-Copy, in-Skip+in_ok-extend_from_slice-in-Skip}
use Rattle.olr_input.proofs.machine.first_record.Goals.{in-EndField+in_ok-end_field-in-EndField}
use Rattle.olr_input.specs.declared.machine.Action.TheVariants as act
use Rattle.olr_input.proofs.machine.first_record.Goals as goal

pub bytes-preserved : goal.bytes-preserved
bytes-preserved c =
    grind (
      arith,
      in-Copy,
      did,
      copied,
      in-Skip+in_ok-extend_from_slice-in-Skip,
      skipped,
      in-EndField+in_ok-end_field-in-EndField,
      field_ended,
    )

pub returns-in-EndRecord : goal.returns-in-EndRecord
returns-in-EndRecord c =
    let inv = c.bytes.invariant in
    let e = did c.next-to.result act.EndRecord _ c.next-to.ensures c.in-EndRecord.is in
    let ended = c.in_ok-end_field-in-EndRecord.ensures in (
      omega (arith, c.bytes-test.true),
      inv.2 ∙ record_ended _ _ _ _ _ _ c.bytes.i c.bytes-test.true (rw inv.1 at ended.fields) e,
    )

pub returns-then-not-ends_record : goal.returns-then-not-ends_record
returns-then-not-ends_record c = grind (arith, none_left)

pub returns : goal.returns
returns c = grind (arith, text_ended)
