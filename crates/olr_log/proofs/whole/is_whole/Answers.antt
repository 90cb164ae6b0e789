use Rattle.olr_log.proofs.Common.{◌+◌, ◌∙◌, ℕ, Bool, sym, subst}
use Rattle.olr_log.proofs.WholeTexts.{Reads, reads_byte, reads_line}
use Rattle.olr_log.proofs.whole.is_whole.Goals.{then-text-i-eq10, else-text-i-eq10}
use Rattle.olr_log.proofs.whole.is_whole.Goals as goal

pub bytes-preserved : goal.bytes-preserved
bytes-preserved c = elim c.if-text-i-eq10.branch [
  | then-text-i-eq10 w ↦
      subst (λ (x : Bool × ℕ). Reads c.args.text.now x.0 x.1 (c.bytes.i + 1))
      (λ n. (sym (w.is_open-is ∙ w.stays_open-is_open.ensures) n, sym w.start-is n))
      (reads_line c.args.text.now c.bytes.is_open c.bytes.start c.bytes.i c.bytes.invariant c.bytes-test.true
      w.if-text-i-eq10.true)
  | else-text-i-eq10 w ↦
      subst (λ (x : Bool × ℕ). Reads c.args.text.now x.0 x.1 (c.bytes.i + 1))
      (λ n. (sym w.is_open-is n, sym w.start-is n))
      (reads_byte c.args.text.now c.bytes.is_open c.bytes.start c.bytes.i c.bytes.invariant c.bytes-test.true
      c.if-text-i-eq13.false w.if-text-i-eq10.false)
]
