use Rattle.olr_log.proofs.WholeTexts.{Reads}
use Rattle.olr_log.proofs.whole.is_whole.Given as goal

-- the lines so far were read
abbrev pub invariant-bytes : goal.invariant-bytes
invariant-bytes l = Reads l.fn.text l.is_open l.start l.i
