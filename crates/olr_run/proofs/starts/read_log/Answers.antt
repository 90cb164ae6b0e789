-- The text of the log is what was read.
use Rattle.olr_run.proofs.Common.{◌∙◌, ℕ, List, subst, HasContentOf, LeadsNowhere}
use Rattle.std.specs.Prelude.{◌<◌, length}
use Rattle.olr_run.specs.Output.{records_of}
use Rattle.olr_run.specs.Restored.{most_log_records}
use Rattle.olr_run.proofs.starts.read_log.Goals as goal

pub returns-in-Ok-restore-clause-content : goal.returns-in-Ok-restore-clause-content
returns-in-Ok-restore-clause-content g c = λ clean.
    subst (λ (x : List ℕ). HasContentOf x c.in-Ok-restore.register)
    (c.as_slice.ensures.value ∙ c.in-Ok.ensures.text clean) c.in-Ok-restore.ensures.content

pub returns-clause-refused : goal.returns-clause-refused
returns-clause-refused g c = λ is clean.
    subst LeadsNowhere (c.as_slice.ensures.value ∙ c.in-Ok.ensures.text clean)
    (c.in-Err-restore.ensures.refused is)

pub returns-clause-many : goal.returns-clause-many
returns-clause-many g c = λ is clean.
    subst (λ (x : List ℕ). most_log_records < length (records_of x)) (c.as_slice.ensures.value ∙ c.in-Ok.ensures.text clean)
    (c.in-Err-restore.ensures.many is)
