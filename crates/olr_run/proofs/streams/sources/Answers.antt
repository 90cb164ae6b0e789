-- What the arguments ask for, from their parts.
use Rattle.olr_run.proofs.Common.{Log_lacking, file_bytes, options_of, Not_opened, No_memory, OpensFile, IsLength, No_size, Opens}
use Rattle.olr_run.proofs.Common.{IsFile, Option, Result, NoSize, Known, rules, refl, List, Some, None, Bor, ◌≡◌, Err, Ok, ℕ}
use Rattle.std.specs.Fn.{Once}
use Rattle.olr_run.proofs.streams.sources.Goals as goal

-- ---- what the options say

-- the bytes of the file that was opened
module _ {O F E : Type 0} (call : Once O (Bor (List ℕ) × Unit {0}) (Result F E)) (remaining : F → Known)
    (opener : O) where
  file_is : (name : Option (List ℕ)) (file : Option F) → OpensFile call opener name (Ok file) →
      IsFile name (Opens call remaining opener) (file_bytes remaining file)
  file_is None None h = refl
  file_is None (Some f) h = absurd h
  file_is (Some n) None h = absurd h
  file_is (Some n) (Some f) h = (Ok f, h, refl)

  name_of : (name : Option (List ℕ)) (error : E) → OpensFile call opener name (Err error) →
      (n : List ℕ) × (name ≡ Some n) × Opens call remaining opener n None
  name_of None error h = absurd h
  name_of (Some n) error h = (n, refl, (Err error, h, refl))

no_size : (size : Option (List ℕ)) → IsLength size None → (text : List ℕ) × (size ≡ Some text) × NoSize text
no_size None h = absurd cc
no_size (Some text) h = (text, refl, h)

pub returns-then-lacks_log-clause-refused : goal.returns-then-lacks_log-clause-refused
returns-then-lacks_log-clause-refused g c = Log_lacking (search rules) refl

pub returns-in-Err-clause-refused : goal.returns-in-Err-clause-refused
returns-in-Err-clause-refused g c =
    let n = name_of g.O.FnOnce g.F.Read.remaining c.args.open_records (options_of c.args.options.now).file c.in-Err.error
    c.in-Err.ensures in
    Not_opened n.0 n.1 n.2 refl

pub returns-in_default-clause-refused : goal.returns-in_default-clause-refused
returns-in_default-clause-refused g c =
    let n = no_size (options_of c.args.options.now).compact_at c.in_default.ensures in
    No_size n.0 n.1 n.2 refl

pub returns-in-Err-both_sources-clause-refused : goal.returns-in-Err-both_sources-clause-refused
returns-in-Err-both_sources-clause-refused g c = No_memory c.report_fault.ensures

pub returns-in-Ok-both_sources-clause-left : goal.returns-in-Ok-both_sources-clause-left
returns-in-Ok-both_sources-clause-left g c = (
  file_bytes g.F.Read.remaining c.in-Ok.file,
  file_is g.O.FnOnce g.F.Read.remaining c.args.open_records (options_of c.args.options.now).file c.in-Ok.file c.in-Ok.ensures,
  c.in-Ok-both_sources.ensures,
  c.in-Some.ensures,
)
