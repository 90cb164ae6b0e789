-- A register that is built from changes, before any path is encoded.
--     IsChange c      the command makes a change
--     Changes old c new      the change leads from the old content to the new one
--     Refuses old c fault      the change may be rejected with this fault
--     Builds old c result new      it is made, or it is rejected and nothing changes
--     EncodedOnce r      the count of encodings is the number of paths
use Rattle.std.specs.Prelude.{◌≡◌, length, Result, Ok, OnOk, OnErr, IfErr}
use Rattle.olr_commands.specs.State.{Content, Change, Command, Fault, Make, with_change}
use Rattle.olr_commands.specs.Words.{command_fault_of}
use Rattle.olr_commands.specs.declared.fault.CommandFault.{CommandFault}
use Rattle.olr_search.specs.Counts.{raised_count}
use Rattle.olr_register.specs.BatchChanges.{MayReport}
use Rattle.olr_register.specs.Registered.{Registered}

abbrev pub IsChange : Command → Type 0
IsChange c = (x : Change) × (c ≡ Make x)

abbrev pub Changes : Content → Command → Content → Type 0
Changes old c new = (x : Change) → c ≡ Make x → with_change old x ≡ Ok new

abbrev pub Refuses : Content → Command → Fault → Type 0
Refuses old c fault = (x : Change) → c ≡ Make x → MayReport (with_change old x) fault

pub record Builds (old : Content) (c : Command) (result : Result (Unit {0}) CommandFault) (new : Content) : Type 0 where
  pub made : OnOk result (Changes old c new)
  pub refused : IfErr result (λ f. Refuses old c (command_fault_of f))
  pub unchanged : OnErr result (new ≡ old)

abbrev pub EncodedOnce : Registered → Type 0
EncodedOnce r = r.work.encodings ≡ raised_count 0 (length r.state.content.paths)
