-- What the calls from C do to a register.
--     code_of end      the status that is returned to C for a run
--     Called old records new reply code      the records were carried out, and the reply has their outcomes' texts; or
--         an allocation failed, and it has the first bytes of these texts
--     CalledOf old records new code      the same for the register of a handle
--     IsNew keep      a register of an empty map and no paths, with an empty reply
use Rattle.std.specs.Prelude.{◌≡◌, ℕ, false, List, [], Option, Some, None, Result, Ok, Err, IsSomeAnd}
use Rattle.olr_register.specs.Registered.{Registered, nothing_registered}
use Rattle.olr_run.specs.Output.{Claims, records_of}
use Rattle.olr_run.specs.Runs.{EndedOn}
use Rattle.olr_input.specs.declared.ends.RunFault.{RunFault}
use Rattle.olr_run.specs.declared.statuses.Status.{Status}
use Rattle.olr_run.specs.declared.statuses.Status.TheVariants as status
use Rattle.olr_c.specs.declared.keep.Keep.{Keep}

abbrev pub code_of : Result Status RunFault → ℕ
code_of (Ok status.AllAccepted) = 0
code_of (Ok status.SomeRefused) = 1
code_of (Ok status.Stopped) = 1
code_of (Err fault) = 4

abbrev pub Called : Registered → List ℕ → Registered → List ℕ → ℕ → Type 0
Called old records new reply code =
    (end : Result Status RunFault)
    × EndedOn Claims Claims false old (Some (records_of records)) (Some []) new (Some reply) end × (code ≡ code_of end)

abbrev pub CalledOf : Option Keep → List ℕ → Option Keep → ℕ → Type 0
CalledOf None records new code = (code ≡ 2) × (new ≡ None)
CalledOf (Some old) records new code =
    IsSomeAnd new (λ k. Called old.register records k.register k.reply.items code)

abbrev pub IsNew : Keep → Type 0
IsNew k = (k.register ≡ nothing_registered) × (k.reply.items ≡ [])
