-- What is written if the arguments ask for no run.
--     ExplainsFault output fault before later code      by the fault of the arguments, where output is the text of an
--         error, if it is known
--     Explains kinds before later code      the same by clap's kinds of error: arguments with these kinds are answered
--         with help, the version or a fault
--     Shows      a text is written
use Rattle.std.specs.Prelude.{◌≡◌, ℕ, List, ◌++◌, Result, Ok, Err, None, ◌⊎◌, IfSome}
use Rattle.std.specs.Io.KnownBytes.{Appends}
use Rattle.clap.specs.Kinds.{Kinds}
use Rattle.clap.specs.declared.error.Error.{Error}
use Rattle.olr_run.specs.Options.{IsOptionsFault}
use Rattle.olr_run.specs.declared.arguments.OptionsFault.{OptionsFault}
use Rattle.olr_run.specs.declared.arguments.OptionsFault.TheVariants as opts
use Rattle.olr_input.specs.Sessions.{Known}
use Rattle.olr_input.specs.declared.ends.RunFault.{RunFault}
use Rattle.olr_input.specs.declared.ends.RunFault.TheVariants as fault

-- a text was written: exactly this one if it is known
abbrev pub Adds : Known → Known → Known → Type 0
Adds text before later = (t : List ℕ) × Appends before later t × IfSome text (λ x. t ≡ x)

-- its first bytes
abbrev pub AddsFront : Known → Known → Known → Type 0
AddsFront text before later =
    (front rest : List ℕ) × Appends before later front × IfSome text (λ x. x ≡ front ++ rest)

-- a text was written and sent; it was not sent, or only its first bytes were written; or nothing was, out of memory
abbrev pub Shows : Known → Known → Known → Result (Unit {0}) RunFault → Type 0
Shows text before later (Ok done) = Adds text before later
Shows text before later (Err fault.Write) = AddsFront text before later
Shows text before later (Err fault.Memory) = later ≡ before
Shows text before later (Err e) = ⊥

-- by the status: help or the version is written, as above, with 0, 3 and 4; a fault has status 2, and out of memory 4
abbrev pub ExplainsFault : {D : Type 0} → (D → Known) → OptionsFault D → Known → Known → ℕ → Type 0
ExplainsFault output (opts.Help e) before later code =
    (Adds (output e) before later × (code ≡ 0)) ⊎ (AddsFront (output e) before later × (code ≡ 3))
    ⊎ ((later ≡ before) × (code ≡ 4))
ExplainsFault output (opts.Wrong e) before later code = (later ≡ before) × (code ≡ 2)
ExplainsFault output opts.Memory before later code = (later ≡ before) × (code ≡ 4)

-- the text of clap's error has no definition
abbrev pub Explains : Kinds → Known → Known → ℕ → Type 0
Explains kinds before later code =
    (fault : OptionsFault Error) × IsOptionsFault kinds fault × ExplainsFault (λ _. None) fault before later code
