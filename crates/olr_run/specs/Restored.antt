-- A start from a log.
--     IsContentOf text c      the records of the text are accepted one after another from the start, and lead to this
--         content, with no batch open at the end
--     HasContentOf text register, LeadsNowhere text      the register has this content, or there is none
--     Loads l s      the records so far lead to this state, and the loader has its content once the held changes are made
--     Loaded old c new      this command of a log is accepted
--     is_rejection fault      a log is rejected for it, whatever memory there is
--     is_too_many fault, most_log_records      it has more records than this, the most that are restored
--     Refuses l c, RefusesRecord l fields      this command of a log, or a record, is accepted in no state that the loader stands for
use Rattle.std.specs.Prelude.{◌≡◌, ◌^◌, ℕ, Bool, true, false, List, length, Option, Some, None, Ok}
use Rattle.olr_commands.specs.State.{Content, Change, Command, State, start_state, step, with_held}
use Rattle.olr_records.specs.Records.{Field, read}
use Rattle.olr_register.specs.RegisterState.{Represents}
use Rattle.olr_register.specs.Registered.{Registered}
use Rattle.olr_run.specs.Logged.{Accepted, IsLogged, closed}
use Rattle.olr_run.specs.Output.{records_of}
use Rattle.olr_run.specs.declared.loader.Loader.{Loader}
use Rattle.olr_run.specs.declared.loader.RestoreFault.{RestoreFault}
use Rattle.olr_run.specs.declared.loader.RestoreFault.TheVariants as restore

abbrev pub IsContentOf : List ℕ → Content → Type 0
IsContentOf text c = Accepted start_state (records_of text) (closed c)

abbrev pub HasContentOf : List ℕ → Registered → Type 0
HasContentOf text r = (c : Content) × IsContentOf text c × Represents r.state (closed c)

abbrev pub LeadsNowhere : List ℕ → Type 0
LeadsNowhere text = (c : Content) → IsContentOf text c → ⊥

abbrev pub InPlace : Loader → Option (List Change) → Type 0
InPlace l None = l.in_batch ≡ false
InPlace l (Some xs) = (l.in_batch ≡ true) × (l.count ≡ length xs)

pub record Loads (l : Loader) (s : State) : Type 0 where
  pub content : l.building ≡ with_held s.content s.batch
  pub place : InPlace l s.batch

abbrev pub Loaded : Loader → Command → Loader → Type 0
Loaded old c new = (s : State) → Loads old s → (t : State) × (step s c ≡ Ok t) × Loads new t

abbrev pub LoadsRecord : Loader → List Field → Loader → Type 0
LoadsRecord old fields new = (c : Command) × (read fields ≡ Ok c) × IsLogged c × Loaded old c new

abbrev pub is_rejection : RestoreFault → Bool
is_rejection restore.Memory = false
is_rejection restore.TooMany = false
is_rejection fault = true

abbrev pub is_too_many : RestoreFault → Bool
is_too_many restore.TooMany = true
is_too_many fault = false

abbrev pub most_log_records : ℕ
most_log_records = 2 ^ 40

abbrev pub Refuses : Loader → Command → Type 0
Refuses l c = (s : State) → Loads l s → (t : State) → step s c ≡ Ok t → ⊥

abbrev pub RefusesRecord : Loader → List Field → Type 0
RefusesRecord l fields = (c : Command) → read fields ≡ Ok c → IsLogged c → Refuses l c
