-- The machine that reads a record from bytes at hand.
--     csv_state s, csv_action a      a state, and the effect of a byte, in terms of csv's contracts
--     IsFirst text state fields end      the first record of a text, read from a state, and the index and the state
--         after it
--     state_after s line      the state of csv after bytes
use Rattle.std.specs.Prelude.{◌≡◌, ◌≤◌, ℕ, Bool, true, false, List, [], ◌∷◌, drop, length, Option, Some, None}
use Rattle.csv.specs.Machine.{next_record, step}
use Rattle.csv.specs.Reading.{default_config}
use Rattle.csv.specs.declared.parser.Action.{Action as CsvAction}
use Rattle.csv.specs.declared.parser.Action.TheVariants as csv_act
use Rattle.csv.specs.declared.parser.State.{State as CsvState}
use Rattle.csv.specs.declared.parser.State.TheVariants as csv_st
use Rattle.olr_input.specs.declared.machine.Action.{Action}
use Rattle.olr_input.specs.declared.machine.Action.TheVariants as act
use Rattle.olr_input.specs.declared.machine.State.{State}
use Rattle.olr_input.specs.declared.machine.State.TheVariants as st

abbrev pub csv_state : State → CsvState
csv_state st.StartRecord = csv_st.StartRecord
csv_state st.StartField = csv_st.StartField
csv_state st.InField = csv_st.InField
csv_state st.InQuoted = csv_st.InQuoted
csv_state st.AfterQuote = csv_st.AfterQuote
csv_state st.AfterCr = csv_st.AfterCr

abbrev pub csv_action : Action → CsvAction
csv_action act.Skip = csv_act.Skip
csv_action act.Copy = csv_act.Copy
csv_action act.EndField = csv_act.EndField
csv_action act.EndRecord = csv_act.EndRecord

abbrev pub IsFirst : List ℕ → State → List (List ℕ) → Option (ℕ × State) → Type 0
IsFirst text state fields None = next_record default_config (csv_state state) [] [] text ≡ None
IsFirst text state fields (Some end) =
    (end.0 ≤ length text)
    × (next_record default_config (csv_state state) [] [] text ≡ Some (fields, csv_state end.1, drop end.0 text))

abbrev pub state_after : CsvState → List ℕ → CsvState
state_after s [] = s
state_after s (b ∷ bytes) = state_after (step default_config s b).0 bytes

abbrev pub is_quoted : CsvState → Bool
is_quoted csv_st.InQuoted = true
is_quoted _ = false
