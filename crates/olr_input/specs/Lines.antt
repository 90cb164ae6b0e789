-- Lines that are whole records.
--     has_line some bytes      bytes begin with a line that ends, isn't empty and has no quote, after empty lines; some is
--         whether bytes of that line came before
--     HasLinesUpTo last bytes      so it is from each index below this one on, if bytes of a line came before
--     IsWhole bytes      bytes begin with a whole record, as csv reads it, whatever follows them
use Rattle.std.specs.Prelude.{◌≡◌, ℕ, ◌==◌, ◌<◌, Bool, true, false, not, ◌||◌, if◌then◌else◌, List, [], ◌∷◌, ◌++◌, drop}
use Rattle.std.specs.Prelude.{Some, ◌⊎◌}
use Rattle.csv.specs.Machine.{next_record, line_feed, carriage_return}
use Rattle.csv.specs.Reading.{default_config}
use Rattle.csv.specs.declared.parser.State.{State}
use Rattle.csv.specs.declared.parser.State.TheVariants as st

abbrev pub is_line_end : ℕ → Bool
is_line_end byte = (byte == line_feed) || (byte == carriage_return)

abbrev pub has_line : Bool → List ℕ → Bool
has_line some [] = false
has_line some (byte ∷ bytes) =
    if byte == default_config.quote then false
    else if not (is_line_end byte) then has_line true bytes
    else if some then true
    else has_line false bytes

pub record HasLinesUpTo (last : ℕ) (bytes : List ℕ) : Type 0 where
  pub each : (i : ℕ) → i < last → has_line true (drop i bytes) ≡ true

-- after the end of a record csv is in one of these two states
abbrev pub BetweenRecords : State → Type 0
BetweenRecords s = (s ≡ st.StartRecord) ⊎ (s ≡ st.AfterCr)

abbrev pub IsWhole : List ℕ → Type 0
IsWhole bytes =
    (s : State) → BetweenRecords s → (fields : List (List ℕ)) × (t : State) × (rest : List ℕ)
    × ((more : List ℕ) → next_record default_config s [] [] (bytes ++ more) ≡ Some (fields, t, rest ++ more))
