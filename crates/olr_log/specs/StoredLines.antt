-- Lines of accepted commands, as a log stores them.
--     effect_of fields      what a record does to a log, if it is accepted
--     line_of fields      the line of a record, with its line end
--     stored_line fields      this line, if the record is stored in a log, or nothing
--     Waiting      the lines that are ready to be stored, and those of the open batch, which wait for its commit
--     concluded effect line w      the same after an accepted record
use Rattle.std.specs.Prelude.{◌≡◌, ◌≢◌, ◌≤◌, ◌-◌, ◌==◌, ℕ, Bool, true, false, not, ◌&&◌, ◌||◌, if◌then◌else◌, List, []}
use Rattle.std.specs.Prelude.{◌∷◌, ◌++◌, length, take, drop}
use Rattle.std.specs.List.{list_all, join_with_byte}
use Rattle.olr_input.specs.Buffers.{is_empty}
use Rattle.olr_input.specs.RecordWords.{word_effect}
use Rattle.olr_log.specs.Journals.{is_whole, is_whole_from}
use Rattle.olr_input.specs.declared.record.Effect.{Effect}
use Rattle.olr_input.specs.declared.record.Effect.TheVariants as effect

-- ---- records

-- a line holds no line end
abbrev pub is_clean_byte : ℕ → Bool
is_clean_byte b = not ((b == 10) || (b == 13))

abbrev pub is_clean : List ℕ → Bool
is_clean text = list_all is_clean_byte text

-- whether it is stored as a line
abbrev pub has_line : Effect → Bool
has_line effect.Change = true
has_line effect.Begin = true
has_line effect.Commit = true
has_line _ = false

-- whether the log is to be replaced
abbrev pub is_compact : Effect → Bool
is_compact effect.Compact = true
is_compact _ = false

abbrev pub effect_of : List (List ℕ) → Effect
effect_of fields =
    if has_line (word_effect fields) && not (is_clean (join_with_byte 44 fields)) then effect.Nothing
    else word_effect fields

abbrev pub line_of : List (List ℕ) → List ℕ
line_of fields = join_with_byte 44 fields ++ 10 ∷ []

abbrev pub line_if : Bool → List ℕ → List ℕ
line_if stored line = if stored then line else []

abbrev pub stored_line : List (List ℕ) → List ℕ
stored_line fields = line_if (has_line (effect_of fields)) (line_of fields)

-- ---- what waits

pub record Waiting : Type 0 where
  pub ready : List ℕ
  pub batch : List ℕ

abbrev pub concluded : Effect → List ℕ → Waiting → Waiting
concluded effect.Nothing line w = w
concluded effect.Change line w =
    if is_empty w.batch then record { ready = w.ready ++ line; batch = [] }
    else record { ready = w.ready; batch = w.batch ++ line }
concluded effect.Begin line w = record { ready = w.ready; batch = w.batch ++ line }
concluded effect.Commit line w = record { ready = w.ready ++ (w.batch ++ line); batch = [] }
concluded effect.Abort line w = record { ready = w.ready; batch = [] }
concluded effect.Compact line w = w

-- ---- which lines are whole

-- a text leads from a batch that is open or not to one that is open or not, and no front of it but itself is whole
pub record Turns (from to : Bool) (text : List ℕ) : Type 0 where
  pub whole : (more : List ℕ) → is_whole_from from [] (text ++ more) ≡ is_whole_from to [] more
  pub firm : (front rest : List ℕ) → text ≡ front ++ rest → rest ≢ [] → is_whole_from from [] front ≡ true → front ≡ []

abbrev pub turned : Effect → Bool → Bool
turned effect.Begin is_open = true
turned effect.Commit is_open = false
turned _ is_open = is_open

pub record IsLineFor (e : Effect) (line : List ℕ) : Type 0 where
  pub none : has_line e ≡ false → line ≡ []
  pub turns : has_line e ≡ true → (is_open : Bool) → Turns is_open (turned e is_open) line

pub record AreLines (lines : List ℕ) (ready held : ℕ) (e : Effect) : Type 0 where
  pub order : ready ≤ held
  pub within : held ≤ length lines
  pub whole : is_whole (take ready lines) ≡ true
  pub batch : take (held - ready) (drop ready lines) ≢ [] → Turns false true (take (held - ready) (drop ready lines))
  pub next : IsLineFor e (drop held lines)
