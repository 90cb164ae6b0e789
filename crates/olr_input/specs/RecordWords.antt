-- Which command a record names.
--     words      the first field of each command's record
--     word_in ws field      which of these words a field is
--     word_of fields      that of a record
--     is_edit w      whether it is that of an edit of the map
--     word_effect fields      what a record does to a log, if it is accepted and has no line end
use Rattle.std.specs.Prelude.{ℕ, ◌==◌, Bool, true, false, List, [], ◌∷◌, length, codes, slice_index_or, if◌then◌else◌}
use Rattle.std.specs.Str.{bytes_eq}
use Rattle.olr_input.specs.declared.record.Effect.{Effect}
use Rattle.olr_input.specs.declared.record.Effect.TheVariants as effect
use Rattle.olr_input.specs.declared.record.Word.{Word}
use Rattle.olr_input.specs.declared.record.Word.TheVariants as word

abbrev pub words : List (List ℕ × Word)
words =
    (codes "line", word.Line)
    ∷ (codes "node", word.Node)
    ∷ (codes "explain", word.Explain)
    ∷ (codes "set-line", word.SetLine)
    ∷ (codes "move", word.Move)
    ∷ (codes "drop-line", word.DropLine)
    ∷ (codes "drop-node", word.DropNode)
    ∷ (codes "path", word.Path)
    ∷ (codes "begin", word.Begin)
    ∷ (codes "abort", word.Abort)
    ∷ (codes "repath", word.SetPath)
    ∷ (codes "commit", word.Commit)
    ∷ (codes "drop-path", word.DropPath)
    ∷ (codes "show", word.Show)
    ∷ (codes "show-node", word.ShowNode)
    ∷ (codes "show-line", word.ShowLine)
    ∷ (codes "depends", word.Depends)
    ∷ (codes "report", word.Report)
    ∷ (codes "dump", word.Dump)
    ∷ (codes "compact", word.Compact)
    ∷ (codes "preview", word.Preview)
    ∷ (codes "ambiguous", word.Ambiguous)
    ∷ (codes "margin", word.SetMargin)
    ∷ (codes "show-margin", word.ShowMargin)
    ∷ []

abbrev pub word_in : List (List ℕ × Word) → List ℕ → Word
word_in [] field = word.Unknown
word_in (w ∷ ws) field = if bytes_eq field w.0 then w.1 else word_in ws field

-- without a field it is that of no command
abbrev pub word_of : List (List ℕ) → Word
word_of fields = word_in words (slice_index_or fields 0 [])

abbrev pub is_edit : Word → Bool
is_edit word.Line = true
is_edit word.Node = true
is_edit word.SetLine = true
is_edit word.Move = true
is_edit word.DropLine = true
is_edit word.DropNode = true
is_edit w = false

-- a record with this word changes the map, paths or the margin
abbrev pub is_change : Word → Bool
is_change word.Path = true
is_change word.SetPath = true
is_change word.DropPath = true
is_change word.SetMargin = true
is_change w = is_edit w

-- by the word of a record, and whether it stands alone
abbrev pub effect_by : Word → Bool → Effect
effect_by word.Begin true = effect.Begin
effect_by word.Commit false = effect.Commit
effect_by word.Abort alone = effect.Abort
effect_by word.Compact true = effect.Compact
effect_by w alone = if is_change w then effect.Change else effect.Nothing

abbrev pub word_effect : List (List ℕ) → Effect
word_effect fields = effect_by (word_of fields) (length fields == 1)
