-- What is known of a text while it is read for the end of its whole records.
use Rattle.std.specs.Prelude.{◌≡◌, ℕ, ◌≤◌, Bool, true, false, List, [], ◌∷◌, ◌++◌, length, take}
use Rattle.olr_input.specs.Buffers.{is_empty}
use Rattle.olr_log.specs.Journals.{is_whole_from}
use Rattle.olr_log.specs.Texts.{ends_blank, recovered, unpadded}
use Rattle.olr_log.specs.declared.scan.Scan.{Scan}

-- how the next record is read behind a text: whether a batch is open, and the first 8 bytes of the line that has begun
pub record StandsAt (is_open : Bool) (begun text : List ℕ) : Type 0 where
  pub line : List ℕ
  pub front : take 8 line ≡ begun
  pub rest : (more : List ℕ) → is_whole_from false [] (text ++ more) ≡ is_whole_from is_open line more
  pub blank : ends_blank (text ++ 10 ∷ []) ≡ is_empty line

pub record Scanned (s : Scan) (text : List ℕ) : Type 0 where
  pub at : s.at ≡ length text
  pub found : take s.found text ≡ recovered text
  pub within : s.found ≤ length text
  pub reach : s.last ≤ length text
  pub rest : unpadded text ≡ take s.last text
  pub over : s.is_over ≡ true → (more : List ℕ) → recovered (text ++ more) ≡ recovered text
  pub stands : s.is_over ≡ false → StandsAt s.is_open s.begun.items text
