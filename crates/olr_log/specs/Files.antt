-- The file of a log, and how it changes.
--     text_in n file      n bytes behind the first line
--     HasText n file      the program's own file, whose text has n bytes
--     IsFound n last file      the same, with `last` bytes behind the first line up to the last that isn't a carriage return
--     IsPadded n file      the same, with carriage returns behind the text
--     IsPaddedText text file      the program's own file, with this text and carriage returns behind it
--     KeepsFirst n old new      no byte of the first n is gone or another
--     IsBlank from to file      a range has none but carriage returns
use Rattle.std.specs.Prelude.{◌≡◌, ℕ, ◌+◌, ◌<◌, ◌≤◌, true, List, length, take, drop, slice_index}
use Rattle.olr_log.specs.Texts.{is_native, padded, recovered, unpadded}

-- a text behind an empty line, and before one carriage return at least
abbrev pub IsPaddedText : List ℕ → List ℕ → Type 0
IsPaddedText text file = (k : ℕ) × (0 < k) × (file ≡ padded text k)

abbrev pub text_in : ℕ → List ℕ → List ℕ
text_in n file = take n (drop 1 file)

pub record HasText (n : ℕ) (file : List ℕ) : Type 0 where
  pub kind : is_native file ≡ true
  pub within : n + 1 ≤ length file
  pub text : recovered (drop 1 file) ≡ text_in n file

pub record IsFound (n last : ℕ) (file : List ℕ) : Type 0 where
  pub text : HasText n file
  pub reach : last + 1 ≤ length file
  pub rest : unpadded (drop 1 file) ≡ take last (drop 1 file)

pub record IsPadded (n : ℕ) (file : List ℕ) : Type 0 where
  pub text : HasText n file
  pub some : n + 1 < length file
  pub returns : (i : ℕ) → n + 1 ≤ i → i < length file → slice_index file i ≡ 13

pub record KeepsFirst (n : ℕ) (old new : List ℕ) : Type 0 where
  pub no_shorter : length old ≤ length new
  pub below : (i : ℕ) → i < length old → i < n → slice_index new i ≡ slice_index old i

pub record IsBlank (from to : ℕ) (file : List ℕ) : Type 0 where
  pub reach : to ≤ length file
  pub each : (i : ℕ) → from ≤ i → i < to → slice_index file i ≡ 13
