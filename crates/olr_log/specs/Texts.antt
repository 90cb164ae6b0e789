-- What counts of a log's file, whatever a crash left of it.
--     recovered text      the longest front of a text that consists of whole records, and doesn't end in an empty line
--     text_of file      the text with which a run over a file begins: of the program's own file, what is recovered behind its
--                       empty first line; of another file, all of it
--     left_behind file      what stands behind that text, without the carriage returns at its end
--     padded text n      the program's own file: an empty first line, a text, and n carriage returns
use Rattle.std.specs.Prelude.{ℕ, zero, suc, Bool, false, not, ◌==◌, ◌&&◌, if◌then◌else◌, List, [], ◌∷◌, ◌++◌, length, take, drop, replicate}
use Rattle.olr_input.specs.Buffers.{is_empty}
use Rattle.olr_log.specs.Journals.{is_whole}

-- a text ends in an empty line, behind a byte
abbrev pub ends_blank_behind : ℕ → List ℕ → Bool
ends_blank_behind before [] = false
ends_blank_behind before (b ∷ []) = before == 10 && b == 10
ends_blank_behind before (b ∷ c ∷ bs) = ends_blank_behind b (c ∷ bs)

abbrev pub ends_blank : List ℕ → Bool
ends_blank text = ends_blank_behind 10 text

-- whole records. An empty line at the end counts for nothing, so that no byte that a crash leaves behind a text changes it.
abbrev pub counts : List ℕ → Bool
counts text = is_whole text && not (ends_blank text)

-- the longest front that counts, of those of n bytes at most
abbrev pub longest_front : ℕ → List ℕ → List ℕ
longest_front zero text = []
longest_front (suc n) text = if counts (take (suc n) text) then take (suc n) text else longest_front n text

unfoldable pub recovered : List ℕ → List ℕ
recovered text = longest_front (length text) text

-- a file begins with an empty line, as those do that the program wrote
abbrev pub is_native : List ℕ → Bool
is_native [] = false
is_native (b ∷ bs) = b == 10

unfoldable pub text_of : List ℕ → List ℕ
text_of file = if is_native file then recovered (drop 1 file) else file

abbrev pub unpadded : List ℕ → List ℕ
unpadded [] = []
unpadded (b ∷ bs) = if b == 13 && is_empty (unpadded bs) then [] else b ∷ unpadded bs

unfoldable pub left_behind : List ℕ → List ℕ
left_behind file = if is_native file then unpadded (drop (length (text_of file)) (drop 1 file)) else []

abbrev pub padded : List ℕ → ℕ → List ℕ
padded text n = 10 ∷ text ++ replicate n 13
