-- A log of records: which texts are whole, and what a run that is cut off may leave of it.
--     is_whole text      the text consists of lines without carriage returns, and each batch in it has its commit
--     IsFront text front      the text begins with front, which is whole
use Rattle.std.specs.Prelude.{◌≡◌, ◌⊎◌, ◌==◌, ℕ, Bool, true, false, not, ◌&&◌, ◌||◌, if◌then◌else◌, List, [], ◌∷◌, ◌++◌}
use Rattle.std.specs.Prelude.{take, codes, IsTrue}
use Rattle.std.specs.Str.{bytes_eq}
use Rattle.olr_input.specs.Buffers.{is_empty}

-- whether a batch is open after a line
abbrev pub stays_open : Bool → List ℕ → Bool
stays_open is_open line = bytes_eq line (codes "begin") || is_open && not (bytes_eq (take 7 line) (codes "commit,"))

-- the rest of a text, after the first bytes of a line
abbrev pub is_whole_from : Bool → List ℕ → List ℕ → Bool
is_whole_from is_open line [] = not is_open && is_empty line
is_whole_from is_open line (b ∷ bs) =
    if b == 10 then is_whole_from (stays_open is_open line) [] bs
    else (not (b == 13) && is_whole_from is_open (line ++ b ∷ []) bs)

abbrev pub is_whole : List ℕ → Bool
is_whole text = is_whole_from false [] text

pub record IsFront (text front : List ℕ) : Type 0 where
  pub rest : List ℕ
  pub splits : text ≡ front ++ rest
  pub whole : IsTrue (is_whole front)

-- a crash leaves this text and no other
abbrev pub Only : List ℕ → (List ℕ → Type 0) → Type 0
Only text may_leave = (c : List ℕ) → may_leave c → c ≡ text

-- a log that was to store these records may leave what it left before, or beside all that it stored a whole front of them
abbrev pub MayHaveStored : {J : Type 0} → (J → List ℕ) → (J → List ℕ → Type 0) → J → List ℕ → J → Type 0
MayHaveStored stored may_leave old records new =
    (c : List ℕ) → may_leave new c → may_leave old c
    ⊎ ((front : List ℕ) × IsFront records front × (c ≡ stored old ++ front))
