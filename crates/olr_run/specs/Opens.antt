-- The command file.
--     Opens call remaining opener name opened      opening the file of that name returns known bytes, or fails
use Rattle.std.specs.Prelude.{◌≡◌, ℕ, List, [], Option, Some, None, option_map, MatchOption, Result, Ok, Err}
use Rattle.std.specs.Result.{result_ok}
use Rattle.std.specs.Borrow.{Bor}
use Rattle.std.specs.Fn.{Once, FnOnceReturnsAt}
use Rattle.olr_input.specs.Sessions.{Known}

-- the bytes of the file if they are known, or None if it can't be opened
abbrev pub Opens : {O F E : Type 0} → Once O (Bor (List ℕ) × Unit {0}) (Result F E) → (F → Known) → O → List ℕ →
    Option Known → Type 0
Opens {O} {F} {E} call remaining opener name opened =
    (r : Result F E) × FnOnceReturnsAt call opener name r × (option_map remaining (result_ok r) ≡ opened)

-- the bytes of the file that is named, or no bytes if none is
abbrev pub IsFile : Option (List ℕ) → (List ℕ → Option Known → Type 0) → Known → Type 0
IsFile named Opened file = MatchOption named (file ≡ Some []) (λ name. Opened name (Some file))

-- the result of opening the file that is named, if there is one
abbrev pub OpensFile : {O F E : Type 0} → Once O (Bor (List ℕ) × Unit {0}) (Result F E) → O → Option (List ℕ) →
    Result (Option F) E → Type 0
OpensFile call opener None (Ok None) = Unit {0}
OpensFile call opener (Some name) (Ok (Some file)) = FnOnceReturnsAt call opener name (Ok file)
OpensFile call opener (Some name) (Err error) = FnOnceReturnsAt call opener name (Err error)
OpensFile call opener _ _ = ⊥
