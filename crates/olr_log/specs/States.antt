-- The states of a log.
--     stored_in state file      the text that it stores
--     size_in state      how many bytes it counts in its text
--     file_size_in state      how many bytes its file has, if that is known
--     Stands d disk state      a disk in this state
use Rattle.std.specs.Prelude.{◌≡◌, ℕ, ◌+◌, ◌<◌, ◌≤◌, Bool, true, false, List, [], length, IsTrue, Option, None, Some, ⊤}
use Rattle.std.specs.Coded.{Unit-prop}
use Rattle.std.proofs.Props.{props}
use Rattle.sqlite_disk.specs.Disk.{Only}
use Rattle.sqlite_disk.specs.declared.Disk.{Ghosts}
use Rattle.olr_log.specs.Texts.{is_native}
use Rattle.olr_log.specs.Files.{text_in, IsFound, IsPadded}
use Rattle.olr_log.specs.declared.state.State.{State}
use Rattle.olr_log.specs.declared.state.State.TheVariants.{Foreign, Opened, Ready, Broken}

-- of the program's own file the text, and of another file all of it
abbrev pub stored_in : State → List ℕ → List ℕ
stored_in (Foreign len) file = file
stored_in (Opened n last len) file = text_in n file
stored_in (Ready n len) file = text_in n file
stored_in Broken file = []

abbrev pub size_in : State → ℕ
size_in (Foreign len) = len
size_in (Opened n last len) = n
size_in (Ready n len) = n
size_in Broken = 0

abbrev pub file_size_in : State → Option ℕ
file_size_in (Foreign len) = Some len
file_size_in (Opened n last len) = Some len
file_size_in (Ready n len) = Some len
file_size_in Broken = None

abbrev pub is_native_in : State → Bool
is_native_in (Foreign len) = false
is_native_in _ = true

abbrev pub is_ready_in : State → Bool
is_ready_in (Ready n len) = true
is_ready_in _ = false

abbrev pub is_broken_in : State → Bool
is_broken_in Broken = true
is_broken_in _ = false

module _ {D : Type 0} (d : Ghosts D) (disk : D) where
  -- The disk can be used, and has what was written. If it has done what it reported, its file has so many bytes, and is such a
  -- file.
  pub record HasFile (len : ℕ) (IsFile : List ℕ → Type 0) : Type 0 where
    pub usable : IsTrue (d.is_usable disk)
    pub durable : Only (d.seen disk) (d.may_leave disk)
    pub size : d.is_clean disk ≡ true → length (d.seen disk) ≡ len
    pub is : d.is_clean disk ≡ true → IsFile (d.seen disk)

  abbrev pub Stands : State → Type 0
  Stands (Foreign len) = HasFile len (λ file. is_native file ≡ false)
  Stands (Opened n last len) = HasFile len (IsFound n last) × (n + 1 ≤ len) × (last + 1 ≤ len)
  Stands (Ready n len) = HasFile len (IsPadded n) × (n + 1 < len) × (n + 1 ≤ length (d.seen disk))
  Stands Broken = ⊤

  pub Stands-prop : (state : State) → IsProp (Stands state)
  Stands-prop (Foreign len) = hlevel props
  Stands-prop (Opened n last len) = hlevel props
  Stands-prop (Ready n len) = hlevel props
  Stands-prop Broken = Unit-prop
