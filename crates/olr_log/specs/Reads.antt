-- What a call that only reads leaves of a disk.
use Rattle.std.specs.Prelude.{◌≡◌, true, List, ℕ, IsTrue}
use Rattle.sqlite_disk.specs.declared.Disk.{Ghosts}

pub record OnlyReads {D : Type 0} (g : Ghosts D) (old new : D) : Type 0 where
  pub seen : g.seen new ≡ g.seen old
  pub key : g.key_of new ≡ g.key_of old
  pub usable : IsTrue (g.is_usable new)
  pub clean : g.is_clean new ≡ true → g.is_clean old ≡ true
  pub less : (c : List ℕ) → g.may_leave new c → g.may_leave old c
