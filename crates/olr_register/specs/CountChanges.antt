-- How the counts of a register change.
--     encodes open c      the command encodes: outside a batch an edit, a path that is added or set and a margin, with an
--         open batch its commit
--     NoneFalls old new      no count falls
use Rattle.std.specs.Prelude.{◌≤◌, Bool, true, false}
use Rattle.olr_commands.specs.State.{On_map, Add_path, Set_path, Set_margin, Command, Make, Commit}
use Rattle.olr_search.specs.declared.work.Work.{Work}

abbrev pub encodes : Bool → Command → Bool
encodes false (Make (On_map e)) = true
encodes false (Make (Add_path name path)) = true
encodes false (Make (Set_path name path)) = true
encodes false (Make (Set_margin g)) = true
encodes true (Commit count) = true
encodes _ _ = false

pub record NoneFalls (old new : Work) : Type 0 where
  pub encodings : old.encodings ≤ new.encodings
  pub searches : old.searches ≤ new.searches
  pub settled : old.settled ≤ new.settled
