-- Lines that a log doesn't store yet.
--     waiting u      those of accepted commands
--     next_line u      the line of the record that is not answered yet
use Rattle.std.specs.Prelude.{◌-◌, ℕ, List, take, drop}
use Rattle.olr_log.specs.StoredLines.{Waiting}
use Rattle.olr_log.specs.declared.unstored.Unstored.{Unstored}

abbrev pub waiting : Unstored → Waiting
waiting u =
    record { ready = take u.ready u.lines.items; batch = take (u.held - u.ready) (drop u.ready u.lines.items) }

abbrev pub next_line : Unstored → List ℕ
next_line u = drop u.held u.lines.items
