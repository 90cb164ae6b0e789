use Rattle.olr_input.proofs.Common.{ℕ, List, HasNoEnd, line_left}
use Rattle.olr_input.proofs.line_records.LineRecords.take.Given as goal

-- no record is taken yet
abbrev pub invariant-loop : goal.invariant-loop
invariant-loop g l =
    HasNoEnd l.self.line.items
    × ((rs : List (List (List ℕ))) → line_left g.R.Read.remaining l.initial.self rs → line_left g.R.Read.remaining l.self rs)
