use Rattle.olr_run.proofs.Common.{◌≡◌, ◌++◌, ℕ, List, Results, left, AllPublished}
use Rattle.std.specs.Prelude.{Option}
use Rattle.olr_run.proofs.Reports.{lines_of}
use Rattle.olr_run.proofs.answers.append_report.Given as goal

-- with the lines of the paths that are left, the text has those of all
abbrev pub invariant-loop-name : goal.invariant-loop-name
invariant-loop-name l =
    (xs : List (List ℕ × Option Results)) × AllPublished l.register.state.content xs
    × (l.text.items ++ lines_of (left l.name-iterator) ≡ l.initial.text.items ++ lines_of xs)
