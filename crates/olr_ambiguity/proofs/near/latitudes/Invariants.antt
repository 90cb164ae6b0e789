use Rattle.olr_ambiguity.proofs.Common.{ℕ, ◌<◌, ◌≤ℤ◌, get_or, Window}
use Rattle.olr_ambiguity.proofs.near.latitudes.Given as goal

-- of the windows so far
abbrev pub invariant-loop-window : goal.invariant-loop-window
invariant-loop-window l = (k : ℕ) (d : Window) → k < l.window-index →
    (l.bounds.0 ≤ℤ (get_or l.windows k d).lat.0) × ((get_or l.windows k d).lat.1 ≤ℤ l.bounds.1)
