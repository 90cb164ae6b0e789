use Rattle.olr_route.proofs.Common.{ℕ, ◌<◌, get_or, EndsRoute, IsFound}
use Rattle.olr_route.proofs.routes.last_line.Given as goal

abbrev pub invariant-loop-line : goal.invariant-loop-line
invariant-loop-line g l =
    (s : ℕ) → IsFound (g.M.MapRead.map l.map) (g.M.MapRead.node_slot l.map) s l.settled l.fn.node l.length →
    (j : ℕ) → j < l.line-index → ¬ EndsRoute (g.M.MapRead.map l.map) s l.fn.node l.length (get_or l.line-items j 0)
