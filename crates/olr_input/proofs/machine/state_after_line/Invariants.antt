use Rattle.olr_input.proofs.Common.{◌≡◌, drop, csv_state, state_after}
use Rattle.csv.specs.declared.parser.State.TheVariants as st
use Rattle.olr_input.proofs.machine.state_after_line.Given as goal

-- the remaining bytes lead from the state now to the last one
abbrev pub invariant-loop-i : goal.invariant-loop-i
invariant-loop-i l = state_after st.StartRecord l.line ≡ state_after (csv_state l.state) (drop l.i l.line)
