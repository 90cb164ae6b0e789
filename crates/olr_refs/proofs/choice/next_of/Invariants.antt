use Rattle.olr_refs.proofs.Choosing.{Scanned}
use Rattle.olr_refs.proofs.choice.next_of.Given as goal

abbrev pub invariant-loop-k : goal.invariant-loop-k
invariant-loop-k g l = Scanned l.resolved.margin (g.M.MapRead.map l.resolved.map.now) l.resolved.lines.now l.i l.reach l.k l.last
