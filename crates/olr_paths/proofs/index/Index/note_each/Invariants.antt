use Rattle.olr_paths.proofs.Common.{take}
use Rattle.olr_paths.proofs.NotedPositions.{Noted}
use Rattle.olr_paths.proofs.index.Index.note_each.Given as goal

-- the numbers so far have the path id
abbrev pub invariant-loop-k : goal.invariant-loop-k
invariant-loop-k g l = Noted g.T.Numbered.number_of l.path_id l.initial.self l.self (take l.k l.items)
