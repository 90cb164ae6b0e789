use Rattle.olr_ambiguity.proofs.Common.{Outgoing, Incoming}
use Rattle.olr_ambiguity.proofs.Lists.{lines_known}
use Rattle.olr_ambiguity.proofs.own_line.lines_on.Goals as goal

pub returns-in-Outgoing-clause-known : goal.returns-in-Outgoing-clause-known
returns-in-Outgoing-clause-known g c = lines_known (g.M.MapRead.map c.args.map.now) Outgoing c.args.node _ c.out_lines.ensures

pub returns-in-Incoming-clause-known : goal.returns-in-Incoming-clause-known
returns-in-Incoming-clause-known g c = lines_known (g.M.MapRead.map c.args.map.now) Incoming c.args.node _ c.in_lines.ensures
