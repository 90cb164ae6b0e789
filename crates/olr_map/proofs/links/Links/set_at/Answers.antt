use Rattle.olr_map.proofs.Common.{ap, arith, length, length-take-le, lines_on, ◌<◌}
use Rattle.std.proofs.Math.Seq.{take-set-lt}
use Rattle.olr_map.proofs.links.Links.set_at.Goals as goal

pub returns-in-Inline-clause-ends : goal.returns-in-Inline-clause-ends
returns-in-Inline-clause-ends c =
    let inline = c.in-Inline.inline in
    let size = length-take-le inline.count inline.lines (omega (arith, inline.within, inline.lines_len)) in
    let within : c.args.at < inline.count =
    omega (arith, c.requires, ap (λ l. length (lines_on l)) c.in-Inline.is, size) in
    rw c.in-Inline.is (take-set-lt inline.count inline.ends c.args.at c.args.end within)
