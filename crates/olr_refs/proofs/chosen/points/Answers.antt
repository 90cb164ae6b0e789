use Rattle.olr_refs.proofs.Common.{◌≡◌, ◌∙◌, sym, arith, length}
use Rattle.olr_refs.proofs.Querying.{gone_more, ended, ended_there}
use Rattle.olr_refs.proofs.Noting.{led_end, no_next_end}
use Rattle.olr_refs.proofs.chosen.points.Goals as goal

pub loop-last-preserved : goal.loop-last-preserved
loop-last-preserved g c = gone_more _ _ _ _
    c.loop-last.positions.items c.push-in-loop-last.new.self.items c.loop-last.last c.in-Some.next _ _
    c.loop-last.invariant c.in_ok-reach.ensures.queried c.in-Some.ensures c.in_ok-push-2.ensures.items

pub returns-in_default : goal.returns-in_default
returns-in_default g c =
    let M = g.M.MapRead.map c.args.resolved.now.map.now in
    let ls = c.args.resolved.now.lines.now in
    let s = c.loop-last.invariant in
    let led = led_end _ M ls s.points c.loop-last.last s.led c.in_default.ensures in
    record {
      choice = (s.points, led.0, ((λ e. omega arith), sym led.1));
      queried = (
        s.points,
        led.0,
        ended _ M ls _ c.loop-last.positions.items c.loop-last.last _ _ s c.in_ok-reach.ensures.queried,
      );
    }

pub returns : goal.returns
returns g c =
    let M = g.M.MapRead.map c.args.resolved.now.map.now in
    let ls = c.args.resolved.now.lines.now in
    let s = c.loop-last.invariant in
    let led = led_end _ M ls s.points c.loop-last.last s.led (no_next_end _ M ls c.loop-last.last (omega arith)) in
    let end : c.loop-last.last ≡ length ls = let w = s.within in omega arith in
    record {
      choice = (s.points, led.0, (led.1 ∙ end, s.positions ∙ s.first));
      queried = (
        s.points,
        led.0,
        ended_there _ M ls _ c.loop-last.positions.items c.loop-last.last _ s (omega arith),
      );
    }
