use Rattle.olr_ambiguity.proofs.Common.{◌≡◌, arith, common_steps}
use Rattle.olr_spec.specs.Map.{line_at}
use Rattle.olr_ambiguity.proofs.own_line.line_of.Goals as goal

pub returns : goal.returns
returns g c =
    let m = g.met.M.MapRead.sound c.args.map.now in
    let is : c.unwrap.result.now ≡ line_at (g.M.MapRead.map c.args.map.now) c.args.id = grind (arith, common_steps) in
    let known = c.requires in
    record { value = is; good = rw is (m.good _ known); from = rw is (m.starts _ known); to = rw is (m.ends _ known) }
