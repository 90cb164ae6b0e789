use Rattle.olr_refs.proofs.Common.{IsTrue, ResolvedLine, has_node, resolved_as, subst, sym}
use Rattle.olr_refs.proofs.Joined.{known_at}
use Rattle.olr_refs.proofs.Resolving.{record_at}
use Rattle.olr_refs.proofs.along.ResolvedPath.resolved_line.Goals as goal

pub returns : goal.returns
returns g c =
    let M = g.M.MapRead.map c.args.self.now.map.now in
    let m = g.met.M.MapRead.sound c.args.self.now.map.now in
    let slot = g.M.MapRead.node_slot c.args.self.now.map.now in
    let known = known_at M _ _ c.args.self.now.joined c.requires in
    let is = record_at M slot _ _ _ _ c.args.self.now.resolved c.requires in
    record {
      value = is;
      resolved = resolved_as M slot _ _ known is;
      from = subst (λ (r : ResolvedLine). IsTrue (has_node M r.from)) (sym is) (m.starts _ known);
      to = subst (λ (r : ResolvedLine). IsTrue (has_node M r.to)) (sym is) (m.ends _ known);
    }
