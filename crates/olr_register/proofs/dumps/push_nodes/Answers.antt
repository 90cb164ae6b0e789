use Rattle.olr_register.proofs.Common.{ℕ, IsTrue, has_node, map_of, subst, sym, append-nil, record_line, node_change, coord_at}
use Rattle.olr_register.proofs.DumpTexts.{coords_pass, records_next, records_all}
use Rattle.olr_register.proofs.dumps.push_nodes.Goals as goal

pub push_node-requires : goal.push_node-requires
push_node-requires c =
    let M = map_of c.args.roads.now in
    record {
      there = subst (λ (v : ℕ). IsTrue (has_node M v)) (sym c.id-item.is)
          (c.requires.there c.loop-id.id-index c.id-item.result c.loop-id-test.true);
      recordable = coords_pass M c.requires.recordable c.id-item.result;
    }

pub loop-id-init : goal.loop-id-init
loop-id-init c = sym (append-nil c.args.text.now.items)

pub loop-id-preserved : goal.loop-id-preserved
loop-id-preserved c =
    records_next (λ v. record_line (node_change (v, coord_at (map_of c.args.roads.now) v))) _ _ c.args.text.now.items
    c.args.ids.now c.loop-id.id-index c.id-item.result c.loop-id-test.true c.id-item.is c.loop-id.invariant
    c.in_ok-push_node.ensures

pub returns : goal.returns
returns c =
    records_all (λ v. record_line (node_change (v, coord_at (map_of c.args.roads.now) v))) _ c.args.text.now.items
    c.args.ids.now c.loop-id.id-index c.loop-id-test.false c.loop-id.invariant
