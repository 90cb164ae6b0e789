use Rattle.olr_register.proofs.Common.{common_steps, [], arith, map_of, items, content_on, no_coord, no_line, record_line}
use Rattle.olr_register.proofs.Common.{node_change, line_change}
use Rattle.olr_register.proofs.DumpTexts.{dump_text, keys_there, texts_at}
use Rattle.olr_register.proofs.dumps.dump_of.Goals as goal

pub push_nodes-requires-clause-there : goal.push_nodes-requires-clause-there
push_nodes-requires-clause-there c =
    rw (c.deref.ensures.value, c.in_ok-nodes.ensures) (keys_there (map_of c.args.roads.now).nodes)

pub push_lines-requires-clause-there : goal.push_lines-requires-clause-there
push_lines-requires-clause-there c =
    rw (c.deref-2.ensures.value, c.in_ok-lines.ensures) (keys_there (map_of c.args.roads.now).lines)

pub returns : goal.returns
returns c =
    let M = map_of c.args.roads.now in (
      grind (arith, common_steps),
      rw (
        c.in_ok-push_paths.ensures,
        c.in_ok-push_lines.ensures,
        c.in_ok-push_nodes.ensures,
        c.in_ok-margins.ensures.1,
        c.new-text.ensures.items,
        c.deref.ensures.value,
        c.deref-2.ensures.value,
        c.in_ok-nodes.ensures,
        c.in_ok-lines.ensures,
        texts_at M.nodes (λ e. record_line (node_change e)) no_coord,
        texts_at M.lines (λ e. record_line (line_change e)) no_line,
      )
          (dump_text (content_on c.args.margin M (items c.args.paths.now)) []),
    )

pub push_nodes-requires-clause-recordable : goal.push_nodes-requires-clause-recordable
push_nodes-requires-clause-recordable c = c.requires.recordable

pub push_lines-requires-clause-recordable : goal.push_lines-requires-clause-recordable
push_lines-requires-clause-recordable c = c.requires.recordable
