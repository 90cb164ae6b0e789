use Rattle.olr_register.proofs.Common.{record_line, path_change, length-map, all_named, named_of, items, sym, ◌∙◌}
use Rattle.olr_register.proofs.DumpTexts.{none_missing, records-at}
use Rattle.olr_register.proofs.dumps.push_paths.Goals as goal

pub unreachable-requires : goal.unreachable-requires
unreachable-requires c =
    let is = items c.args.paths.now in
    none_missing (all_named is) c.loop-k.k _ c.in_default.ensures
    (c.len-k-end.ensures.len ∙ sym (length-map is named_of)) c.loop-k-test.true

pub loop-k-preserved : goal.loop-k-preserved
loop-k-preserved c =
    rw (c.in_ok-push_path_record.ensures, c.as_bytes.ensures.value, c.loop-k.invariant)
    (records-at (λ p. record_line (path_change p)) c.args.text.now.items (all_named (items c.args.paths.now)) c.loop-k.k
    (record { name = c.in-Some.name.now; path = c.in-Some.path.now }) (sym c.in-Some.ensures))
