use Rattle.olr_records.proofs.Common.{name_line, ℕ, List, append_assoc, String}
use Rattle.std.proofs.Common.{string_bytes}
use Rattle.std.specs.declared.alloc.Global.{Global}
use Rattle.olr_records.proofs.TextLemmas.{lines_more}
use Rattle.olr_records.proofs.reply.push_names.Goals as goal

pub loop-name-preserved : goal.loop-name-preserved
loop-name-preserved c =
    let f : String Global → List ℕ = λ n. name_line (string_bytes n) in
    let more =
    lines_more f c.append_count.new.text.items c.args.names.now c.loop-name.name-index c.name-item.result
    c.loop-name-test.true in
    let name = c.in_ok-extend_from_slice.ensures.items in
    let end = c.in_ok-extend_from_slice-2.ensures.items in
    rw (end, name, c.as_bytes.ensures.value, c.loop-name.invariant, append_assoc) (rw (← c.name-item.is) at more)
