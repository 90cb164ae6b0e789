use Rattle.olr_refs.proofs.Common.{◌++◌, arith, List, length, sym, ap, ◌∙◌, refl, ResolvedLine, ids, records_of}
use Rattle.olr_refs.proofs.Extending.{own_some, own_first, front_some, front_last, front_records, whole_records, extends}
use Rattle.olr_refs.proofs.Resolving.{are_records}
use Rattle.olr_refs.proofs.extension.extend.Goals as goal

pub returns : goal.returns
returns g c =
    let M = g.M.MapRead.map c.args.map.now in
    let slot = g.M.MapRead.node_slot c.args.map.now in
    let P = c.args.path.now in
    let front =
    c.deref.ensures.value ∙ c.in_ok-extend_from_slice.ensures.items
    ∙ ap (λ (rs : List ResolvedLine). rs ++ c.args.own.now)
    (c.in_ok-records.ensures.items ∙ c.taken_part-pos.ensures.records) in
    let whole =
    c.in_ok-extend_from_slice-2.ensures.items
    ∙ (λ i. sym c.deref.ensures.value i ++ c.taken_part-neg.ensures.records i) in
    let records =
    whole_records M slot P c.requires.path c.requires.known _ c.requires.own _ _ _ c.in_ok-before.ensures _ front _ _ _
    c.in_ok-after.ensures _ whole in
    record {
      ok = extends M slot P c.requires.path c.requires.known _ c.requires.own _ _ _ c.in_ok-before.ensures _ front _ _ _
          c.in_ok-after.ensures _ whole _ _ _ _
          (ap (λ (rs : List ResolvedLine). length rs) c.taken_part-pos.ensures.records)
          (c.in_ok-lines.ensures ∙ ap ids c.deref-2.ensures.value)
          (rw (c.taken_part-pos.ensures.raised, c.pos.ensures) refl)
          (rw (c.taken_part-neg.ensures.raised, c.neg.ensures) refl)
          (c.in_ok-note_ends.ensures.ok M slot _ _ _ (c.deref-3.ensures.value ∙ records)
          (c.deref-4.ensures.value ∙ c.in_ok-before.ensures.are) (c.deref-5.ensures.value ∙ c.in_ok-after.ensures.are));
      records = records ∙ ap (records_of M slot) (sym (c.in_ok-lines.ensures ∙ ap ids c.deref-2.ensures.value));
      err = tt;
    }

pub longest_run-requires : goal.longest_run-requires
longest_run-requires g c = grind (arith, own_some, own_first, are_records)

pub longest_run-requires-2 : goal.longest_run-requires-2
longest_run-requires-2 g c = grind (arith, front_some, front_last, front_records)
