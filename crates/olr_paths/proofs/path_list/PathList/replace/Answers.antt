use Rattle.olr_paths.proofs.Common.{length-set_value_at, slice_get_within, IsNoted, length, arith, subst, None}
use Rattle.olr_paths.proofs.Common.{◌≢◌, ◌<◌, sym, ◌∙◌}
use Rattle.olr_paths.proofs.NamedEntries.{first_at, names_differ, set_absent, set_items}
use Rattle.olr_paths.proofs.PathIdLemmas.{each_set, noted_at, noted_but, noted_set}
use Rattle.olr_paths.proofs.NotedPositions.{is_published}
use Rattle.std.proofs.lemmas.Bool.{or_parts}
use Rattle.olr_paths.proofs.path_list.PathList.replace.Goals as goal

pub returns-in_default-clause-ok : goal.returns-in_default-clause-ok
returns-in_default-clause-ok c = set_absent c.args.self.now.paths.entries c.args.name.now c.args.named (sym c.in_default.ensures.value)

pub replace-requires : goal.replace-requires
replace-requires c =
    let l = c.args.self.now in
    subst (IsNoted l.finder c.index-path_id.result.now) (sym c.keys.ensures)
    (noted_at l _ _ (c.in-Some.field-0-1.now, c.in-Some.current.now) c.index-path_id.ensures c.in-Some.ensures.entry)

pub invariant_of-self-in-Break-1 : goal.invariant_of-self-in-Break-1
invariant_of-self-in-Break-1 c =
    let l = c.args.self.now in
    let q = c.in-Some.position in
    let within : q < length l.path_ids.items = omega (arith, slice_get_within l.paths.entries q _ c.in-Some.ensures.entry, l.long) in
    record {
      long = l.long;
      ascend = l.ascend;
      noted = noted_but l c.replace.new.self q _ within c.index-path_id.ensures c.replace.ensures.spares _
          c.in-Some.ensures.entry (λ _. subst (IsNoted c.replace.new.self c.index-path_id.result.now) c.keys.ensures c.in_err-replace.ensures.err);
      encoded = l.encoded;
    }

pub invariant_of-self-2 : goal.invariant_of-self-2
invariant_of-self-2 c =
    let l = c.args.self.now in
    let es = l.paths.entries in
    let ms = l.path_ids.items in
    let q = c.in-Some.position in
    let n = c.args.named in
    let within : q < length ms = omega (arith, slice_get_within l.paths.entries q _ c.in-Some.ensures.entry, l.long) in
    record {
      long = l.long ∙ sym (length-set_value_at es q n);
      ascend = l.ascend;
      noted = noted_set l c.replace.new.self q _ within c.index-path_id.ensures c.replace.ensures.spares n
          (subst (IsNoted c.replace.new.self c.index-path_id.result.now) c.keys-2.ensures c.in_ok-replace.ensures.noted);
      encoded = λ off.
          let was = or_parts l.held c.is_none.result off in
          each_set (λ _ m. m.published ≢ None) es q n (λ k e ne. l.encoded was.0 k e)
          (is_published n.published _ c.is_none.ensures was.1);
    }

pub returns-clause-ok : goal.returns-clause-ok
returns-clause-ok c =
    let es = c.args.self.now.paths.entries in
    set_items es c.args.name.now c.in-Some.position c.args.named (first_at es _ _ (sym c.in-Some.ensures.index))
    (names_differ es c.get_index_mut.ensures.unique)
