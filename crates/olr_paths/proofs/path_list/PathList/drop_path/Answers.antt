use Rattle.olr_paths.proofs.Common.{◌≢◌, ◌<◌, None, sym, ap, length, ◌∙◌, arith, length-remove, items, ascends-remove}
use Rattle.olr_paths.proofs.NamedEntries.{first_at, items_of, none_filtered, named_there, names_differ, removed_items}
use Rattle.olr_paths.proofs.PathIdLemmas.{each_removed, noted_removed}
use Rattle.olr_paths.proofs.path_list.PathList.drop_path.Goals as goal

pub returns : goal.returns
returns c =
    let es = c.args.self.now.paths.entries in
    let name = c.args.name.now in
    let q = c.in-Some.position in
    ap items_of c.shift_remove_index.ensures.entries
    ∙ removed_items es name q (first_at es name q (sym c.in-Some.ensures.index))
    (names_differ es c.in-Some.ensures.unique)

pub returns-in_default : goal.returns-in_default
returns-in_default c =
    let es = c.args.self.now.paths.entries in
    sym (none_filtered (items c.args.self.now) c.args.name.now
    (sym (named_there es c.args.name.now) ∙ sym c.in_default.ensures.found))

pub invariant_of-self : goal.invariant_of-self
invariant_of-self c =
    let l = c.args.self.now in
    let es = l.paths.entries in
    let ms = l.path_ids.items in
    let q = c.in-Some.position in
    let within : q < length ms = omega (arith, c.in-Some.ensures.within, l.long) in
    let entries = c.shift_remove_index.ensures.entries in
    let ids = c.remove-path_id.ensures.items in
    record {
      long = rw (entries, ids) (omega (arith, length-remove ms q within, length-remove es q (omega (arith, l.long)), l.long));
      ascend = rw ids (ascends-remove ms q l.ascend within);
      noted = rw (entries, ids) (noted_removed l c.forget.new.self q _ within c.remove-path_id.ensures.value
          c.forget.ensures.spares);
      encoded = λ off. rw entries (each_removed (λ _ n. n.published ≢ None) es ms q l.long (l.encoded off));
    }
