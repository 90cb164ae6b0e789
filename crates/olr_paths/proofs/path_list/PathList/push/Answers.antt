use Rattle.olr_paths.proofs.Common.{insert_entry, ascends_push, length_push, map-append, string_eq, IsNoted, arith, ℕ}
use Rattle.olr_paths.proofs.Common.{subst, None, List, ◌++◌, ◌≢◌, ◌∙◌, ◌∷◌, [], ap}
use Rattle.olr_paths.proofs.NamedEntries.{Entries, item_of}
use Rattle.olr_paths.proofs.PathIdLemmas.{NamedNoted, insert_last, noted_below, each_push}
use Rattle.olr_paths.proofs.NotedPositions.{is_published}
use Rattle.std.proofs.lemmas.Bool.{or_parts}
use Rattle.olr_paths.proofs.path_list.PathList.push.Goals as goal

pub returns-clause-ok : goal.returns-clause-ok
returns-clause-ok c =
    let es = c.args.self.now.paths.entries in
    rw (c.in-Ok.ensures.entries, c.in_ok-reserve.ensures.entries, insert_last es c.args.name c.args.named c.requires)
    (map-append item_of es ((c.args.name, c.args.named) ∷ []))

pub invariant_of-self-in-Break-branch-4 : goal.invariant_of-self-in-Break-branch-4
invariant_of-self-in-Break-branch-4 c =
    let l = c.args.self.now in
    let path_id = c.in_ok-path_id.path_id in
    let below = rw c.deref.ensures.value at c.in_ok-path_id.ensures in
    let entries = c.in_ok-reserve.ensures.entries in
    let ids = c.in_ok-reserve-2.ensures.items in
    record {
      long = rw (entries, ids) l.long;
      ascend = rw ids l.ascend;
      noted = rw (entries, ids) (noted_below l c.replace.new.self path_id below c.replace.ensures.spares);
      encoded = λ off. rw entries (l.encoded off);
    }

pub invariant_of-self-2 : goal.invariant_of-self-2
invariant_of-self-2 c =
    let l = c.args.self.now in
    let es = l.paths.entries in
    let ms = l.path_ids.items in
    let name = c.args.name in
    let n = c.args.named in
    let path_id = c.in_ok-path_id.path_id in
    let g = c.replace.new.self in
    let below = rw c.deref.ensures.value at c.in_ok-path_id.ensures in
    let entries =
    c.in-Ok.ensures.entries ∙ ap (λ (ys : Entries). insert_entry string_eq ys name n) c.in_ok-reserve.ensures.entries
    ∙ insert_last es name n c.requires in
    let ids = c.push_reserved.ensures.items ∙ ap (λ (xs : List ℕ). xs ++ path_id ∷ []) c.in_ok-reserve-2.ensures.items in
    record {
      long = rw (entries, ids) (omega (arith, length_push ms path_id, length_push es (name, n), l.long));
      ascend = rw ids (ascends_push ms path_id l.ascend below);
      noted =
          rw (entries, ids) (each_push (NamedNoted g) es ms name n path_id l.long
          (noted_below l g path_id below c.replace.ensures.spares) (subst (IsNoted g path_id) c.keys.ensures c.in_ok-replace.ensures.noted));
      encoded = λ off.
          let was = or_parts l.held c.is_none.result off in
          rw entries (each_push (λ _ m. m.published ≢ None) es ms name n path_id l.long (l.encoded was.0)
          (is_published n.published _ c.is_none.ensures was.1));
    }
