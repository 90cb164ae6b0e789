use Rattle.olr_paths.proofs.Common.{◌≡◌, ◌∙◌, ◌++◌, ℕ, List, Option, Some, None, Path, Rc, Global, Item, is_some, sym, ap, items}
use Rattle.olr_paths.proofs.Common.{append-nil, all_named, path_named, option_map, change_at, changes_in, under_change}
use Rattle.olr_paths.specs.Items.{item_of}
use Rattle.olr_paths.proofs.Overlaying.{change_found, path_in}
use Rattle.olr_paths.proofs.overlay.push_under.Goals as goal

pub push-requires : goal.push-requires
push-requires c =
    let es = c.args.changes.now.entries in
    let name = c.args.name.now in
    let i : Item = item_of name c.args.named.now in
    let free : change_at (changes_in es) name ≡ None =
    change_found es name ∙ ap (option_map path_in) (sym c.in_default.ensures.value) in
    ap (λ (q : List ℕ). is_some (path_named (all_named (items c.args.to.now)) q)) c.in_ok-from_str.ensures.ok
    ∙ c.requires i (ap (λ (d : Option (Option Path)). under_change d i) free)

pub returns-in_default-change-clause-ok : goal.returns-in_default-change-clause-ok
returns-in_default-change-clause-ok c =
    let es = c.args.changes.now.entries in
    let name = c.args.name.now in
    let i : Item = item_of name c.args.named.now in
    let gone : change_at (changes_in es) name ≡ Some None =
    change_found es name ∙ ap (option_map path_in) (sym c.in-Some.ensures.value)
    ∙ ap (λ (o : Option (Rc Path Global)). Some (path_in o)) c.in_default-change.is in
    sym (append-nil (items c.args.to.now))
    ∙ ap (λ (d : Option (Option Path)). items c.args.to.now ++ under_change d i) (sym gone)

pub push-requires-2 : goal.push-requires-2
push-requires-2 c =
    let es = c.args.changes.now.entries in
    let name = c.args.name.now in
    let i : Item = item_of name c.args.named.now in
    let other : change_at (changes_in es) name ≡ Some (Some c.in-Some-change.path.value) =
    change_found es name ∙ ap (option_map path_in) (sym c.in-Some.ensures.value)
    ∙ ap (λ (o : Option (Rc Path Global)). Some (path_in o)) c.in-Some-change.is in
    ap (λ (q : List ℕ). is_some (path_named (all_named (items c.args.to.now)) q)) c.in_ok-from_str-2.ensures.ok
    ∙ c.requires _ (ap (λ (d : Option (Option Path)). under_change d i) other)
