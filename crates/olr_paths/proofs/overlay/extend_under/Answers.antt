use Rattle.olr_paths.proofs.Common.{refl, Item, items, changes_in, subst}
use Rattle.olr_paths.proofs.NamedEntries.{Entries, item_of, items_of}
use Rattle.olr_paths.proofs.Overlaying.{Copied, put_free}
use Rattle.olr_paths.proofs.overlay.extend_under.Goals as goal

pub push_under-requires : goal.push_under-requires
push_under-requires c = λ j one.
    let cs = changes_in c.args.changes.now.entries in
    let named = c.in-Some.named.now in
    let i : Item = item_of (c.in-Some.name.now, named) in
    let h = subst (λ (es : Entries). Copied cs (items_of es) (items c.args.list.now) (items c.args.to.now)
    (items c.loop-name.to)) c.in-Some.ensures.steps c.loop-name.invariant in
    rw c.as_str.ensures.value (put_free cs _ _ _ _ i h named j (rw c.as_str.ensures.value at one) refl c.requires)
