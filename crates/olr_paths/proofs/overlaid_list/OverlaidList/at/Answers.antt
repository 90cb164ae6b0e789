use Rattle.olr_paths.proofs.Common.{◌∷◌, [], under_change, ◌≡◌, ◌-◌, ◌≤◌, ◌∙◌, ℕ, List, Some, String, Global, length, slice_get}
use Rattle.olr_paths.proofs.Common.{ap, sym, arith, length-map, slice_get-map, option_map, Item, ◌<◌, cases_lt, inl, inr, true}
use Rattle.olr_paths.proofs.Common.{false, items, overlay_changes, change_at, shown_items, shown_item, NamedPath}
use Rattle.olr_paths.specs.declared.overlaid_list.OverlaidList.{OverlaidList}
use Rattle.olr_paths.specs.Items.{item_of as under}
use Rattle.olr_paths.proofs.NamedEntries.{item_of, item_at}
use Rattle.olr_paths.proofs.Changed.{changed_by, one_changed, overlaid_at, overlaid_behind}
use Rattle.olr_paths.proofs.overlaid_list.OverlaidList.at.Goals as goal

pub returns-in-Some-clause-shown : goal.returns-in-Some-clause-shown
returns-in-Some-clause-shown c =
    let l = c.args.self in
    let cs = overlay_changes l.overlay.now in
    let e : String Global × NamedPath = (c.in-Some.name.now, c.in-Some.named.now) in
    let i : Item = item_of e in
    let at = item_at l.list.now.paths.entries c.args.position e (sym c.in-Some.ensures.entry) in
    let shown : under_change (change_at cs i.name) i ≡ shown_item c.show_under.result ∷ [] =
    rw c.as_str.ensures.value at c.show_under.ensures in
    let one = one_changed (change_at cs i.name) i (l.none_removed i.name) in
    let same : changed_by cs i ≡ shown_item c.show_under.result = cc (one, shown) in
    overlaid_at cs (items l.list.now) (items l.overlay.now.added) l.none_removed c.args.position i at
    ∙ ap (λ (j : Item). Some j) same

behind : (l : OverlaidList) (k n : ℕ) → n ≡ length l.list.now.paths.entries →
    (k < length l.list.now.paths.entries → false ≡ true) →
    slice_get (shown_items l) k ≡ slice_get (items l.overlay.now.added) (k - n)
behind l k n long none =
    let all : length (items l.list.now) ≡ n = length-map l.list.now.paths.entries item_of ∙ sym long in
    let le : n ≤ k = elim (cases_lt k n) [ inl low ↦ absurd (let e = none (omega arith) in cc) | inr high ↦ high ] in
    overlaid_behind (overlay_changes l.overlay.now) (items l.list.now) (items l.overlay.now.added) l.none_removed k (k - n)
    (omega arith)

pub returns-in_err-name-clause-shown : goal.returns-in_err-name-clause-shown
returns-in_err-name-clause-shown c =
    let l = c.args.self in
    let q = c.args.position - c.len-count.result in
    behind l c.args.position c.len-count.result c.len-count.ensures.len c.in_default.ensures.found.1
    ∙ slice_get-map item_of l.overlay.now.added.paths.entries q
    ∙ ap (option_map item_of) (sym c.in_err-name.ensures.entry)
    ∙ ap (option_map shown_item) (sym c.from_residual.ensures)

pub returns-clause-shown : goal.returns-clause-shown
returns-clause-shown c =
    let l = c.args.self in
    let e : String Global × NamedPath = (c.in_ok-name.name.now, c.in_ok-name.named.now) in
    behind l c.args.position c.len-count.result c.len-count.ensures.len c.in_default.ensures.found.1
    ∙ item_at l.overlay.now.added.paths.entries (c.args.position - c.len-count.result) e (sym c.in_ok-name.ensures.entry)
    ∙ ap (λ (n : List ℕ). Some (under n c.in_ok-name.named.now)) (sym c.as_str-2.ensures.value)
    ∙ ap (λ (j : Item). Some j) (sym c.show.ensures)
