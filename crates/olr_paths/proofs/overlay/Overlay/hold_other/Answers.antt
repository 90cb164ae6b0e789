use Rattle.olr_paths.proofs.Common.{◌≡◌, Some, false, ap, sym, items, changes_in, overlay_changes, under_changes}
use Rattle.olr_paths.proofs.Overlaying.{has_name, sets, acts_before, acts_behind, overlaid_set, not_dropped, puts_one}
use Rattle.olr_paths.proofs.overlay.Overlay.hold_other.Goals as goal

pub returns-then-has-clause-ok : goal.returns-then-has-clause-ok
returns-then-has-clause-ok c = λ is d on.
    acts_behind (sets c.args.name.now c.args.path) (under_changes (overlay_changes c.args.self.now) is) _ _
    c.in_ok-hold_other.ensures.ok d (sym c.if-has.ensures)

pub returns-clause-ok : goal.returns-clause-ok
returns-clause-ok c = λ is d there.
    let s = c.args.self.now in
    let name = c.args.name.now in
    let path = c.args.path in
    let ys = items s.added in
    let ds = changes_in c.insert.new.self.entries in
    let free : has_name ys name ≡ false = sym c.if-has.ensures in
    let puts =
    puts_one s.changes.entries c.insert.new.self.entries c.in_ok-from_str.field-0 (Some c.in_ok-other.other) name
    (Some path) c.in_ok-insert.ensures.entries c.in_ok-from_str.ensures.ok
    (ap (λ p. Some p) c.in_ok-other.ensures.ok) in
    acts_before (sets name path) (under_changes (overlay_changes s) is) ys (under_changes ds is)
    (overlaid_set (overlay_changes s) ds name path is puts (not_dropped (overlay_changes s) is ys name there free)) free
