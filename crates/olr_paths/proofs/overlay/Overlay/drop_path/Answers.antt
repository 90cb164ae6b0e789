use Rattle.olr_paths.proofs.Common.{None, refl, sym, items, changes_in, overlay_changes, under_changes}
use Rattle.olr_paths.proofs.Overlaying.{removes, acts_before, acts_behind, overlaid_drop, puts_one}
use Rattle.olr_paths.proofs.overlay.Overlay.drop_path.Goals as goal

pub returns-then-has-clause-ok : goal.returns-then-has-clause-ok
returns-then-has-clause-ok c = λ is d.
    acts_behind (removes c.args.name.now) (under_changes (overlay_changes c.args.self.now) is) _ _ c.drop_path.ensures d
    (sym c.if-has.ensures)

pub returns-clause-ok : goal.returns-clause-ok
returns-clause-ok c = λ is d.
    let s = c.args.self.now in
    let name = c.args.name.now in
    let ds = changes_in c.insert.new.self.entries in
    let puts =
    puts_one s.changes.entries c.insert.new.self.entries c.in_ok-from_str.field-0 None name None
    c.in_ok-insert.ensures.entries c.in_ok-from_str.ensures.ok refl in
    acts_before (removes name) (under_changes (overlay_changes s) is) (items s.added) (under_changes ds is)
    (overlaid_drop (overlay_changes s) ds name is puts) (sym c.if-has.ensures)
