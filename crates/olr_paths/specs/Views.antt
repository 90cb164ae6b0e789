-- A list under changes, read in place.
--     shown_items l      the list under its changes.
--     shown_item s      one path as an item
use Rattle.std.specs.Prelude.{List, option_map}
use Rattle.olr_paths.specs.Items.{Item, items, results_of}
use Rattle.olr_paths.specs.Overlaid.{under_overlay}
use Rattle.olr_paths.specs.declared.overlaid_list.OverlaidList.{OverlaidList}
use Rattle.olr_paths.specs.declared.view.PathView.{PathView}

abbrev pub shown_items : OverlaidList → List Item
shown_items l = under_overlay (items l.list.now) l.overlay.now

abbrev pub shown_item : PathView → Item
shown_item s = record { name = s.name.now; path = s.path.now.value; results = option_map (λ p. results_of p.now) s.published }
