-- The lines of a node on one side.
--     links_at side e, with_links side e l      those that leave it or enter it;  the entry with others instead
--     CanPutEnd es side p x      on this side of the node in slot p, a far end of line x can be set without allocating
--     IsRelinked old new side p R      the node in slot p has other lines on this side, which R ties to those before
use Rattle.std.specs.Prelude.{◌≡◌, ℕ, ◌<◌, List, length, Option, Some, IsFalse}
use Rattle.std.specs.List.Sorted.{IsStrictlyIncreasing}
use Rattle.olr_spec.specs.Map.{has}
use Rattle.olr_map.specs.Linked.{lines_on, links_room}
use Rattle.olr_map.specs.Slotted.{IsReplaced, at}
use Rattle.olr_map.specs.declared.links.Links.{Links}
use Rattle.olr_map.specs.declared.slots.NodeEntry.{NodeEntry}
use Rattle.olr_map.specs.declared.slots.Side.{Side}
use Rattle.olr_map.specs.declared.slots.Side.TheVariants.{Out, In}

abbrev pub links_at : Side → NodeEntry → Links
links_at Out e = e.outs
links_at In e = e.ins

abbrev pub with_links : Side → NodeEntry → Links → NodeEntry
with_links Out e l = record { id = e.id; place = e.place; outs = l; ins = e.ins }
with_links In e l = record { id = e.id; place = e.place; outs = e.outs; ins = l }

abbrev pub CanPutEnd : List (Option NodeEntry) → Side → ℕ → ℕ → Type 0
CanPutEnd es side p x =
    (e : NodeEntry) × (at es p ≡ Some e) × IsStrictlyIncreasing (lines_on (links_at side e))
    × (IsFalse (has (lines_on (links_at side e)) x) →
    length (lines_on (links_at side e)) < links_room (links_at side e))

pub record IsRelinked (old new : List (Option NodeEntry)) (side : Side) (p : ℕ) (R : Links → Links → Type 0) : Type 0 where
  pub entry : NodeEntry
  pub links : Links
  pub is : IsReplaced old new p entry (with_links side entry links)
  pub holds : R (links_at side entry) links
