-- The tables of a map: slots by node number, the nodes' entries by slot, the lines by number; and their invariant.
--     node_in b es v      the entry of node v;  links_in side b es v      its lines on one side
--     map_from b es F      the map
--     node_slot b v      the slot of node v
--     AreTables b es F      the map is sound, numbers and slots refer to each other, each node has the lists of its
--         lines
use Rattle.std.specs.Prelude.{◌≡◌, ◌==◌, ℕ, List, map, Option, Some, unwrap_or, length, refl}
use Rattle.std.specs.Option.{option_map, option_map_or}
use Rattle.std.specs.Coded.{Coded, code_by, coded×, coded_ℕ, coded_list, coded_option, Coded-set, le_prop}
use Rattle.std.specs.FinMap.{FinMap, from_entries}
use Rattle.std.specs.Ordering.{nat_cmp}
use Rattle.std.proofs.Props.{props}
use Rattle.olr_spec.specs.Coordinates.{Coord}
use Rattle.olr_spec.specs.Map.{Map, Line, IsMap, lines_where, line_at, dm, no_coord}
use Rattle.olr_map.specs.Linked.{lines_on, ends_on}
use Rattle.olr_map.specs.SlotIndexes.{pairs_of, slot_by}
use Rattle.olr_model.specs.Ends.{HaveSlotsApart}
use Rattle.olr_map.specs.Slotted.{at, in_slot}
use Rattle.olr_map.specs.NodeLinks.{links_at}
use Rattle.olr_map.specs.declared.slot_index.SlotIndex.{SlotIndex}
use Rattle.olr_map.specs.declared.links.Links.{Links}
use Rattle.olr_model.specs.declared.read.LineEnd.{LineEnd}
use Rattle.olr_map.specs.declared.slots.NodeEntry.{NodeEntry}
use Rattle.olr_map.specs.declared.slots.Side.{Side}
use Rattle.olr_map.specs.declared.slots.Side.TheVariants.{Out, In}

abbrev pub node_in : SlotIndex → List (Option NodeEntry) → ℕ → Option NodeEntry
node_in b es v = in_slot es (slot_by b v)

abbrev pub links_in : Side → SlotIndex → List (Option NodeEntry) → ℕ → Option Links
links_in side b es v = option_map (links_at side) (node_in b es v)

abbrev pub coord_in : List (Option NodeEntry) → ℕ → Coord
coord_in es p = option_map_or (λ (e : NodeEntry). e.place) (at es p) no_coord

abbrev pub map_from : SlotIndex → List (Option NodeEntry) → FinMap nat_cmp Line → Map
map_from b es F =
    record { nodes = from_entries (map (λ (e : ℕ × ℕ). (e.0, coord_in es e.1)) (pairs_of b)); lines = F }

abbrev pub node_slot : SlotIndex → ℕ → ℕ
node_slot b v = unwrap_or (slot_by b v) 0

-- the one for a side
abbrev pub sides : {A : Type 0} → A → A → Side → A
sides a b Out = a
sides a b In = b

-- the ends of a line that is in a node's list on one side: the one at this node, and the far one
abbrev pub near : Side → Line → ℕ
near Out l = l.from
near In l = l.to

abbrev pub far : Side → Line → ℕ
far Out l = l.to
far In l = l.from

abbrev pub lines_at : Side → Map → ℕ → List ℕ
lines_at side M v = lines_where M (λ l. near side l == v)

abbrev pub end_at : Side → Map → (ℕ → ℕ) → ℕ → LineEnd
end_at side M slot x = record { slot = slot (far side (line_at M x)); len = dm M x }

pub record IsListed (side : Side) (M : Map) (slot : ℕ → ℕ) (v : ℕ) (l : Links) : Type 0 where
  pub numbers : lines_on l ≡ lines_at side M v
  pub ends : ends_on l ≡ map (end_at side M slot) (lines_at side M v)

-- each node's slot has its entry, and each entry is in the slot of its node
pub record IsIndexed (b : SlotIndex) (es : List (Option NodeEntry)) : Type 0 where
  pub filled : (v p : ℕ) → slot_by b v ≡ Some p → option_map (λ (e : NodeEntry). e.id) (at es p) ≡ Some v
  pub named : (v p : ℕ) → option_map (λ (e : NodeEntry). e.id) (at es p) ≡ Some v → slot_by b v ≡ Some p

pub record AreTables (b : SlotIndex) (es : List (Option NodeEntry)) (F : FinMap nat_cmp Line) : Type 0 where
  pub sound : IsMap (map_from b es F)
  pub indexed : IsIndexed b es
  pub placed : HaveSlotsApart (map_from b es F) (node_slot b) (length es)
  pub listed : (side : Side) (v : ℕ) (l : Links) → links_in side b es v ≡ Some l →
      IsListed side (map_from b es F) (node_slot b) v l

coded_end : Coded LineEnd
coded_end =
    code_by (ℕ × ℕ) (coded× coded_ℕ coded_ℕ) (λ e. (e.slot, e.len)) (λ p. record { slot = p.0; len = p.1 }) (λ _. refl)

pub AreTables-prop : (b : SlotIndex) (es : List (Option NodeEntry)) (F : FinMap nat_cmp Line) → IsProp (AreTables b es F)
AreTables-prop b es F =
    hlevel (
      props,
      le_prop,
      Coded-set coded_ℕ,
      Coded-set (coded_list coded_ℕ),
      Coded-set (coded_list coded_end),
      Coded-set (coded_option coded_ℕ),
    )
