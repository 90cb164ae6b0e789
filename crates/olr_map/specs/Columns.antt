-- Nodes in their slots, stored in columns.
--     entry_of v c o i      the entry of a node with this number, this coordinate and these lines
--     rows vs cs os is      the contents of slots by their columns
--     node_slots s, node_room s      the contents of the slots;  the capacity for more nodes
use Rattle.std.specs.Prelude.{ℕ, ◌-◌, ◌+◌, min, length, List, [], ◌∷◌, Option, Some, None}
use Rattle.std.specs.Vec.{vec_capacity}
use Rattle.olr_spec.specs.Coordinates.{Coord}
use Rattle.olr_map.specs.Slabs.{slots_of, free_in, room_in}
use Rattle.olr_map.specs.declared.links.Links.{Links}
use Rattle.olr_map.specs.declared.slots.NodeEntry.{NodeEntry}
use Rattle.olr_map.specs.declared.slots.NodeSlots.{NodeSlots}

abbrev pub entry_of : Option ℕ → Coord → Links → Links → Option NodeEntry
entry_of None c o i = None
entry_of (Some v) c o i = Some (record { id = v; place = c; outs = o; ins = i })

abbrev pub rows : List (Option ℕ) → List Coord → List Links → List Links → List (Option NodeEntry)
rows (v ∷ vs) (c ∷ cs) (o ∷ os) (i ∷ is) = entry_of v c o i ∷ rows vs cs os is
rows _ _ _ _ = []

abbrev pub node_slots : NodeSlots → List (Option NodeEntry)
node_slots s = rows (slots_of s.ids) s.places.items s.outs.items s.ins.items

abbrev pub node_room : NodeSlots → ℕ
node_room s =
    min (room_in s.ids) (free_in s.ids
    + (min (vec_capacity s.places) (min (vec_capacity s.outs) (vec_capacity s.ins)) - length (slots_of s.ids)))
