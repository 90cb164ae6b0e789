-- Values in their slots.
--     slots_of s, free_in s, room_in s      the contents of the slots;  how many are free;  the capacity for more
--     Fills old new p      slot p was free and is no longer listed, or it is a new one at the end, and none was
--         free
use Rattle.std.specs.Prelude.{◌≡◌, ℕ, ◌-◌, ◌+◌, ◌^◌, ◌<◌, ◌⊎◌, min, length, List, Option}
use Rattle.std.specs.Vec.{vec_capacity}
use Rattle.olr_map.specs.declared.slab.Slab.{Slab}

module _ {X : Type 0} where
  abbrev pub slots_of : Slab X → List (Option X)
  slots_of s = s.entries.items

  abbrev pub free_in : Slab X → ℕ
  free_in s = length s.free.items

  abbrev pub room_in : Slab X → ℕ
  room_in s =
      free_in s + (min (min (vec_capacity s.entries) (vec_capacity s.free)) (2 ^ 32 - 1) - length s.entries.items)

  abbrev pub Fills : Slab X → Slab X → ℕ → Type 0
  Fills old new p =
      ((p < length (slots_of old)) × (length (slots_of new) ≡ length (slots_of old)) × (free_in new + 1 ≡ free_in old))
      ⊎ ((p ≡ length (slots_of old)) × (length (slots_of new) ≡ length (slots_of old) + 1) × (free_in old ≡ 0)
      × (free_in new ≡ 0))
