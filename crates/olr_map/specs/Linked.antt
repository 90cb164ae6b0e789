-- Lines of a node with their far ends.
--     lines_on l, ends_on l      the lines, and the far end of each
--     vectors_room m, links_room l      the capacity of vectors and of a list, in lines
--     lines_kept s, room_kept s      the lines in the memory of an empty list, which are none, and its capacity
--     IsBare l s      a list with the lines and the capacity of this memory
--     IsPut old new x o      line x has the far end o, or it is not in the list if that is none
--     IsRoomier old new      the same lines, with at least the capacity
use Rattle.std.specs.Prelude.{◌≡◌, ◌==◌, ℕ, ◌<◌, ◌≤◌, true, false, cond, List, [], min, length, take, map, Option, Some, None}
use Rattle.std.specs.Option.{is_some}
use Rattle.std.specs.Global.{Box}
use Rattle.std.specs.Vec.{vec_capacity}
use Rattle.std.specs.List.Sorted.{IsStrictlyIncreasing}
use Rattle.olr_spec.specs.Map.{has}
use Rattle.olr_map.specs.declared.links.Links.{Links}
use Rattle.olr_map.specs.declared.links.Links.TheVariants.{Inline, Spilled}
use Rattle.olr_map.specs.declared.links.Spilled.{Spilled as Vectors}
use Rattle.olr_model.specs.declared.read.LineEnd.{LineEnd}

abbrev pub lines_on : Links → List ℕ
lines_on (Inline f) = take f.count f.lines
lines_on (Spilled m) = m.value.lines.items

abbrev pub ends_on : Links → List LineEnd
ends_on (Inline f) = take f.count f.ends
ends_on (Spilled m) = m.value.ends.items

abbrev pub vectors_room : Vectors → ℕ
vectors_room m = min (vec_capacity m.lines) (vec_capacity m.ends)

abbrev pub links_room : Links → ℕ
links_room (Inline f) = 4
links_room (Spilled m) = vectors_room m.value

-- the memory of an empty list: its vectors, if it has any
abbrev pub EmptyLinks : Type 0
EmptyLinks = Option (Box Vectors)

abbrev pub lines_kept : EmptyLinks → List ℕ
lines_kept None = []
lines_kept (Some m) = m.value.lines.items

abbrev pub room_kept : EmptyLinks → ℕ
room_kept None = 4
room_kept (Some m) = vectors_room m.value

pub record IsBare (l : Links) (s : EmptyLinks) : Type 0 where
  pub lines : lines_on l ≡ lines_kept s
  pub room : links_room l ≡ room_kept s

-- where the far ends were f of each line, they are g of each line, if f and g differ at x alone
pub record IsPut (old new : Links) (x : ℕ) (o : Option LineEnd) : Type 0 where
  pub ascends : IsStrictlyIncreasing (lines_on new)
  pub numbers : (n : ℕ) → has (lines_on new) n ≡ cond (x == n) (is_some o) (has (lines_on old) n)
  pub ends : (f g : ℕ → LineEnd) → ends_on old ≡ map f (lines_on old) → ((n : ℕ) → (x == n) ≡ false → f n ≡ g n) →
      ((e : LineEnd) → o ≡ Some e → e ≡ g x) → ends_on new ≡ map g (lines_on new)
  pub room : links_room new ≡ links_room old
  pub free : o ≡ None → has (lines_on old) x ≡ true → length (lines_on new) < links_room new

pub record IsRoomier (old new : Links) : Type 0 where
  pub lines : lines_on new ≡ lines_on old
  pub ends : ends_on new ≡ ends_on old
  pub room : links_room old ≤ links_room new
