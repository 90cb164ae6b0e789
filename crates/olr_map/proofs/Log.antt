-- Changes that can be made with some capacity can be made with more.
use Rattle.olr_map.proofs.Common.{IsRoomWithin, common_steps, TableChange, CanMakeAll, HasRoomFor, made_all, reverse, edited}
use Rattle.olr_map.proofs.Common.{arith, subst, IsOk, Map, List, Room, Side, ◌++◌, sym, ◌∙◌, ◌∷◌, ◌≡◌, ◌≤◌, [], ap, ℕ}
use Rattle.olr_map.proofs.Common.{RoadMap, tables_map, has_node, cases_eq, ◌+◌, AddsNoNode, all_node_puts, change_edit, CanMake}
use Rattle.olr_map.proofs.Common.{changed_at, room_after, map_after, node_puts, KeepsSlots, got_other, left_other, left_same}
use Rattle.std.specs.Prelude.{IsTrue}
use Rattle.std.proofs.lemmas.List.{reverse-append}
use Rattle.olr_map.proofs.Making.{made_as}
use Rattle.olr_spec.specs.Map as map

room_fits : (M : Map) (R S : Room) (e : map.Edit) → IsRoomWithin R S → HasRoomFor M R e → HasRoomFor M S e
room_fits M R S e w h = grind (arith, common_steps, w.lines)

-- the same capacity at one node
changed_within : (R S : Room) (k : ℕ) (n : Side → ℕ) → IsRoomWithin R S → (side : Side) (v : ℕ) →
    changed_at k (n side) (R.lines side) v ≤ changed_at k (n side) (S.lines side) v
changed_within R S k n w side v = grind (arith, common_steps, w.lines side v)

after_within : (R S : Room) (c : TableChange) → IsRoomWithin R S → IsRoomWithin (room_after R c) (room_after S c)
after_within R S c w = grind (arith, common_steps, changed_within)

pub can_with_more : (M : Map) (R S : Room) (c : TableChange) → IsRoomWithin R S → CanMake M R c → CanMake M S c
can_with_more M R S c w can = grind (arith, room_fits)

pub all_with_more : (M : Map) (R S : Room) (cs : List TableChange) → IsRoomWithin R S → CanMakeAll M R cs →
    CanMakeAll M S cs
all_with_more M R S [] w can = tt
all_with_more M R S (c ∷ cs) w can = (
  can_with_more M R S c w can.0,
  all_with_more (map_after M c) (room_after R c) (room_after S c) cs (after_within R S c w) can.1,
)

-- and on an equal map
pub all_on : (M N : Map) (R S : Room) (cs : List TableChange) → N ≡ M → IsRoomWithin R S → CanMakeAll M R cs →
    CanMakeAll N S cs
all_on M N R S cs same w can = subst (λ (K : Map). CanMakeAll K S cs) (sym same) (all_with_more M R S cs w can)

-- ---- one more edit in a log

pub one_more : (M N : Map) (R S : Room) (c : TableChange) (cs : List TableChange) → CanMakeAll M R cs → CanMake N S c →
    map_after N c ≡ M → IsRoomWithin R (room_after S c) → CanMakeAll N S (c ∷ cs)
one_more M N R S c cs all can back within = (can, all_on M (map_after N c) R (room_after S c) cs back within all)

-- ---- the last edit of a log

pub last_of : (xs ys : List TableChange) (c : TableChange) → xs ≡ ys ++ c ∷ [] → reverse xs ≡ c ∷ reverse ys
last_of xs ys c e = ap (λ (cs : List TableChange). reverse cs) e ∙ reverse-append ys (c ∷ [])

-- once it is undone, the others can be undone
pub rest_can : (M N : Map) (R S : Room) (c : TableChange) (cs ds : List TableChange) → ds ≡ c ∷ cs → CanMakeAll M R ds →
    N ≡ map_after M c → IsRoomWithin (room_after R c) S → CanMakeAll N S cs
rest_can M N R S c cs ds is all same within = grind (arith, common_steps, all_on)

pub rest_made : (M N : Map) (c : TableChange) (cs ds : List TableChange) → ds ≡ c ∷ cs → N ≡ map_after M c →
    made_all N cs ≡ made_all M ds
rest_made M N c cs ds is same = grind arith

-- ---- nodes while edits are undone

-- a change that puts no node back leaves no other nodes
nodes_before : (M : Map) (c : TableChange) → IsOk (edited M (change_edit c)) → node_puts c ≡ 0 → (v : ℕ) →
    IsTrue (has_node (map_after M c) v) → IsTrue (has_node M v)
nodes_before M c accepted none v there = grind (arith, common_steps, made_as, got_other, left_other, left_same, cases_eq)

pub rest_slots : (s t u : RoadMap) (R : Room) (c : TableChange) (cs ds : List TableChange) → ds ≡ c ∷ cs →
    CanMakeAll (tables_map t) R ds → (all_node_puts ds ≡ 0) × AddsNoNode s t →
    tables_map u ≡ map_after (tables_map t) c → KeepsSlots t u → (all_node_puts cs ≡ 0) × AddsNoNode s u
rest_slots s t u R c cs ds is all before same slots =
    let can : CanMake (tables_map t) R c = grind arith in
    let none : node_puts c + all_node_puts cs ≡ 0 = grind arith in
    (omega arith, λ v there. grind (arith, nodes_before (tables_map t) c can.accepted, before.1 v, slots v))
