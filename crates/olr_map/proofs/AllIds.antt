-- The numbers of all nodes and of all lines, collected slot by slot and node by node, and then sorted.
use Rattle.olr_map.proofs.Common.{AllByRecursion, common_steps, get-entries, keys_sorted, exactly_out, option_map, is_some-find}
use Rattle.olr_map.proofs.Common.{◌==◌, false, slot_by, RoadMap, Each-to, length, get_or, Option, FinMap, eq-eqb, ne_eqb, subst}
use Rattle.olr_map.proofs.Common.{ascend_out, tables_map, node_slots, lines_out, NodeEntry, same_Some, both_ways, []}
use Rattle.olr_map.proofs.Common.{take_more, has_there, has_cases, Each-from, flat_map, or_cases, or_right, has_node, has_line}
use Rattle.olr_map.proofs.Common.{has_here, slots_of, all_held, is_some, nat_cmp, some_of, entries, or_left, present}
use Rattle.olr_map.proofs.Common.{arith, IsMap, Links, Coord, true, List, ◌++◌, take, Some, None, refl, rows, ◌≡◌, zero}
use Rattle.olr_map.proofs.Common.{◌+◌, ◌<◌, ◌∷◌, map, sym, ◌∙◌, get, Map, has, ap, at, ℕ, inl, inr, ◌⊎◌, suc, ◌≢◌, ◌↔◌}
use Rattle.std.proofs.lemmas.Map.Keys.{IsDistinct-head, IsDistinct-tail, IsStrictlyIncreasing-from_sorted, IsDistinct-cons}
use Rattle.std.proofs.lemmas.Map.Keys.{IsDistinct-IsPermutation, IsStrictlyIncreasing-from_distinct}
use Rattle.std.specs.List.{slice_get, IsDistinct}
use Rattle.std.specs.List.Sorted.{IsPermutation, IsSortedByKey}
use Rattle.std.specs.FinMap.{entries_sorted}
use Rattle.std.proofs.lemmas.List.Folds.{list_any-append}
use Rattle.std.proofs.lemmas.List.Sorted.{IsNonDecreasingBy-from_sort, list_any-IsPermutation}
use Rattle.std.proofs.lemmas.List.Elements.{filter_map-append}
use Rattle.std.proofs.lemmas.Cmp.{eq_by_cmp_equiv}
use Rattle.olr_spec.proofs.SameNumbers.{distinct_from_ascending, same_ascending}
use Rattle.std.proofs.lemmas.Option.{get_or_from_slice_get, slice_get-get_or}
use Rattle.olr_map.proofs.Lookups.{eqb_flip}
use Rattle.olr_map.proofs.Reading.{slot_of, id_has, entry_at, node_read}
use Rattle.olr_map.proofs.ColumnLemmas.{inside, place_at}

-- ---- lists of numbers

-- a number that differs from each of a list
none_equal : (x : ℕ) (ys : List ℕ) → ((y : ℕ) → has ys y ≡ true → x ≢ y) → AllByRecursion (λ (y : ℕ). (x == y) ≡ false) ys
none_equal x ys h = Each-to (λ (y : ℕ). (x == y) ≡ false) ys (λ y i. ne_eqb x y (h y i))

not_among : (x : ℕ) (ys : List ℕ) → AllByRecursion (λ (y : ℕ). (x == y) ≡ false) ys → has ys x ≡ true → ⊥
not_among x ys a h = let no = Each-from (λ (y : ℕ). (x == y) ≡ false) ys a x h in grind (arith, eq-eqb)

in_either : (xs ys : List ℕ) (y : ℕ) → has (xs ++ ys) y ≡ true → (has xs y ≡ true) ⊎ (has ys y ≡ true)
in_either xs ys y h = grind (arith, common_steps, list_any-append, or_cases)

distinct_append : (xs ys : List ℕ) → IsDistinct ◌==◌ xs → IsDistinct ◌==◌ ys →
    ((x : ℕ) → has xs x ≡ true → has ys x ≡ true → ⊥) → IsDistinct ◌==◌ (xs ++ ys)
distinct_append [] ys a b apart = b
distinct_append (x ∷ xs) ys a b apart =
    IsDistinct-cons ◌==◌ x (xs ++ ys)
    (none_equal x (xs ++ ys) (λ y i is.
    grind (arith, in_either xs ys y i, not_among x xs (IsDistinct-head ◌==◌ x xs a), apart x (has_here x xs))))
    (distinct_append xs ys (IsDistinct-tail ◌==◌ x xs a) b (λ y i j. apart y (has_there x xs y i) j))

-- ---- the numbers of a finite map

module _ {X : Type 0} where
  has_key : (m : FinMap nat_cmp X) (k : ℕ) → has (map (λ e. e.0) (entries m)) k ≡ is_some (get m k)
  has_key m k = grind (arith, common_steps, nat_cmp, eq_by_cmp_equiv, is_some-find, get-entries)

  -- numbers that were collected once each, and then sorted
  sorted_keys : (m : FinMap nat_cmp X) (xs ys : List ℕ) → IsPermutation xs ys → IsSortedByKey (λ n. n) nat_cmp ys →
      IsDistinct ◌==◌ xs → ((k : ℕ) → has xs k ≡ is_some (get m k)) → ys ≡ map (λ e. e.0) (entries m)
  sorted_keys m xs ys moved up once members =
      same_ascending ys (map (λ e. e.0) (entries m))
      (IsStrictlyIncreasing-from_distinct ys (IsNonDecreasingBy-from_sort (λ n. n) ys up)
      (IsDistinct-IsPermutation ◌==◌ eqb_flip xs ys moved once))
      (IsStrictlyIncreasing-from_sorted _ (keys_sorted (entries m) (entries_sorted m)))
      (λ k. sym (list_any-IsPermutation (λ y. y == k) xs ys moved) ∙ members k ∙ sym (has_key m k))

-- ---- the numbers of the nodes in slots

-- an entry has its number
pub id_of_row : (vs : List (Option ℕ)) (cs : List Coord) (os is : List Links) → length cs ≡ length vs →
    length os ≡ length vs → length is ≡ length vs → (p : ℕ) →
    at vs p ≡ option_map (λ (e : NodeEntry). e.id) (at (rows vs cs os is) p)
id_of_row [] cs os is a b c p = refl
id_of_row (None ∷ vs) (x ∷ cs) (o ∷ os) (i ∷ is) a b c zero = refl
id_of_row (Some v ∷ vs) (x ∷ cs) (o ∷ os) (i ∷ is) a b c zero = refl
id_of_row (v ∷ vs) (x ∷ cs) (o ∷ os) (i ∷ is) a b c (suc p) =
    id_of_row vs cs os is (omega arith) (omega arith) (omega arith) p
id_of_row vs cs os is a b c p = absurd (omega arith)

present_append : (xs ys : List (Option ℕ)) → present (xs ++ ys) ≡ present xs ++ present ys
present_append xs ys = filter_map-append (λ o. o) xs ys

-- the numbers with that of one slot more
pub ids_more : (hs : List (Option ℕ)) (k : ℕ) (h : Option ℕ) → k < length hs → h ≡ get_or hs k h
    → present (take k hs) ++ present (h ∷ []) ≡ present (take (k + 1) hs)
ids_more hs k h lt is = grind (arith, common_steps, present_append, take_more)

slot_of_id : (es : List (Option ℕ)) (v : ℕ) → has (present es) v ≡ true → (p : ℕ) × (at es p ≡ Some v)
slot_of_id [] v h = absurd cc
slot_of_id (None ∷ es) v h = let r = slot_of_id es v h in (suc r.0, r.1)
slot_of_id (Some e ∷ es) v h =
    elim (has_cases e (present es) v h) [
      | inl is ↦ (0, ap (λ (n : ℕ). Some n) is)
      | inr later ↦ let r = slot_of_id es v later in (suc r.0, r.1)
    ]

id_in_slot : (es : List (Option ℕ)) (p v : ℕ) → at es p ≡ Some v → has (present es) v ≡ true
id_in_slot [] p v h = absurd cc
id_in_slot (None ∷ es) zero v h = absurd cc
id_in_slot (None ∷ es) (suc p) v h = id_in_slot es p v h
id_in_slot (Some e ∷ es) zero v h = grind (arith, common_steps, has_here)
id_in_slot (Some e ∷ es) (suc p) v h = has_there e (present es) v (id_in_slot es p v h)

ids_once : (es : List (Option ℕ)) → ((p q v : ℕ) → at es p ≡ Some v → at es q ≡ Some v → p ≡ q) →
    IsDistinct ◌==◌ (present es)
unfolding IsDistinct
ids_once [] h = tt
ids_once (None ∷ es) h = ids_once es (λ p q v a b. grind (arith, h (suc p) (suc q) v))
ids_once (Some e ∷ es) h = (
  none_equal e (present es) (λ v i is. let r = slot_of_id es v i in grind (arith, h 0 (suc r.0) v)),
  ids_once es (λ p q v a b. grind (arith, h (suc p) (suc q) v)),
)

-- ---- the lines that leave the nodes

module _ (M : Map) (m : IsMap M) where
  from_node : (vs : List ℕ) (x : ℕ) → has (flat_map (lines_out M) vs) x ≡ true → (v : ℕ) × (has vs v ≡ true)
      × (has (lines_out M v) x ≡ true)
  from_node [] x h = absurd cc
  from_node (v ∷ vs) x h =
      elim (in_either (lines_out M v) (flat_map (lines_out M) vs) x h) [
        | inl here ↦ (v, has_here v vs, here)
        | inr later ↦ let r = from_node vs x later in (r.0, has_there v vs r.0 r.1, r.2)
      ]

  of_node : (vs : List ℕ) (v x : ℕ) → has vs v ≡ true → has (lines_out M v) x ≡ true →
      has (flat_map (lines_out M) vs) x ≡ true
  of_node [] v x i h = absurd cc
  of_node (w ∷ vs) v x i h =
      let rest = of_node vs v x in
      grind (arith, common_steps, list_any-append, has_cases, rest, or_left, or_right)

  -- a line leaves one node
  one_start : (v w x : ℕ) → has (lines_out M v) x ≡ true → has (lines_out M w) x ≡ true → v ≡ w
  one_start v w x a c = grind (arith, common_steps, exactly_out, same_Some)

  lines_once : (vs : List ℕ) → IsDistinct ◌==◌ vs → IsDistinct ◌==◌ (flat_map (lines_out M) vs)
  unfolding IsDistinct
  lines_once [] d = tt
  lines_once (v ∷ vs) d =
      distinct_append (lines_out M v) (flat_map (lines_out M) vs)
      (distinct_from_ascending (lines_out M v) (ascend_out M v)) (lines_once vs d.1)
      (λ x i j. let r = from_node vs x j in grind (arith, not_among v vs d.0, one_start v r.0 x i))

  module _ (vs : List ℕ) (all : (v : ℕ) → has vs v ≡ has_node M v) where
    has_lines : (x : ℕ) → has (flat_map (lines_out M) vs) x ≡ has_line M x
    has_lines x =
        both_ways (has (flat_map (lines_out M) vs) x) (has_line M x)
        (λ h. let r = from_node vs x h in grind (arith, common_steps, exactly_out M r.0 x, r.2))
        (λ h. let l = some_of (get M.lines x) h in
        grind (arith, common_steps, of_node vs l.0.from x, all l.0.from, m.starts x h, exactly_out M l.0.from x, l.1))

-- ---- the numbers, sorted

module _ (t : RoadMap) where
  abbrev hs : List (Option ℕ)
  hs = slots_of t.nodes.ids

  same_id : (p : ℕ) → at hs p ≡ option_map (λ (e : NodeEntry). e.id) (at (node_slots t.nodes) p)
  same_id p =
      id_of_row hs t.nodes.places.items t.nodes.outs.items t.nodes.ins.items t.nodes.places_beside t.nodes.outs_beside
      t.nodes.ins_beside p

  named : (v p : ℕ) → at hs p ≡ Some v → slot_by t.index v ≡ Some p
  named v p h = t.kept.indexed.named v p (sym (same_id p) ∙ h)

  -- the columns have exactly the nodes, with their coordinates
  pub in_columns : (ids : List (Option ℕ)) (places : List Coord) → ids ≡ hs → places ≡ t.nodes.places.items → (v : ℕ)
      (c : Coord) → (get (tables_map t).nodes v ≡ Some c)
      ↔ ((k : ℕ) × (slice_get ids k ≡ Some (Some v)) × (slice_get places k ≡ Some c))
  in_columns ids places same beside v c = (there, back) where
    cs : List Coord
    cs = t.nodes.places.items

    there : get (tables_map t).nodes v ≡ Some c →
        (k : ℕ) × (slice_get ids k ≡ Some (Some v)) × (slice_get places k ≡ Some c)
    there is =
        let s = slot_of t.index (node_slots t.nodes) t.kept.indexed (all_held t.lines) v (ap (λ o. is_some o) is) in
        let e = entry_at t v s.0 s.1 in
        let within = inside t.nodes s.0 (ap (λ o. is_some o) e.1) in
        let long = t.nodes.places_beside in
        let read = node_read t v s.0 e.0 s.1 e.1 in
        let place = place_at t.nodes s.0 e.0 c e.1 in (
          s.0,
          grind (arith, slice_get-get_or hs s.0 None within, same_id s.0, t.kept.indexed.filled v s.0 s.1),
          grind (arith, slice_get-get_or cs s.0 c, place, read),
        )

    back : ((k : ℕ) × (slice_get ids k ≡ Some (Some v)) × (slice_get places k ≡ Some c)) →
        get (tables_map t).nodes v ≡ Some c
    back r =
        let here = named v r.0 (get_or_from_slice_get hs r.0 (Some v) None (sym (ap (λ hs. slice_get hs r.0) same) ∙ r.1)) in
        let e = entry_at t v r.0 here in
        let place = place_at t.nodes r.0 e.0 c e.1 in
        let read = get_or_from_slice_get cs r.0 c c (sym (ap (λ cs. slice_get cs r.0) beside) ∙ r.2) in
        grind (arith, node_read t v r.0 e.0 here e.1, place, read)

  nodes_once : IsDistinct ◌==◌ (present hs)
  nodes_once = ids_once hs (λ p q v i j. same_Some p q (sym (named v p i) ∙ named v q j))

  has_nodes : (v : ℕ) → has (present hs) v ≡ has_node (tables_map t) v
  has_nodes v =
      both_ways (has (present hs) v) (has_node (tables_map t) v)
      (λ h. let r = slot_of_id hs v h in grind (arith, id_has t r.0 v, same_id r.0, r.1))
      (λ h. let s = slot_of t.index (node_slots t.nodes) t.kept.indexed (all_held t.lines) v h in
      grind (arith, id_in_slot hs s.0 v, same_id s.0, t.kept.indexed.filled v s.0 s.1))

  pub sorted_nodes : (xs ys : List ℕ) → xs ≡ present hs → IsPermutation xs ys → IsSortedByKey (λ n. n) nat_cmp ys →
      ys ≡ map (λ e. e.0) (entries (tables_map t).nodes)
  sorted_nodes xs ys is moved up =
      sorted_keys (tables_map t).nodes (present hs) ys (subst (λ (zs : List ℕ). IsPermutation zs ys) is moved) up
      nodes_once has_nodes

  pub sorted_lines : (vs xs ys : List ℕ) → vs ≡ present hs → xs ≡ flat_map (lines_out (tables_map t)) vs →
      IsPermutation xs ys → IsSortedByKey (λ n. n) nat_cmp ys → ys ≡ map (λ e. e.0) (entries (tables_map t).lines)
  sorted_lines vs xs ys nodes is moved up =
      let M : Map = tables_map t in
      let lines : xs ≡ flat_map (lines_out M) (present hs) = is ∙ ap (flat_map (lines_out M)) nodes in
      sorted_keys M.lines _ ys (subst (λ (zs : List ℕ). IsPermutation zs ys) lines moved) up
      (lines_once M t.kept.sound (present hs) nodes_once) (has_lines M t.kept.sound (present hs) has_nodes)
