-- Nodes in columns: values are added to, removed from and replaced in their slots.
use Rattle.olr_map.proofs.Common.{common_steps, length_push, length-set, IsInserted, IsReplaced, node_slots, with_links, Option}
use Rattle.olr_map.proofs.Common.{IsRelinked, cond-true, same_Some, IsWritten, IsRemoved, NodeEntry, NodeSlots, slots_of, subst}
use Rattle.olr_map.proofs.Common.{is_some, links_at, cases_lt, entry_of, vec_len, length, get_or, eq-eqb, lt-ltb, le-ltb, arith}
use Rattle.olr_map.proofs.Common.{◌==◌, sides, Links, Coord, Fills, true, cond, List, ◌++◌, ◌≡◌, Some, None, refl, rows, nat_lt}
use Rattle.olr_map.proofs.Common.{Side, ◌+◌, ◌<◌, ◌≤◌, ◌∷◌, sym, ◌∙◌, Out, [], ap, at, In, ℕ, ◌^◌, zero, suc, set}
use Rattle.olr_map.specs.declared.slab.Slab.{Slab}
use Rattle.olr_map.proofs.Lookups.{unchanged_at}
use Rattle.olr_map.proofs.SlotLemmas.{some_within, few_slots, get_or-written, get_or-pushed}

abbrev Numbers : Type 0
Numbers = List (Option ℕ)

abbrev Places : Type 0
Places = List Coord

abbrev pub Column : Type 0
Column = List Links

-- ---- rows

length-rows : (vs : Numbers) (cs : Places) (os is : Column) → length cs ≡ length vs → length os ≡ length vs →
    length is ≡ length vs → length (rows vs cs os is) ≡ length vs
length-rows [] cs os is a b c = refl
length-rows (v ∷ vs) (x ∷ cs) (o ∷ os) (i ∷ is) a b c =
    let l = length-rows vs cs os is (omega arith) (omega arith) (omega arith) in omega arith
length-rows vs cs os is a b c = absurd (omega arith)

-- a row by its columns
pub row_at : (vs : Numbers) (cs : Places) (os is : Column) (p : ℕ) (x : Coord) (d : Links) → length cs ≡ length vs →
    length os ≡ length vs → length is ≡ length vs →
    at (rows vs cs os is) p ≡ entry_of (at vs p) (get_or cs p x) (get_or os p d) (get_or is p d)
row_at [] cs os is p x d a b c = refl
row_at (v ∷ vs) (y ∷ cs) (o ∷ os) (i ∷ is) zero x d a b c = refl
row_at (v ∷ vs) (y ∷ cs) (o ∷ os) (i ∷ is) (suc p) x d a b c =
    row_at vs cs os is p x d (omega arith) (omega arith) (omega arith)
row_at vs cs os is p x d a b c = absurd (omega arith)

-- an entry is composed of the contents of its columns
pub record IsComposed (v : Option ℕ) (c : Coord) (o i : Links) (e : NodeEntry) : Type 0 where
  pub id : v ≡ Some e.id
  pub place : c ≡ e.place
  pub outs : o ≡ e.outs
  pub ins : i ≡ e.ins

composed : (v : Option ℕ) (c : Coord) (o i : Links) (e : NodeEntry) → entry_of v c o i ≡ Some e → IsComposed v c o i e
composed v c o i e x = grind (arith, common_steps)

-- ---- a value is put beside the numbers, in a column

module _ {X : Type 0} where
  abbrev column_with : List X → ℕ → X → List X
  column_with xs p x = cond (nat_lt p (length xs)) (set xs p x) (xs ++ x ∷ [])

  put_below : (xs : List X) (p : ℕ) (x : X) → p < length xs → column_with xs p x ≡ set xs p x
  put_below xs p x lt = grind (arith, common_steps, lt-ltb)

  put_behind : (xs : List X) (p : ℕ) (x : X) → p ≡ length xs → column_with xs p x ≡ xs ++ x ∷ []
  put_behind xs p x at' = grind (arith, common_steps, le-ltb)

  column_at : (xs : List X) (p q : ℕ) (x d : X) → p ≤ length xs →
      get_or (column_with xs p x) q d ≡ cond (p == q) x (get_or xs q d)
  column_at xs p q x d le = grind (arith, common_steps, cases_lt, put_below, put_behind, get_or-written, get_or-pushed)

  pub stays_beside : (old new : Slab ℕ) (p : ℕ) (xs : List X) (x : X) → length xs ≡ length (slots_of old) →
      Fills old new p → length (column_with xs p x) ≡ length (slots_of new)
  stays_beside old new p xs x same fills = grind (arith, common_steps, put_below, put_behind, length-set, length_push)

-- the slots of nodes
module _ (s : NodeSlots) where
  abbrev vs : Numbers
  vs = slots_of s.ids

  abbrev cs : Places
  cs = s.places.items

  abbrev os : Column
  os = s.outs.items

  abbrev is : Column
  is = s.ins.items

  pub slot_count : length (node_slots s) ≡ length vs
  slot_count = length-rows vs cs os is s.places_beside s.outs_beside s.ins_beside

  pub few_nodes : length (node_slots s) ≤ 2 ^ 32
  few_nodes = let few = few_slots s.ids.slotted in let same = slot_count in omega arith

  -- a slot that holds a node is inside each column
  pub inside : (p : ℕ) → is_some (at (node_slots s) p) ≡ true → p < length vs
  inside p h = let lt = some_within (node_slots s) p h in let same = slot_count in omega arith

  pub node_fits : (old : List (Option NodeEntry)) (p : ℕ) (e : NodeEntry) → IsInserted old (node_slots s) p e →
      p + 1 < 2 ^ 32
  node_fits old p e t =
      let few = s.ids.slotted.few in
      let lt =
      inside p (ap (λ v. is_some v) (t.now p ∙ cond-true (p == p) (Some e) (at old p) (eq-eqb p p refl))) in
      omega arith

  pub inside_places : (p : ℕ) → is_some (at (node_slots s) p) ≡ true → p < vec_len s.places
  inside_places p h = let lt = inside p h in let same = s.places_beside in let len = s.places.ok.0 in omega arith

  pub inside_outs : (p : ℕ) → is_some (at (node_slots s) p) ≡ true → p < vec_len s.outs
  inside_outs p h = let lt = inside p h in let same = s.outs_beside in let len = s.outs.ok.0 in omega arith

  pub inside_ins : (p : ℕ) → is_some (at (node_slots s) p) ≡ true → p < vec_len s.ins
  inside_ins p h = let lt = inside p h in let same = s.ins_beside in let len = s.ins.ok.0 in omega arith

  row : (p : ℕ) (x : Coord) (d : Links) →
      at (node_slots s) p ≡ entry_of (at vs p) (get_or cs p x) (get_or os p d) (get_or is p d)
  row p x d = row_at vs cs os is p x d s.places_beside s.outs_beside s.ins_beside

  -- the columns of an entry
  pub columns : (p : ℕ) (e : NodeEntry) (x : Coord) (d : Links) → at (node_slots s) p ≡ Some e →
      IsComposed (at vs p) (get_or cs p x) (get_or os p d) (get_or is p d) e
  columns p e x d here = composed _ _ _ _ e (sym (row p x d) ∙ here)

  -- the lines on one side
  abbrev pub column : Side → Column
  column side = sides os is side

  pub place_at : (p : ℕ) (e : NodeEntry) (x : Coord) → at (node_slots s) p ≡ Some e → get_or cs p x ≡ e.place
  place_at p e x here = (columns p e x e.outs here).place

  pub outs_at : (p : ℕ) (e : NodeEntry) (d : Links) → at (node_slots s) p ≡ Some e → get_or os p d ≡ e.outs
  outs_at p e d here = (columns p e e.place d here).outs

  pub ins_at : (p : ℕ) (e : NodeEntry) (d : Links) → at (node_slots s) p ≡ Some e → get_or is p d ≡ e.ins
  ins_at p e d here = (columns p e e.place d here).ins

  pub links_read : (side : Side) (p : ℕ) (e : NodeEntry) (w : Links) → at (node_slots s) p ≡ Some e →
      w ≡ get_or (column side) p w → w ≡ links_at side e
  links_read Out p e w here r = r ∙ outs_at p e w here
  links_read In p e w here r = r ∙ ins_at p e w here

  -- ---- after a change of one column, or of all

  -- slot p has v, c, o and i in its columns
  rows_written : (vs' : Numbers) (cs' : Places) (os' is' : Column) → length cs' ≡ length vs' →
      length os' ≡ length vs' → length is' ≡ length vs' → (p : ℕ) (x : Coord) (d : Links) (v : Option ℕ) (c : Coord)
      (o i : Links) (was now : Option NodeEntry) → at (node_slots s) p ≡ was →
      entry_of v c o i ≡ now → ((q : ℕ) → at vs' q ≡ cond (p == q) v (at vs q))
      → ((q : ℕ) → get_or cs' q x ≡ cond (p == q) c (get_or cs q x))
      → ((q : ℕ) → get_or os' q d ≡ cond (p == q) o (get_or os q d))
      → ((q : ℕ) → get_or is' q d ≡ cond (p == q) i (get_or is q d)) →
      IsWritten (node_slots s) (rows vs' cs' os' is') p was now
  rows_written vs' cs' os' is' a b b' p x d v c o i was now at_p made numbers places outs ins =
      record {
        was = at_p;
        now = λ q.
            let new = row_at vs' cs' os' is' q x d a b b' in
            let old = row q x d in
            grind (arith, common_steps, new, old, numbers q, places q, outs q, ins q);
      }

  module _ (p : ℕ) (e : NodeEntry) (here : at (node_slots s) p ≡ Some e) where
    there : is_some (at (node_slots s) p) ≡ true
    there = ap (λ v. is_some v) here

    -- the slab of the numbers has the node
    pub id_there : is_some (at vs p) ≡ true
    id_there = ap (λ v. is_some v) (columns p e e.place e.outs here).id

    -- the entry is that of its columns
    pub entry_is : (v : ℕ) (c : Coord) (o i : Links) → at vs p ≡ Some v → c ≡ get_or cs p c → o ≡ get_or os p o →
        i ≡ get_or is p i → e ≡ record { outs = o; ins = i; id = v; place = c }
    entry_is v c o i at_id place r q =
        λ j. record {
          outs = sym (links_read Out p e o here r) j;
          ins = sym (links_read In p e i here q) j;
          id = same_Some _ _ (sym (columns p e c o here).id ∙ at_id) j;
          place = sym (place ∙ place_at p e c here) j;
        }

    -- other lines on one side
    pub relinked : (side : Side) {R : Links → Links → Type 0} (w l : Links) → w ≡ get_or (column side) p w → R w l →
        IsRelinked (node_slots s) (rows vs cs (sides (set os p l) os side) (sides is (set is p l) side)) side p R
    relinked side {R} w l r holds =
        record {
          entry = e;
          links = l;
          is = turned side;
          holds = subst (λ (o : Links). R o l) (links_read side p e w here r) holds;
        } where
          k : IsComposed (at vs p) (get_or cs p e.place) (get_or os p w) (get_or is p w) e
          k = columns p e e.place w here

          turned : (c : Side) →
              IsReplaced (node_slots s) (rows vs cs (sides (set os p l) os c) (sides is (set is p l) c)) p e (with_links c e l)
          turned Out =
              let lt = inside p there in
              let same = s.outs_beside in
              let long = length-set os p l in
              rows_written vs cs (set os p l) is s.places_beside (omega arith) s.ins_beside p e.place w (at vs p)
              (get_or cs p e.place) l (get_or is p w) (Some e) _ here (λ j. entry_of (k.id j) (k.place j) l (k.ins j))
              (unchanged_at (at vs) p _ refl) (unchanged_at (λ q. get_or cs q e.place) p _ refl)
              (λ q. get_or-written os p q l w (omega arith)) (unchanged_at (λ q. get_or is q w) p _ refl)
          turned In =
              let lt = inside p there in
              let same = s.ins_beside in
              let long = length-set is p l in
              rows_written vs cs os (set is p l) s.places_beside s.outs_beside (omega arith) p e.place w (at vs p)
              (get_or cs p e.place) (get_or os p w) l (Some e) _ here (λ j. entry_of (k.id j) (k.place j) (k.outs j) l)
              (unchanged_at (at vs) p _ refl) (unchanged_at (λ q. get_or cs q e.place) p _ refl)
              (unchanged_at (λ q. get_or os q w) p _ refl) (λ q. get_or-written is p q l w (omega arith))

    -- another coordinate
    pub place_turned : (c : Coord) →
        IsReplaced (node_slots s) (rows vs (set cs p c) os is) p e (record { id = e.id; place = c; outs = e.outs; ins = e.ins })
    place_turned c =
        let lt = inside p there in
        let same = s.places_beside in
        let long = length-set cs p c in
        let k = columns p e c e.outs here in
        rows_written vs (set cs p c) os is (omega arith) s.outs_beside s.ins_beside p c e.outs (at vs p) c
        (get_or os p e.outs) (get_or is p e.outs) (Some e) _ here (λ j. entry_of (k.id j) c (k.outs j) (k.ins j))
        (unchanged_at (at vs) p _ refl) (λ q. get_or-written cs p q c c (omega arith))
        (unchanged_at (λ q. get_or os q e.outs) p _ refl) (unchanged_at (λ q. get_or is q e.outs) p _ refl)

    -- no number, with other lines in the columns
    pub row_removed : (vs' : Numbers) (v : ℕ) (o i : Links) → IsRemoved vs vs' p v → length vs' ≡ length vs →
        IsRemoved (node_slots s) (rows vs' cs (set os p o) (set is p i)) p e
    row_removed vs' v o i t same =
        let lt = inside p there in
        let a = s.places_beside in
        let b = s.outs_beside in
        let c = s.ins_beside in
        let outs_long = length-set os p o in
        let ins_long = length-set is p i in
        rows_written vs' cs (set os p o) (set is p i) (omega arith) (omega arith) (omega arith) p e.place o None
        (get_or cs p e.place) o i (Some e) None here refl t.now (unchanged_at (λ q. get_or cs q e.place) p _ refl)
        (λ q. get_or-written os p q o o (omega arith)) (λ q. get_or-written is p q i o (omega arith))

  -- ---- a node is added to all columns

  module _ (ids : Slab ℕ) (p : ℕ) where
    within : Fills s.ids ids p → p ≤ length vs
    within fills = grind (arith, common_steps)

    pub row_inserted : (v : ℕ) (c : Coord) (o i : Links) → IsInserted vs (slots_of ids) p v → Fills s.ids ids p →
        IsInserted (node_slots s) (rows (slots_of ids) (column_with cs p c) (column_with os p o) (column_with is p i)) p
        (record { id = v; place = c; outs = o; ins = i })
    row_inserted v c o i t fills =
        let a = s.places_beside in
        let b = s.outs_beside in
        let b' = s.ins_beside in
        let le = within fills in
        rows_written (slots_of ids) (column_with cs p c) (column_with os p o) (column_with is p i)
        (stays_beside s.ids ids p cs c s.places_beside fills) (stays_beside s.ids ids p os o s.outs_beside fills)
        (stays_beside s.ids ids p is i s.ins_beside fills) p c o (Some v) c o i None _
        (row p c o ∙ ap (λ (x : Option ℕ). entry_of x (get_or cs p c) (get_or os p o) (get_or is p o)) t.was)
        refl t.now (λ q. column_at cs p q c c (omega arith)) (λ q. column_at os p q o o (omega arith))
        (λ q. column_at is p q i o (omega arith))
