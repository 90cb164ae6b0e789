-- A line is added, removed and set.
use Rattle.olr_map.proofs.Common.{has-lines_where, spare_numbers, IsRoomWithin, common_steps, TableChange, NumberTable, cond-true}
use Rattle.olr_map.proofs.Common.{change_edit, option_map, node_slots, IsRelinked, links_room, tables_map, HasRoomFor, room_after}
use Rattle.olr_map.proofs.Common.{same_Some, node_room, node_slot, IsIndexed, AreTables, SlotIndex, NodeSlots, map_after, line_at}
use Rattle.olr_map.proofs.Common.{line_puts, CanPutEnd, eqb-true, has_line, all_held, links_at, lines_on, lines_at, links_in, ◌≡◌}
use Rattle.olr_map.proofs.Common.{map_from, IsListed, TakeLine, some_of, back_of, slot_by, is_some, node_in, room_of, room_at, ap}
use Rattle.olr_map.proofs.Common.{LineEnd, RoadMap, PutLine, SetLine, CanMake, IsWhole, Option, length, FinMap, eq-eqb, false, In}
use Rattle.olr_map.proofs.Common.{subst, arith, IsMap, IsPut, sides, Links, ◌==◌, true, cond, Some, None, refl, Line, held, near}
use Rattle.olr_map.proofs.Common.{Room, Side, ◌+◌, ◌<◌, ◌≤◌, sym, ◌∙◌, get, Map, has, far, Out, ℕ}
use Rattle.std.specs.List.Sorted.{IsStrictlyIncreasing}
use Rattle.std.specs.Ordering.{nat_cmp}
use Rattle.olr_map.proofs.ColumnLemmas.{few_nodes}
use Rattle.olr_map.proofs.Lookups.{all_get, got_insert, got_remove, same_answers}
use Rattle.olr_map.proofs.Indexing.{Slots, place_of, entry_of, relisted}
use Rattle.olr_map.proofs.LineRecords.{record_of}
use Rattle.olr_map.proofs.Listing.{ascends_at, seen, here_listed, other_listed}
use Rattle.olr_map.proofs.Reading.{got_node, got_line, line_found, line_missing, kept_from, place_is}
use Rattle.olr_map.proofs.Making.{made_as, room_in, TablesMade, tables_made}
use Rattle.std.specs.FinMap as finmap
use Rattle.olr_spec.specs.Map as maps

-- ---- a node's list of lines on one side

module _ (t : RoadMap) (side : Side) (v : ℕ) (o : Links)
    (was : links_in side t.index (node_slots t.nodes) v ≡ Some o) where
  list_is : lines_on o ≡ lines_at side (tables_map t) v
  list_is = (t.kept.listed side v o was).numbers

  list_room : room_at side t v ≡ links_room o
  list_room = grind (arith, common_steps)

-- a line of the map is in the lists of its ends
line_listed : (side : Side) (M : Map) (x : ℕ) → has_line M x ≡ true →
    has (lines_at side M (near side (line_at M x))) x ≡ true
line_listed side M x there = grind (arith, common_steps, has-lines_where, eq-eqb, record_of, some_of)

-- these slots, in which the lists of this side are those of the tables
module _ (t : RoadMap) (es : Slots) (indexed : IsIndexed t.index es) (side : Side)
    (same : (k : ℕ) → links_in side t.index es k ≡ links_in side t.index (node_slots t.nodes) k) where
  -- a line can be put into the list of a node, or removed from it
  pub can_put : (v p x : ℕ) → slot_by t.index v ≡ Some p →
      (has (lines_at side (tables_map t) v) x ≡ false → length (lines_at side (tables_map t) v) < room_at side t v) →
      CanPutEnd es side p x
  can_put v p x here fits =
      let e = entry_of t.index es indexed v p here in
      let l : Links = links_at side e.0 in
      let was : links_in side t.index (node_slots t.nodes) v ≡ Some l = grind (arith, common_steps, same v, e.1) in
      let is = list_is t side v l was in (
        e.0,
        e.1,
        subst IsStrictlyIncreasing (sym is) (ascends_at side (tables_map t) v),
        λ no. grind (arith, fits, is, list_room t side v l was),
      )

  -- a line of the map
  can_put_again : (p x : ℕ) → slot_by t.index (near side (line_at (tables_map t) x)) ≡ Some p →
      has_line (tables_map t) x ≡ true → CanPutEnd es side p x
  can_put_again p x here there =
      can_put (near side (line_at (tables_map t) x)) p x here
      (λ gone. let listed = line_listed side (tables_map t) x there in absurd cc)

-- the lists of a line's ends, first that of the node where it begins, and its record
module _ (t : RoadMap) (x p : ℕ) (known : has_line (tables_map t) x ≡ true)
    (begin : slot_by t.index (near Out (line_at (tables_map t) x)) ≡ Some p) where
  pub can_put_out : CanPutEnd (node_slots t.nodes) Out p x
  can_put_out = can_put_again t (node_slots t.nodes) t.kept.indexed Out (λ k. refl) p x begin known

  pub can_put_in : (mid : NodeSlots) (q : ℕ) {R : Links → Links → Type 0} →
      IsRelinked (node_slots t.nodes) (node_slots mid) Out p R →
      slot_by t.index (near In (line_at (tables_map t) x)) ≡ Some q → CanPutEnd (node_slots mid) In q x
  can_put_in mid q turns end =
      let r =
      relisted t.index (node_slots t.nodes) t.kept.indexed (node_slots mid) Out p (near Out (line_at (tables_map t) x))
      turns begin in
      can_put_again t (node_slots mid) r.indexed In (r.now In) q x end known

pub is_held : (t : RoadMap) (x n : ℕ) → has_line (tables_map t) x ≡ true → n ≡ x → is_some (held t.lines n) ≡ true
is_held t x n known same = ap (λ k. is_some (held t.lines k)) same ∙ ap (λ o. is_some o) (line_found t x known).1

-- ---- line x has the record w in place of o

pub record LineWritten (t : RoadMap) (nodes' : NodeSlots) (lines' : NumberTable Line) (x : ℕ) (ends : Line)
    (o w : Option Line) : Type 0 where
  pub indexed : IsIndexed t.index (node_slots nodes')
  pub places : (k : ℕ) → option_map place_of (node_in t.index (node_slots nodes') k)
      ≡ option_map place_of (node_in t.index (node_slots t.nodes) k)
  pub old : Side → Links
  pub new : Side → Links
  pub lists_was : (side : Side) → links_in side t.index (node_slots t.nodes) (near side ends) ≡ Some (old side)
  pub lists_now : (side : Side) (k : ℕ) → links_in side t.index (node_slots nodes') k
      ≡ cond (near side ends == k) (Some (new side)) (links_in side t.index (node_slots t.nodes) k)
  pub was : held t.lines x ≡ o
  pub now : (k : ℕ) → held lines' k ≡ cond (x == k) w (held t.lines k)
  pub ends_was : (side : Side) (l : Line) → o ≡ Some l → near side l ≡ near side ends
  pub ends_now : (side : Side) (l : Line) → w ≡ Some l → near side l ≡ near side ends
  pub put : (side : Side) → IsPut (old side) (new side) x (option_map (seen side (node_slot t.index)) w)

module _ {t : RoadMap} {nodes' : NodeSlots} {lines' : NumberTable Line} {x : ℕ} {ends : Line} {o w : Option Line}
    (r : LineWritten t nodes' lines' x ends o w) where
  abbrev M : Map
  M = tables_map t

  abbrev N : Map
  N = map_from t.index (node_slots nodes') (all_held lines')

  lines_now : (k : ℕ) → get N.lines k ≡ cond (x == k) w (get M.lines k)
  lines_now k = grind (arith, common_steps, all_get, got_line)

  line_map : (F : FinMap nat_cmp Line) → ((k : ℕ) → get F k ≡ cond (x == k) w (get M.lines k)) →
      N ≡ record M { lines = F }
  line_map F got =
      let nodes : N.nodes ≡ M.nodes =
      same_answers _ _ (λ k. got_node t.index (node_slots nodes') r.indexed (all_held lines') k ∙ r.places k
      ∙ sym (got_node t.index (node_slots t.nodes) t.kept.indexed (all_held t.lines) k)) in
      let lines : N.lines ≡ F = same_answers _ _ (λ k. lines_now k ∙ sym (got k)) in
      λ j. record { nodes = nodes j; lines = lines j }

  listed_here : (side : Side) → IsListed side N (node_slot t.index) (near side ends) (r.new side)
  listed_here side =
      here_listed side (node_slot t.index) M N x o w (got_line t x ∙ r.was) lines_now (near side ends)
      (λ l e. eq-eqb (near side l) (near side ends) (r.ends_now side l e)) (r.old side) (r.new side) (r.put side)
      (t.kept.listed side (near side ends) (r.old side) (r.lists_was side))

  line_kept : IsMap N → AreTables t.index (node_slots nodes') (all_held lines')
  line_kept sound =
      kept_from t.index (node_slots nodes') (all_held lines') r.indexed (few_nodes nodes') sound (λ side v h is.
      let other = other_listed side (node_slot t.index) M N x o w (got_line t x ∙ r.was) lines_now v in
      let now = r.lists_now side v in
      let old = t.kept.listed side v h in
      grind (arith, common_steps, listed_here side, now, eqb-true, old, other, r.ends_was side, r.ends_now side))

  -- the list of an end of a line that was removed has capacity
  room_free : (side : Side) → w ≡ None → has_line M x ≡ true → line_at M x ≡ ends →
      length (lines_at side N (near side ends)) < (room_in t.index nodes').lines side (near side ends)
  room_free side none there is =
      let list = list_is t side (near side ends) (r.old side) (r.lists_was side) in
      let listed = line_listed side M x there in
      let now = r.lists_now side (near side ends) in
      grind (arith, common_steps, (r.put side).free, list, listed, (listed_here side).numbers, now, eq-eqb)

  same_room : (side : Side) (k : ℕ) → room_at side t k ≤ (room_in t.index nodes').lines side k
  same_room side k =
      let room = list_room t side (near side ends) (r.old side) (r.lists_was side) in
      grind (arith, common_steps, r.lists_now side k, r.lists_was side, (r.put side).room, eqb-true)

  -- the change was made, whose capacity is the same before and after
  line_made : (c back : TableChange) → CanMake M (room_of t) c → N ≡ map_after M c →
      change_edit back ≡ back_of M (change_edit c) → HasRoomFor N (room_in t.index nodes') (change_edit back) →
      IsWhole N back → ((R : Room) → room_after R c ≡ R) → ((R : Room) → room_after R back ≡ R) →
      node_room nodes' ≡ node_room t.nodes → spare_numbers t.lines ≤ spare_numbers lines' + line_puts c →
      TablesMade t t.index nodes' lines' c back
  line_made c back can is inverse fits whole steady steady_back room spare =
      let same : IsRoomWithin (room_of t) (room_in t.index nodes') =
      record { nodes = omega arith; lines = same_room } in
      tables_made t t.index nodes' lines' c back can is line_kept inverse fits whole
      (subst (λ (R : Room). IsRoomWithin R (room_in t.index nodes')) (sym (steady (room_of t))) same)
      (subst (IsRoomWithin (room_of t)) (sym (steady_back (room_in t.index nodes'))) same) (omega arith) spare
      (λ v _ _. refl)

-- the far end that was stored
end_seen : (side : Side) (b : SlotIndex) (l : Line) (q : ℕ) (e : Option LineEnd) → slot_by b (far side l) ≡ Some q →
    e ≡ Some (record { slot = q; len = l.len }) → e ≡ Some (seen side (node_slot b) l)
end_seen side b l q e there is = grind (arith, common_steps, place_is)

same_near : (side : Side) (k l : Line) → (k.from ≡ l.from) × (k.to ≡ l.to) → near side k ≡ near side l
same_near Out k l h = h.0
same_near In k l h = h.1

-- both lists were changed, first that of the node where the line begins
module _ (t : RoadMap) (mid nodes' : NodeSlots) (lines' : NumberTable Line) (n x p q : ℕ) (number : n ≡ x) (ends : Line)
    (here : slot_by t.index ends.from ≡ Some p) (there : slot_by t.index ends.to ≡ Some q) (e d : Option LineEnd)
    (out : IsRelinked (node_slots t.nodes) (node_slots mid) Out p (λ a b. IsPut a b x e))
    (into : IsRelinked (node_slots mid) (node_slots nodes') In q (λ a b. IsPut a b x d)) where
  line_written : (o w : Option Line) → e ≡ option_map (seen Out (node_slot t.index)) w →
      d ≡ option_map (seen In (node_slot t.index)) w → held t.lines n ≡ o →
      ((k : ℕ) → held lines' k ≡ cond (n == k) w (held t.lines k)) →
      ((side : Side) (l : Line) → o ≡ Some l → near side l ≡ near side ends) →
      ((side : Side) (l : Line) → w ≡ Some l → near side l ≡ near side ends) → LineWritten t nodes' lines' x ends o w
  line_written o w e_is d_is was now ends_was ends_now =
      let first = relisted t.index (node_slots t.nodes) t.kept.indexed (node_slots mid) Out p ends.from out here in
      let second = relisted t.index (node_slots mid) first.indexed (node_slots nodes') In q ends.to into there in
      record {
        indexed = second.indexed;
        places = λ k. second.places k ∙ first.places k;
        old = sides out.entry.outs into.entry.ins;
        new = sides out.links into.links;
        lists_was = λ s. grind (arith, common_steps, first.was, first.now, second.was);
        lists_now = λ s k. grind (arith, common_steps, first.now s k, second.now s k);
        was = grind (arith, was);
        now = λ k. grind (arith, now k);
        ends_was = ends_was;
        ends_now = ends_now;
        put = λ s. grind (arith, common_steps, out.holds, into.holds, e_is, d_is);
      }

  -- a line is added
  pub line_put : e ≡ Some (record { slot = q; len = ends.len }) → d ≡ Some (record { slot = p; len = ends.len }) →
      ((k : ℕ) → held lines' k ≡ cond (n == k) (Some ends) (held t.lines k)) →
      CanMake (tables_map t) (room_of t) (PutLine x ends) → node_room nodes' ≡ node_room t.nodes →
      spare_numbers t.lines ≤ spare_numbers lines' + 1 → TablesMade t t.index nodes' lines' (PutLine x ends) (TakeLine x)
  line_put e_is d_is put can room spare =
      let M : Map = tables_map t in
      let r : LineWritten t nodes' lines' x ends None (Some ends) =
      line_written None (Some ends) (end_seen Out t.index ends q e there e_is) (end_seen In t.index ends p d here d_is)
      (ap (held t.lines) number ∙ line_missing t x (made_as M (PutLine x ends) can.accepted).0) put
      (λ side k none. absurd cc) (λ side k is. ap (near side) (sym (same_Some _ _ is))) in
      line_made r (PutLine x ends) (TakeLine x) can
      (line_map r (finmap.insert M.lines x ends) (got_insert M.lines x ends) ∙ (made_as M (PutLine x ends) can.accepted).4) refl
      tt tt (λ R. refl) (λ R. refl) room spare

  -- ---- a line is removed, or set

  module _ (l : Line) (same : line_at (tables_map t) x ≡ ends) (was : held t.lines n ≡ Some l) where
    -- the line with its ends, which it keeps
    end : ends ≡ l
    end = sym same ∙ record_of (tables_map t) x l (got_line t x ∙ ap (held t.lines) (sym number) ∙ was)

    end_was : (side : Side) (m : Line) → Some l ≡ Some m → near side m ≡ near side ends
    end_was side m is = ap (near side) (sym (same_Some _ _ is) ∙ sym end)

    pub line_take : e ≡ None → d ≡ None → ((k : ℕ) → held lines' k ≡ cond (n == k) None (held t.lines k)) →
        CanMake (tables_map t) (room_of t) (TakeLine x) → node_room nodes' ≡ node_room t.nodes →
        spare_numbers t.lines ≤ spare_numbers lines' → TablesMade t t.index nodes' lines' (TakeLine x) (PutLine x l)
    line_take e_none d_none taken can room spare =
        let M : Map = tables_map t in
        let there' = (made_as M (TakeLine x) can.accepted).0 in
        let r : LineWritten t nodes' lines' x ends (Some l) None =
        line_written (Some l) None e_none d_none was taken end_was (λ side k none. absurd cc) in
        line_made r (TakeLine x) (PutLine x l) can
        (line_map r (finmap.remove M.lines x) (got_remove M.lines x) ∙ (made_as M (TakeLine x) can.accepted).1)
        (ap (maps.Add_line x) (sym (same ∙ end)))
        (λ side. subst (λ (k : Line). length (lines_at side (map_from t.index (node_slots nodes') (all_held lines'))
        (near side k)) < (room_in t.index nodes').lines side (near side k)) end (room_free r side refl there' same)) tt
        (λ R. refl) (λ R. refl) room (omega arith)

    pub line_reset : (k : Line) → e ≡ Some (record { slot = q; len = k.len }) →
        d ≡ Some (record { slot = p; len = k.len }) →
        ((m : ℕ) → held lines' m ≡ cond (n == m) (Some k) (held t.lines m)) →
        CanMake (tables_map t) (room_of t) (SetLine x k) → node_room nodes' ≡ node_room t.nodes →
        spare_numbers t.lines ≤ spare_numbers lines' → TablesMade t t.index nodes' lines' (SetLine x k) (SetLine x l)
    line_reset k e_is d_is put can room spare =
        let M : Map = tables_map t in
        let N : Map = map_from t.index (node_slots nodes') (all_held lines') in
        let same_ends : (side : Side) → near side k ≡ near side ends =
        λ side. same_near side k (line_at M x) can.whole ∙ ap (near side) same in
        let r : LineWritten t nodes' lines' x ends (Some l) (Some k) =
        line_written (Some l) (Some k) (end_seen Out t.index k q e (ap (slot_by t.index) (same_ends In) ∙ there) e_is)
        (end_seen In t.index k p d (ap (slot_by t.index) (same_ends Out) ∙ here) d_is) was put end_was
        (λ side m is. ap (near side) (sym (same_Some _ _ is)) ∙ same_ends side) in
        let now : line_at N x ≡ k =
        record_of N x k (all_get lines'.by_number.entries x ∙ r.now x
        ∙ cond-true (x == x) (Some k) (held t.lines x) (eq-eqb x x refl)) in
        let back : (side : Side) → near side l ≡ near side (line_at N x) =
        λ side. ap (near side) (sym end) ∙ sym (same_ends side) ∙ ap (near side) (sym now) in
        line_made r (SetLine x k) (SetLine x l) can (line_map r (finmap.insert M.lines x k) (got_insert M.lines x k)
        ∙ ap (λ (j : Line). record M { lines = finmap.insert M.lines x j })
        (λ i. record k { from = can.whole.0 i; to = can.whole.1 i }) ∙ (made_as M (SetLine x k) can.accepted).2)
        (ap (λ (j : Line). maps.Set_line x j.frc j.fow j.len j.shape) (sym (same ∙ end))) tt (back Out, back In)
        (λ R. refl) (λ R. refl) room (omega arith)
