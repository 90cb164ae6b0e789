-- The lines of a node with their far ends, after a line is added, removed or set, and after nodes are added or removed.
use Rattle.olr_map.proofs.Common.{sorted_from_strictly_increasing, has-lines_where, common_steps, ascend_out, links_room, false}
use Rattle.olr_map.proofs.Common.{unwrap_or, option_map, place_not, passes_at, ascend_in, has_node, place_of, lines_at, is_some}
use Rattle.olr_map.proofs.Common.{IsListed, lines_on, map_same, line_at, no_line, ends_on, LineEnd, FinMap, eq-eqb, eqb-true, ℕ}
use Rattle.olr_map.proofs.Common.{Ok, ne_eqb, in_use, end_at, Option, length, get_or, Result, arith, Coord, IsMap, IsPut, Links}
use Rattle.olr_map.proofs.Common.{◌||◌, Bool, true, cond, List, Some, None, refl, Line, near, Side, ◌==◌, ◌≡◌, ◌<◌, zero}
use Rattle.olr_map.proofs.Common.{◌∷◌, map, Err, sym, ◌∙◌, get, Map, has, far, Out, ap, In, [], suc, set}
use Rattle.olr_spec.proofs.AscendingLists.{put_ascends, has-insert, has-remove, has_at, ascends-remove}
use Rattle.std.proofs.lemmas.List.{map-append, take-map, drop-map}
use Rattle.std.specs.List.{remove, insert}
use Rattle.std.specs.List.Sorted.{IsStrictlyIncreasing, IsBinarySearchResult, IsStrictlySortedBy}
use Rattle.std.specs.Ordering.{nat_cmp}
use Rattle.olr_spec.proofs.SameNumbers.{above, same_ascending}
use Rattle.olr_map.proofs.Lookups.{over_cond, unchanged_at}
use Rattle.olr_map.proofs.LineRecords.{none_passes, used_by, other_node, line_starts, line_ends}

-- ---- lists

module _ {Y : Type 0} where
  map-inserted : (f : ℕ → Y) (xs : List ℕ) (i x : ℕ) → map f (insert xs i x) ≡ insert (map f xs) i (f x)
  map-inserted f xs i x = simp (map-append, take-map, drop-map)

  map-removed : (f : ℕ → Y) (xs : List ℕ) (i : ℕ) → map f (remove xs i) ≡ remove (map f xs) i
  map-removed f xs i = simp (map-append, take-map, drop-map)

  -- functions that differ at one number of an ascending list
  map_put : (f g : ℕ → Y) (x : ℕ) → ((n : ℕ) → (x == n) ≡ false → f n ≡ g n) → (xs : List ℕ) (i : ℕ) →
      IsStrictlySortedBy nat_cmp xs → i < length xs → get_or xs i 0 ≡ x → set (map f xs) i (g x) ≡ map g xs
  unfolding IsStrictlySortedBy
  map_put f g x same [] i up lt is = absurd (omega arith)
  map_put f g x same (y ∷ ys) zero up lt is =
      let others = map_same f g ys (λ z t. same z (ne_eqb x z (λ e. let low = above y z ys up.0 t in omega arith))) in
      λ j. g (sym is j) ∷ others j
  map_put f g x same (y ∷ ys) (suc i) up lt is =
      let low = above y x ys up.0 (has_at ys i x (omega arith) is) in
      let first = same y (ne_eqb x y (λ e. omega arith)) in
      let others = map_put f g x same ys i up.1 (omega arith) is in
      λ j. first j ∷ others j

-- ---- a list in which a search for number x had this result

module _ (old new : Links) (x : ℕ) (up : IsStrictlyIncreasing (lines_on old)) where
  abbrev xs : List ℕ
  xs = lines_on old

  abbrev Finds : Result ℕ ℕ → Type 0
  Finds r = IsBinarySearchResult (λ y. nat_cmp y x) xs r

  -- the lines other than x
  others : (y : ℕ) → has xs x ≡ false → has xs y ≡ true → (x == y) ≡ false
  others y absent t = grind (arith, common_steps, ne_eqb)

  pub inserted : (i : ℕ) (e : LineEnd) → Finds (Err i) → lines_on new ≡ insert xs i x →
      ends_on new ≡ insert (ends_on old) i e → links_room new ≡ links_room old → IsPut old new x (Some e)
  inserted i e found lines ends room =
      let place = place_of xs x (Err i) up found in
      let absent = place_not xs x i place in
      record {
        ascends = rw lines (put_ascends xs x i up found);
        numbers = λ n. grind (arith, common_steps, has-insert xs i x n);
        ends = λ f g before same last.
            let rest = map_same f g xs (λ y t. same y (others y absent t)) in
            grind (arith, last e refl, map-inserted g xs i x);
        room = room;
        free = λ none. absurd cc;
      }

  pub removed : (i : ℕ) → Finds (Ok i) → lines_on new ≡ remove xs i → ends_on new ≡ remove (ends_on old) i →
      links_room new ≡ links_room old → length (lines_on new) < links_room new → IsPut old new x None
  removed i found lines ends room free =
      let place = place_of xs x (Ok i) up found in
      let less : (n : ℕ) → has (remove xs i) n ≡ cond (x == n) false (has xs n) =
      λ n. grind (arith, common_steps, has-remove xs i x n up place.0 place.1) in
      record {
        ascends = rw lines (ascends-remove xs i up place.0);
        numbers = λ n. ap (λ zs. has zs n) lines ∙ less n;
        ends = λ f g before same last.
            let rest = map_same f g (remove xs i) (λ y t. same y (grind (arith, common_steps, less y))) in
            grind (arith, map-removed f xs i);
        room = room;
        free = λ _ _. free;
      }

  pub reset : (i : ℕ) (e : LineEnd) → Finds (Ok i) → lines_on new ≡ xs → ends_on new ≡ set (ends_on old) i e →
      links_room new ≡ links_room old → IsPut old new x (Some e)
  reset i e found lines ends room =
      let place = place_of xs x (Ok i) up found in
      record {
        ascends = rw lines up;
        numbers = λ n. ap (λ zs. has zs n) lines ∙ unchanged_at (has xs) x true (has_at xs i x place.0 place.1) n;
        ends = λ f g before same last.
            ends ∙ ap (λ zs. set zs i e) before ∙ ap (set (map f xs) i) (last e refl)
            ∙ map_put f g x same xs i (sorted_from_strictly_increasing xs up) place.0 place.1 ∙ ap (map g) (sym lines);
        room = room;
        free = λ none. absurd cc;
      }

-- a line that is not in the list remains absent
pub absent_put : (l : Links) (x i : ℕ) → IsStrictlyIncreasing (lines_on l) →
    IsBinarySearchResult (λ y. nat_cmp y x) (lines_on l) (Err i) → IsPut l l x None
absent_put l x i up found =
    let absent = place_not (lines_on l) x i (place_of (lines_on l) x (Err i) up found) in
    record {
      ascends = up;
      numbers = unchanged_at (has (lines_on l)) x false absent;
      ends = λ f g before same last. before ∙ map_same f g (lines_on l) (λ y t. same y (others l l x up y absent t));
      room = refl;
      free = λ _ there. absurd cc;
    }

-- ---- one side of a node

pub ascends_at : (side : Side) (M : Map) (v : ℕ) → IsStrictlyIncreasing (lines_at side M v)
ascends_at Out M v = ascend_out M v
ascends_at In M v = ascend_in M v

pub far_there : (side : Side) (M : Map) (x : ℕ) (l : Line) → IsMap M → get M.lines x ≡ Some l →
    has_node M (far side l) ≡ true
far_there side M x l sound e = grind (arith, common_steps, line_starts M sound x l e, line_ends M sound x l e)

-- a line has neither end at a node that no line uses
unused_fails : (M : Map) (v x : ℕ) (l : Line) → in_use M v ≡ false → get M.lines x ≡ Some l → ((l.to == v) ≡ false)
    × ((l.from == v) ≡ false)
unused_fails M v x l free e =
    let used = used_by M (λ k. k.to == v || k.from == v) x l e in grind (arith, common_steps, used)

pub far_unused : (side : Side) (M : Map) (v x : ℕ) (l : Line) → in_use M v ≡ false → get M.lines x ≡ Some l →
    (far side l == v) ≡ false
far_unused side M v x l free e = grind (arith, common_steps, unused_fails M v x l free e)

module _ (side : Side) (M : Map) (v : ℕ) where
  abbrev test : Line → Bool
  test l = near side l == v

  ascending_none : IsStrictlyIncreasing []
  ascending_none k lt = absurd (omega arith)

  none_listed : ((x : ℕ) (l : Line) → get M.lines x ≡ Some l → test l ≡ false) → [] ≡ lines_at side M v
  none_listed h = grind (arith, common_steps, same_ascending, ascending_none, ascends_at, has-lines_where, none_passes)

  pub absent_lines : IsMap M → has_node M v ≡ false → [] ≡ lines_at side M v
  absent_lines sound absent = none_listed (λ x l e.
      grind (arith, common_steps, other_node M, line_starts M sound x l e, line_ends M sound x l e))

  pub unused_lines : in_use M v ≡ false → [] ≡ lines_at side M v
  unused_lines free = none_listed (λ x l e. grind (arith, common_steps, unused_fails M v x l free e))

-- ---- line x has the record w in place of o

-- a line as seen from its end on this side
abbrev pub seen : Side → (ℕ → ℕ) → Line → LineEnd
seen side P l = record { slot = P (far side l); len = l.len }

all_pass : {X : Type 0} (f : Line → X) (test : Line → Bool) (w : Option Line) → ((l : Line) → w ≡ Some l → test l ≡ true)
    → is_some (option_map f w) ≡ passes_at test w
all_pass f test w h = grind (arith, common_steps)

some_seen : (f : Line → LineEnd) (w : Option Line) (e : LineEnd) → option_map f w ≡ Some e → e ≡ f (unwrap_or w no_line)
some_seen f w e h = grind (arith, common_steps)

module _ (side : Side) (P : ℕ → ℕ) (M N : Map) (x : ℕ) (o w : Option Line) (was : get M.lines x ≡ o)
    (now : (n : ℕ) → get N.lines n ≡ cond (x == n) w (get M.lines n)) where
  end_stays : (y : ℕ) → (x == y) ≡ false → end_at side M P y ≡ end_at side N P y
  end_stays y ne = grind (arith, common_steps)

  now_here : get N.lines x ≡ w
  now_here = grind (arith, common_steps, eq-eqb)

  module _ (v : ℕ) where
    abbrev at_v : Line → Bool
    at_v l = near side l == v

    listed_after : (n : ℕ) → has (lines_at side N v) n ≡ cond (x == n) (passes_at at_v w) (has (lines_at side M v) n)
    listed_after n = grind (arith, common_steps, has-lines_where, passes_at, over_cond)

    listed_before : has (lines_at side M v) x ≡ passes_at at_v o
    listed_before = has-lines_where M at_v x ∙ ap (passes_at at_v) was

    -- a node that is not at an end of the line on this side
    pub other_listed : ((l : Line) → o ≡ Some l → at_v l ≡ false) → ((l : Line) → w ≡ Some l → at_v l ≡ false) →
        (k : Links) → IsListed side M P v k → IsListed side N P v k
    other_listed not_before not_now k h =
        let before : has (lines_at side M v) x ≡ false = listed_before ∙ none_passes at_v o not_before in
        let same : lines_at side M v ≡ lines_at side N v =
        same_ascending (lines_at side M v) (lines_at side N v) (ascends_at side M v) (ascends_at side N v)
        (λ n. grind (arith, common_steps, listed_after n, none_passes at_v w not_now, eqb-true)) in
        grind (arith, common_steps, same, map_same, end_stays, ne_eqb)

    -- a node at an end
    pub here_listed : ((l : Line) → w ≡ Some l → at_v l ≡ true) → (old new : Links) →
        IsPut old new x (option_map (seen side P) w) → IsListed side M P v old → IsListed side N P v new
    here_listed now_at old new k h =
        let numbers : lines_on new ≡ lines_at side N v =
        same_ascending (lines_on new) (lines_at side N v) k.ascends (ascends_at side N v)
        (λ n. k.numbers n ∙ (λ i. cond (x == n) (all_pass (seen side P) at_v w now_at i) (has (h.numbers i) n))
        ∙ sym (listed_after n)) in
        record {
          numbers = numbers;
          ends =
              k.ends (end_at side M P) (end_at side N P) (h.ends ∙ ap (map (end_at side M P)) (sym h.numbers)) end_stays
              (λ e is. some_seen (seen side P) w e is
              ∙ ap (λ (r : Option Line). seen side P (unwrap_or r no_line)) (sym now_here))
              ∙ ap (map (end_at side N P)) numbers;
        }

-- ---- other nodes, and other slots

pub replaced : (side : Side) (M : Map) (nodes : FinMap nat_cmp Coord) (P Q : ℕ → ℕ) (v : ℕ) (l : Links)
    → ((y : ℕ) → has (lines_at side M v) y ≡ true → P (far side (line_at M y)) ≡ Q (far side (line_at M y))) →
    IsListed side M P v l → IsListed side (record M { nodes = nodes }) Q v l
replaced side M nodes P Q v l h k = grind (arith, common_steps, map_same)
