-- Dumps: which maps records can encode, and the records of nodes, lines and paths.
use Rattle.olr_register.proofs.Common.{is_recordable_line_at, is_recordable_node_at, is_recordable_coord, is_recordable_shape, ap}
use Rattle.olr_register.proofs.Common.{is_recordable_map, slice_get-get_or, slice_get_cases, margin_changes, AllByRecursion, Bool}
use Rattle.olr_register.proofs.Common.{entries_sorted, concat-append, list_all_more, append_assoc, take_more_at, All-contains, []}
use Rattle.olr_register.proofs.Common.{record_line, node_change, line_change, path_change, get-entries, list_all_at, dump_lines}
use Rattle.olr_register.proofs.Common.{map-append, cases_Bool, slice_get, both_ways, and_parts, unwrap_or, lines_out, take_all, ℕ}
use Rattle.olr_register.proofs.Common.{list_all, flat_map, has_node, and_from, has_line, coord_at, no_coord, All-cons, Content}
use Rattle.olr_register.proofs.Common.{nat_cmp, no_line, is_some, entries, length, Option, concat, Change, get_or, FinMap, IsTrue}
use Rattle.olr_register.proofs.Common.{subst, arith, IsMap, start, false, true, List, ◌++◌, take, Some, refl, Line, None, inl}
use Rattle.olr_register.proofs.Common.{inr, ◌≡◌, ◌+◌, ◌<◌, ◌∷◌, map, sym, ◌∙◌, Map, has, get, All}
use Rattle.std.specs.Prelude.{◌≤◌}
use Rattle.std.specs.FinMap.Entries.{find}
use Rattle.std.proofs.lemmas.List.{flat_map_more}
use Rattle.std.proofs.lemmas.List.Sums.{AllPass-from_list_all, list_all-from_AllPass}
use Rattle.olr_spec.proofs.SameNumbers.{in_from}
use Rattle.olr_spec.specs.Coordinates.{Coord}
use Rattle.olr_spec.proofs.OrderLemmas.{exactly_out}
use Rattle.olr_commands.proofs.DumpLemmas.{of_entries}

-- ---- a test of all values of a finite map

abbrev Tested : {X : Type 0} → (X → Bool) → List (ℕ × X) → Type 0
Tested q es = list_all (λ e. q e.1) es ≡ true

module _ {X : Type 0} (q : X → Bool) where
  found_passes : (es : List (ℕ × X)) (k : ℕ) (x : X) → Tested q es → find nat_cmp k es ≡ Some x → q x ≡ true
  found_passes [] k x a h = absurd cc
  found_passes (e ∷ es) k x a h = grind (arith, found_passes es k x)

  all_from : (es : List (ℕ × X)) → AllByRecursion (λ e. q e.1 ≡ true) es → Tested q es
  all_from [] a = refl
  all_from (e ∷ es) a = and_from (q e.1) (list_all (λ e. q e.1) es) a.0 (all_from es a.1)

  value_passes : (m : FinMap nat_cmp X) (k : ℕ) (x : X) → Tested q (entries m) → get m k ≡ Some x → q x ≡ true
  value_passes m k x a h = found_passes (entries m) k x a (sym (get-entries m k) ∙ h)

  all_values : (m : FinMap nat_cmp X) → ((k : ℕ) (x : X) → get m k ≡ Some x → q x ≡ true) → Tested q (entries m)
  all_values m h =
      all_from (entries m)
      (of_entries (λ e. q e.1 ≡ true) (entries m) (entries_sorted m) (λ e is. h e.0 e.1 (get-entries m e.0 ∙ is)))

one_of_all : (p : ℕ → Bool) (xs : List ℕ) (x : ℕ) → list_all p xs ≡ true → has xs x ≡ true → p x ≡ true
one_of_all p xs x a h = All-contains (λ y. p y ≡ true) xs x (AllPass-from_list_all p xs a) (in_from xs x h)

-- ---- a test of each element, by its index

pub one_fails : {A : Type 0} (q : A → Bool) (xs : List A) (k : ℕ) (d : A) → k < length xs →
    ((x : A) → slice_get xs k ≡ Some x → false ≡ q x) → list_all q xs ≡ false
one_fails q xs k d lt h = list_all_at q xs k d lt (sym (h (get_or xs k d) (slice_get-get_or xs k d lt)))

pub one_more : {A : Type 0} (q : A → Bool) (xs : List A) (k : ℕ) (d : A) → k < length xs →
    ((x : A) → slice_get xs k ≡ Some x → true ≡ q x) → list_all q (take k xs) ≡ true →
    list_all q (take (k + 1) xs) ≡ true
one_more q xs k d lt h before =
    list_all_more q xs k d lt ∙ and_from (list_all q (take k xs)) (q (get_or xs k d)) before
    (sym (h (get_or xs k d) (slice_get-get_or xs k d lt)))

-- before the end there is an element
pub none_missing : {A : Type 0} (xs : List A) (k n : ℕ) → None ≡ slice_get xs k → n ≡ length xs → k < n → ⊥
none_missing xs k n none all lt =
    elim (slice_get_cases xs k).1 [
      | inl s ↦ let never = none ∙ s.2 in absurd cc
      | inr p ↦ omega (arith, p.0, all, lt)
    ]

-- ---- a map, node by node

-- the value at a number, or one that passes
default_passes : {X : Type 0} (q : X → Bool) (m : FinMap nat_cmp X) (k : ℕ) (d : X) → q d ≡ true → Tested q (entries m) →
    q (unwrap_or (get m k) d) ≡ true
default_passes q m k d e a = grind (arith, value_passes q m k)

module _ (M : Map) where
  tested : is_recordable_map M ≡ true → Tested is_recordable_coord (entries M.nodes)
      × Tested (λ (l : Line). is_recordable_shape l.shape) (entries M.lines)
  tested a =
      and_parts (list_all (λ e. is_recordable_coord e.1) (entries M.nodes))
      (list_all (λ e. is_recordable_shape e.1.shape) (entries M.lines)) a

  pub shapes_pass : is_recordable_map M ≡ true → (x : ℕ) → is_recordable_line_at M x ≡ true
  shapes_pass a x = default_passes (λ (k : Line). is_recordable_shape k.shape) M.lines x no_line refl (tested a).1

  pub coords_pass : is_recordable_map M ≡ true → (v : ℕ) → is_recordable_coord (coord_at M v) ≡ true
  coords_pass a v = default_passes is_recordable_coord M.nodes v no_coord refl (tested a).0

  -- a node that records can't encode, or a line that leaves it
  pub not_by_node : (v : ℕ) → is_recordable_node_at M v ≡ false → is_recordable_map M ≡ false
  not_by_node v other =
      elim (cases_Bool (is_recordable_map M)) [
        | inl all ↦
            absurd (both_ways (is_recordable_node_at M v) other
            (and_from (is_recordable_coord (coord_at M v)) (list_all (is_recordable_line_at M) (lines_out M v))
            (coords_pass all v)
            (list_all-from_AllPass (is_recordable_line_at M) (lines_out M v) (λ i d lt. shapes_pass all _))))
        | inr none ↦ none
      ]

  -- each node of a sound map
  pub by_nodes : IsMap M → ((v : ℕ) → has_node M v ≡ true → is_recordable_node_at M v ≡ true) →
      is_recordable_map M ≡ true
  by_nodes m h =
      and_from (list_all (λ e. is_recordable_coord e.1) (entries M.nodes))
      (list_all (λ e. is_recordable_shape e.1.shape) (entries M.lines))
      (all_values is_recordable_coord M.nodes (λ v c is.
      subst (λ (o : Option Coord). is_recordable_coord (unwrap_or o no_coord) ≡ true) is
      (parts v (ap (λ (o : Option Coord). is_some o) is)).0))
      (all_values (λ (l : Line). is_recordable_shape l.shape) M.lines (λ x l is.
      let there : has_line M x ≡ true = ap (λ (o : Option Line). is_some o) is in
      let from : start M x ≡ l.from = ap (λ (o : Option Line). (unwrap_or o no_line).from) is in
      let node : has_node M l.from ≡ true = subst (λ (n : ℕ). has_node M n ≡ true) from (m.starts x there) in
      subst (λ (o : Option Line). is_recordable_shape (unwrap_or o no_line).shape ≡ true) is
      (one_of_all (is_recordable_line_at M) (lines_out M l.from) x (parts l.from node).1
      ((exactly_out M l.from x).1 (l, (is, refl)))))) where
        parts : (v : ℕ) → has_node M v ≡ true → (is_recordable_coord (coord_at M v) ≡ true)
            × (list_all (is_recordable_line_at M) (lines_out M v) ≡ true)
        parts v there =
            and_parts (is_recordable_coord (coord_at M v)) (list_all (is_recordable_line_at M) (lines_out M v))
            (h v there)

-- ---- records

-- the text with the record of one more
pub records-at : {A : Type 0} (f : A → List ℕ) (t : List ℕ) (xs : List A) (k : ℕ) (x : A) → slice_get xs k ≡ Some x
    → (t ++ flat_map f (take k xs)) ++ f x ≡ t ++ flat_map f (take (k + 1) xs)
records-at f t xs k x is = rw (take_more_at xs k x is) (flat_map_more f t (take k xs) x)

pub records_next : {A : Type 0} (f : A → List ℕ) (u v t : List ℕ) (xs : List A) (k : ℕ) (x : A) → k < length xs →
    x ≡ get_or xs k x → u ≡ t ++ flat_map f (take k xs) → v ≡ u ++ f x → v ≡ t ++ flat_map f (take (k + 1) xs)
records_next f u v t xs k x lt is before e =
    let at = slice_get-get_or xs k x lt ∙ ap (λ y. Some y) (sym is) in
    e ∙ ap (λ (w : List ℕ). w ++ f x) before ∙ records-at f t xs k x at

-- after the last
pub records_all : {A : Type 0} (f : A → List ℕ) (u t : List ℕ) (xs : List A) (k : ℕ) → length xs ≤ k →
    u ≡ t ++ flat_map f (take k xs) → u ≡ t ++ flat_map f xs
records_all f u t xs k past = subst (λ ys. u ≡ t ++ flat_map f ys) (take_all k xs past)

-- the numbers of the entries, and a text of each with the value that is read there
module _ {X : Type 0} (m : FinMap nat_cmp X) where
  there_by : (es : List (ℕ × X)) → AllByRecursion (λ e. get m e.0 ≡ Some e.1) es →
      All (λ k. IsTrue (is_some (get m k))) (map (λ (e : ℕ × X). e.0) es)
  there_by [] a = λ k d lt. absurd (omega arith)
  there_by (e ∷ es) a = All-cons (λ k. IsTrue (is_some (get m k))) e.0 (map (λ (e : ℕ × X). e.0) es)
      (ap (λ (o : Option X). is_some o) a.0) (there_by es a.1)

  texts_by : (f : ℕ × X → List ℕ) (d : X) (es : List (ℕ × X)) → AllByRecursion (λ e. get m e.0 ≡ Some e.1) es →
      flat_map (λ (k : ℕ). f (k, unwrap_or (get m k) d)) (map (λ (e : ℕ × X). e.0) es) ≡ flat_map f es
  texts_by f d [] a = refl
  texts_by f d (e ∷ es) a = rw a.0 (ap (λ (r : List ℕ). f e ++ r) (texts_by f d es a.1))

  read : AllByRecursion (λ e. get m e.0 ≡ Some e.1) (entries m)
  read = of_entries (λ e. get m e.0 ≡ Some e.1) (entries m) (entries_sorted m) (λ e there. get-entries m e.0 ∙ there)

  pub keys_there : All (λ k. IsTrue (is_some (get m k))) (map (λ (e : ℕ × X). e.0) (entries m))
  keys_there = there_by (entries m) read

  pub texts_at : (f : ℕ × X → List ℕ) (d : X) →
      flat_map (λ (k : ℕ). f (k, unwrap_or (get m k) d)) (map (λ (e : ℕ × X). e.0) (entries m)) ≡ flat_map f (entries m)
  texts_at f d = texts_by f d (entries m) read

texts_of : {A : Type 0} (g : A → Change) (xs : List A) → concat (map record_line (map g xs)) ≡ flat_map (λ x. record_line (g x)) xs
texts_of g [] = refl
texts_of g (x ∷ xs) = ap (λ (r : List ℕ). record_line (g x) ++ r) (texts_of g xs)

-- the records of a margin, of nodes, lines and paths, after a text
pub dump_text : (c : Content) (t : List ℕ) →
    (((t ++ concat (map record_line (margin_changes c.margin)))
    ++ flat_map (λ e. record_line (node_change e)) (entries c.map.nodes))
    ++ flat_map (λ e. record_line (line_change e)) (entries c.map.lines))
    ++ flat_map (λ p. record_line (path_change p)) c.paths ≡ t ++ concat (dump_lines c)
dump_text c t =
    simp (map-append, concat-append, append_assoc, texts_of node_change, texts_of line_change, texts_of path_change)
