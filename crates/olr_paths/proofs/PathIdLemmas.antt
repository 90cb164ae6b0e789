-- A list of entries with the ids of its paths, as paths are added, removed and replaced.
--     Each P es ms      P holds of the id and the path at each position
use Rattle.olr_paths.proofs.Common.{get_or_from_slice_get, IsStrictlyIncreasing, IsBinarySearchResult, slice_get_within, length}
use Rattle.olr_paths.proofs.Common.{string_bytes, length-remove, set_value_at, insert_entry, cases_order, get_or_read, KeyLists}
use Rattle.olr_paths.proofs.Common.{named_keys, has-remove, slice_get, result_ok, string_eq, NamedPath, place_not}
use Rattle.olr_paths.proofs.Common.{IsNoted, place_of, PathList, AreNoted, flipped, ascends, get_or, Result, remove, eq-eqb, []}
use Rattle.olr_paths.proofs.Common.{inl, inr, ◌≡◌, ◌≢◌, suc, ◌<◌, ◌∷◌, Err, ◌-◌, ◌+◌, sym, ◌∙◌, Ok, ap, ℕ}
use Rattle.olr_paths.proofs.Common.{Finder, String, Global, has_at, Spares, subst, arith, Grows, zero, List, ◌++◌, Some, refl}
use Rattle.std.proofs.lemmas.List.Kept.{AllPairs-from_increasing}
use Rattle.std.specs.Ordering.{nat_cmp}
use Rattle.olr_paths.proofs.NamedEntries.{Entries, item_of, items_of, absent, not_here}

-- ---- the index entries of a path, as others are added and removed

-- if it was encoded
abbrev pub NamedNoted : Finder → ℕ → NamedPath → Type 0
NamedNoted f path_id n = IsNoted f path_id (named_keys n)

pub noted_grown : (f g : Finder) (m : ℕ) (k : KeyLists) → Grows f g → IsNoted f m k → IsNoted g m k
noted_grown f g m k more h indexed =
    let old = h (more.3 indexed) in (
      (λ k d lt. more.0 _ m (old.0 k d lt)),
      (λ k d lt. more.1 _ m (old.1 k d lt)),
      (λ k d lt. more.2 _ m (old.2 k d lt)),
    )

key_spared : (f g : Finder) (path_id m : ℕ) (k : KeyLists) → m ≢ path_id → Spares path_id f g → IsNoted f m k →
    IsNoted g m k
key_spared f g path_id m k ne spare h indexed =
    let old = h (spare.3 indexed) in (
      (λ k d lt. spare.0 _ m ne ∙ old.0 k d lt),
      (λ k d lt. spare.1 _ m ne ∙ old.1 k d lt),
      (λ k d lt. spare.2 _ m ne ∙ old.2 k d lt),
    )

-- ---- path ids that differ

-- the ids at different positions
apart : (xs : List ℕ) → IsStrictlyIncreasing xs → (i j : ℕ) → i < length xs → j < length xs → i ≢ j →
    get_or xs i 0 ≢ get_or xs j 0
apart xs up i j a b ne same =
    grind (arith, cases_order i j, AllPairs-from_increasing xs up i j 0, AllPairs-from_increasing xs up j i 0)

-- an id that was removed is not among the rest
not_left : (xs : List ℕ) (p k : ℕ) → IsStrictlyIncreasing xs → p < length xs → k < length (remove xs p) →
    get_or (remove xs p) k 0 ≢ get_or xs p 0
not_left xs p k up at lt same =
    let v = get_or xs p 0 in
    grind (arith, has_at (remove xs p) k v lt same, has-remove xs p v v up at refl, eq-eqb v v refl)

-- the id after the last
pub below_next : (xs : List ℕ) (last path_id : ℕ) → IsStrictlyIncreasing xs → slice_get xs (length xs - 1) ≡ Some last →
    path_id ≡ last + 1 → (k : ℕ) → k < length xs → get_or xs k 0 < path_id
below_next xs last path_id up at is k lt =
    let le = ascends xs up k (length xs - 1) (omega arith) (omega arith) in
    let e : get_or xs (length xs - 1) 0 ≡ last = get_or_from_slice_get xs (length xs - 1) last 0 at in
    omega arith

-- the position at which a search finds an id
pub position_by : (xs : List ℕ) (x : ℕ) (r : Result ℕ ℕ) → IsStrictlyIncreasing xs →
    IsBinarySearchResult (λ y. nat_cmp y x) xs r → (k : ℕ) → k < length xs → get_or xs k 0 ≡ x → result_ok r ≡ Some k
position_by xs x (Ok i) up h k lt is =
    let p = place_of xs x (Ok i) up h in grind (arith, cases_order i k, apart xs up i k p.0 lt, p.1)
position_by xs x (Err i) up h k lt is =
    let off = place_not xs x i (place_of xs x (Err i) up h) in
    let on = has_at xs k x lt is in
    absurd (cc (on, off))

-- ---- what holds of each id and path

abbrev pub Each : (ℕ → NamedPath → Type 0) → Entries → List ℕ → Type 0
Each P es ms = (k : ℕ) (e : String Global × NamedPath) → slice_get es k ≡ Some e → P (get_or ms k 0) e.1

module _ (P : ℕ → NamedPath → Type 0) where
  -- with one path more
  pub each_push : (es : Entries) (ms : List ℕ) (key : String Global) (n : NamedPath) (m : ℕ) → length ms ≡ length es →
      Each P es ms → P m n → Each P (es ++ (key, n) ∷ []) (ms ++ m ∷ [])
  each_push [] [] key n m long h one zero e at = let is : n ≡ e.1 = cc (at) in subst (P m) is one
  each_push (x ∷ es) (y ∷ ms) key n m long h one zero e at = h zero e at
  each_push (x ∷ es) (y ∷ ms) key n m long h one (suc k) e at =
      each_push es ms key n m (omega arith) (λ j. h (suc j)) one k e at
  each_push _ _ key n m long h one k e at = absurd (grind arith)

  -- with one removed
  pub each_removed : (es : Entries) (ms : List ℕ) (q : ℕ) → length ms ≡ length es → Each P es ms →
      Each P (remove es q) (remove ms q)
  each_removed [] ms zero long h k e at = absurd cc
  each_removed [] ms (suc q) long h k e at = absurd cc
  each_removed (x ∷ es) [] q long h k e at = absurd (omega arith)
  each_removed (x ∷ es) (y ∷ ms) zero long h k e at = h (suc k) e at
  each_removed (x ∷ es) (y ∷ ms) (suc q) long h zero e at = h zero e at
  each_removed (x ∷ es) (y ∷ ms) (suc q) long h (suc k) e at =
      each_removed es ms q (omega arith) (λ j. h (suc j)) k e at

-- what holds of each position and path, with one replaced
pub each_set : (Q : ℕ → NamedPath → Type 0) (es : Entries) (q : ℕ) (n : NamedPath) →
    ((k : ℕ) (e : String Global × NamedPath) → k ≢ q → slice_get es k ≡ Some e → Q k e.1) → Q q n → (k : ℕ)
    (e : String Global × NamedPath) → slice_get (set_value_at es q n) k ≡ Some e → Q k e.1
each_set Q [] q n h one k e at = absurd cc
each_set Q (x ∷ es) zero n h one zero e at = let is : n ≡ e.1 = cc (at) in subst (Q 0) is one
each_set Q (x ∷ es) zero n h one (suc k) e at = h (suc k) e (λ s. omega arith) at
each_set Q (x ∷ es) (suc q) n h one zero e at = h zero e (λ s. omega arith) at
each_set Q (x ∷ es) (suc q) n h one (suc k) e at =
    each_set (λ j. Q (suc j)) es q n (λ j f ne. h (suc j) f (λ s. ne (omega arith))) one k e at

-- ---- as index entries change

-- those of other ids
noted_spared : (es : Entries) (ms : List ℕ) (f g : Finder) (path_id : ℕ) →
    ((k : ℕ) → k < length es → get_or ms k 0 ≢ path_id) → Spares path_id f g → AreNoted es ms f → AreNoted es ms g
noted_spared es ms f g path_id other spare h k e at =
    key_spared f g path_id (get_or ms k 0) (named_keys e.1) (other k (slice_get_within es k e at)) spare (h k e at)

-- an id greater than all others
pub noted_below : (l : PathList) (g : Finder) (path_id : ℕ) →
    ((k : ℕ) → k < length l.path_ids.items → get_or l.path_ids.items k 0 < path_id) → Spares path_id l.finder g →
    AreNoted l.paths.entries l.path_ids.items g
noted_below l g path_id below spare = noted_spared l.paths.entries l.path_ids.items l.finder g path_id
    (λ k lt same. let low = below k (omega (arith, l.long)) in absurd (omega arith)) spare l.noted

-- the path at a position has its index entries under the id there
pub noted_at : (l : PathList) (q path_id : ℕ) (e : String Global × NamedPath) →
    path_id ≡ get_or l.path_ids.items q path_id → slice_get l.paths.entries q ≡ Some e → NamedNoted l.finder path_id e.1
noted_at l q path_id e is at =
    let within = slice_get_within l.paths.entries q e at in
    subst (λ (m : ℕ). NamedNoted l.finder m e.1) (sym (get_or_read l.path_ids.items q path_id (omega (arith, l.long)) is 0))
    (l.noted q e at)

-- the id at a position
module _ (l : PathList) (g : Finder) (q path_id : ℕ) (within : q < length l.path_ids.items)
    (is : path_id ≡ get_or l.path_ids.items q path_id) (spare : Spares path_id l.finder g) where
  abbrev es : Entries
  es = l.paths.entries

  abbrev ms : List ℕ
  ms = l.path_ids.items

  here : get_or ms q 0 ≡ path_id
  here = sym (get_or_read ms q path_id within is 0)

  beside : (k : ℕ) (e : String Global × NamedPath) → k ≢ q → slice_get es k ≡ Some e → NamedNoted g (get_or ms k 0) e.1
  beside k e ne at = key_spared l.finder g path_id (get_or ms k 0) (named_keys e.1)
      (λ same. apart ms l.ascend k q (omega (arith, slice_get_within l.paths.entries k e at, l.long)) within ne (same ∙ sym here))
      spare (l.noted k e at)

  -- its path is removed
  pub noted_removed : AreNoted (remove es q) (remove ms q) g
  noted_removed = noted_spared (remove es q) (remove ms q) l.finder g path_id
      (λ k lt same. not_left ms q k l.ascend within
      (omega (arith, length-remove ms q within, length-remove es q (omega (arith, l.long)), l.long)) (same ∙ sym here))
      spare (each_removed (NamedNoted l.finder) es ms q l.long l.noted)

  -- its path is replaced
  pub noted_set : (n : NamedPath) → NamedNoted g path_id n → AreNoted (set_value_at es q n) ms g
  noted_set n one =
      each_set (λ k. NamedNoted g (get_or ms k 0)) es q n beside (subst (λ (m : ℕ). NamedNoted g m n) (sym here) one)

  -- its path still has its index entries
  pub noted_but : (x : String Global × NamedPath) → slice_get es q ≡ Some x →
      (NamedNoted l.finder path_id x.1 → NamedNoted g path_id x.1) → AreNoted es ms g
  noted_but x at still k e there = elim (cases_order k q) [
    | inl same ↦
        let one : x ≡ e = cc (at, there, same) in
        let id : path_id ≡ get_or ms k 0 = sym here ∙ ap (λ (j : ℕ). get_or ms j 0) (sym same) in
        rw (← id, ← one) (still (noted_at l q path_id x is at))
    | inr differ ↦ beside k e (λ s. elim differ [ inl low ↦ omega arith | inr high ↦ omega arith ]) there
  ]

-- ---- a list with one path more

pub insert_last : (es : Entries) (key : String Global) (n : NamedPath) → absent (items_of es) (string_bytes key) →
    insert_entry string_eq es key n ≡ es ++ (key, n) ∷ []
insert_last [] key n h = refl
insert_last (e ∷ es) key n h =
    let r = not_here (item_of e) (items_of es) (string_bytes key) h in
    rw (flipped (string_bytes e.0) (string_bytes key) r.0) (ap (λ (ys : Entries). e ∷ ys) (insert_last es key n r.1))
