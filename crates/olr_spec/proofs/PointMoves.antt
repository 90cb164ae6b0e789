-- LRPs, answers and faults are the same on two maps that agree around a path's traversed nodes and on the positions that
-- are covered from its LRPs.
use Rattle.olr_spec.proofs.Common.{Margin, CountedRoute, ◌≡◌, ℕ, ◌+◌, ◌-◌, min, Bool, true, cond, List, ◌∷◌, length, ◌<◌, ◌≤◌}
use Rattle.olr_spec.proofs.Common.{refl, sym, arith, ◌↔◌, suc, [], ltb-true, slice_index, Map, IsMap, start, end, coord_at}
use Rattle.olr_spec.proofs.Common.{SameLine, SameRound, has, dm_of, Path, passing, limit, node_at, stretch, CoveredWith, fit16}
use Rattle.olr_spec.proofs.Common.{CandidateWith, ValidCandidateWith, Greatest, NextWith, To_end, To_valid, To_passing}
use Rattle.olr_spec.proofs.Common.{FollowWith, legs, first_unknown, first_break, path_fault, Traversed}
use Rattle.olr_spec.proofs.Facts.{counted_nil, empty_unique, empty_stretch, Each, Each-nil, Each-head, Each-tail, Each-range}
use Rattle.olr_spec.proofs.Facts.{has_last, has_index, map_same, Alike, same_record, same_start, same_end, same_dm_of}
use Rattle.olr_spec.proofs.Facts.{same_coord, same_passing, same_known}

-- the empty route, on any map
empty_counted : (g : Margin) (M N : Map) → IsMap N → (s t s' t' : ℕ) (xs : List ℕ) → xs ≡ [] → s ≡ s' → t ≡ t' →
    CountedRoute g M s t xs → CountedRoute g N s' t' xs
empty_counted g M N n s t s' t' xs e p q l = grind (arith, counted_nil g N, counted_nil g M, empty_unique N n s', l.route)

-- if no line is between, a position is covered on any map
pub close_stays : (g : Margin) (M N : Map) → IsMap M → IsMap N → (ls : List ℕ) → Each (SameLine M N) ls → (i j : ℕ) → i < j
    → j ≤ length ls → length ls ≤ i + 2 → CoveredWith g M ls i j ↔ CoveredWith g N ls i j
close_stays g M N m n ls same i j h upto close =
    let k = min j (length ls - 1) in
    let none = empty_stretch ls (i + 1) k (omega arith) in
    let from : i < k → end M (slice_index ls i) ≡ end N (slice_index ls i) = grind (arith, same_end, has_index) in
    let to : i < k → start M (slice_index ls k) ≡ start N (slice_index ls k) =
    λ a. same_start M N (slice_index ls k) (same (slice_index ls k) (has_index ls k (omega arith))) in (
      (λ c a. empty_counted g M N n _ _ _ _ (stretch ls (i + 1) k) none (from a) (to a) (c a)),
      (λ c a. empty_counted g N M m _ _ _ _ (stretch ls (i + 1) k) none (sym (from a)) (sym (to a)) (c a)),
    )

pub Each-cond : (Q : ℕ → Type 0) (b : Bool) (xs : List ℕ) → Each Q xs → Each Q (cond b [] xs)
Each-cond Q b xs h = grind (arith, Each-nil)

Greatest-moves : (Q S : ℕ → Type 0) (j : ℕ) → ((k : ℕ) → Q k ↔ S k) → Greatest Q j → Greatest S j
Greatest-moves Q S j same h = record { holds = (same j).0 h.holds; others = λ k s. h.others k ((same k).1 s) }

candidate_by : (g : Margin) (M N : Map) (ls : List ℕ) (i j : ℕ) → (CoveredWith g M ls i j → CoveredWith g N ls i j) →
    dm_of M (stretch ls i j) ≡ dm_of N (stretch ls i j) →
    fit16 (coord_at M (node_at M ls i)) (coord_at M (node_at M ls j)) ≡ fit16 (coord_at N (node_at N ls i))
    (coord_at N (node_at N ls j)) → CandidateWith g M ls i j → CandidateWith g N ls i j
candidate_by g M N ls i j covered near fits c = grind arith

-- the lines ls and the LRPs js, on maps that agree around the lines' ends and on what is covered from the LRPs
module _ (g : Margin) (M N : Map) (ls : List ℕ) (nonempty : 0 < length ls) (alike : Each (Alike M N) ls) (js : List ℕ)
    (covers : (i j : ℕ) → has js i ≡ true → i < j → j ≤ length ls → dm_of M (stretch ls i j) ≤ limit
    → CoveredWith g M ls i j ↔ CoveredWith g N ls i j) where
  -- a property of what both maps have at a node
  node_same : {X : Type 0} (f : Map → ℕ → X) → ((v : ℕ) → SameRound M N v → f M v ≡ f N v) → (i : ℕ) →
      f M (node_at M ls i) ≡ f N (node_at N ls i)
  node_same f same i = grind (arith, same, alike, has_index, has_last, ltb-true, same_start, same_end)

  stretch_same : (i j : ℕ) → dm_of M (stretch ls i j) ≡ dm_of N (stretch ls i j)
  stretch_same i j = same_dm_of M N (stretch ls i j) (Each-range (SameLine M N) ls i j (λ x h. (alike x h).same))

  candidate_same : (i j : ℕ) → has js i ≡ true → CandidateWith g M ls i j ↔ CandidateWith g N ls i j
  candidate_same i j on = let place = node_same coord_at (same_coord M N) in grind (arith, stretch_same, place, candidate_by)

  both_valid : (i j : ℕ) → has js i ≡ true → ValidCandidateWith g M ls i j ↔ ValidCandidateWith g N ls i j
  both_valid i j on = grind (arith, (candidate_same i j on), (node_same passing (same_passing M N)))

  next_moves : (i j : ℕ) → has js i ≡ true → NextWith g M ls i j → NextWith g N ls i j
  next_moves i j on (To_end e c) = To_end e ((candidate_same i (length ls) on).0 c)
  next_moves i j on (To_valid not_end g) =
      To_valid (λ c. not_end ((candidate_same i (length ls) on).1 c)) (Greatest-moves _ _ j (λ k. both_valid i k on) g)
  next_moves i j on (To_passing not_end none g) =
      To_passing (λ c. not_end ((candidate_same i (length ls) on).1 c)) (λ k v. none k ((both_valid i k on).1 v))
      (Greatest-moves _ _ j (λ k. candidate_same i k on) g)

  pub follow_moves : (i : ℕ) (ks : List ℕ) → Each (λ k. has js k ≡ true) (i ∷ ks) → FollowWith g M ls i ks → FollowWith g N ls i ks
  follow_moves i [] on f = λ j c. f j ((candidate_same i j (Each-head (λ k. has js k ≡ true) i [] on)).1 c)
  follow_moves i (j ∷ ks) on f = (
    next_moves i j (Each-head (λ k. has js k ≡ true) i (j ∷ ks) on) f.0,
    follow_moves j ks (Each-tail (λ k. has js k ≡ true) i (j ∷ ks) on) f.1,
  )

-- on maps that agree around the ends of the lines ls
pub legs_same : (M N : Map) (ls : List ℕ) → Each (Alike M N) ls → legs M ls ≡ legs N ls
legs_same M N ls alike = grind (arith, map_same, same_coord, same_start, same_end, same_record)

-- ---- traversed nodes

pub Traversed-same : (M N : Map) (ls b a : List ℕ) (v : ℕ) → Each (Alike M N) ls → Each (Alike M N) b
    → Each (Alike M N) a → Traversed M ls b a v ↔ Traversed N ls b a v
Traversed-same M N ls b a v h i j = grind (arith, same_start, same_end)

unknown_same : (M N : Map) (ls : List ℕ) → Each (SameLine M N) ls → first_unknown M ls ≡ first_unknown N ls
unknown_same M N [] h = refl
unknown_same M N (x ∷ ls) h = grind (arith, unknown_same M N ls, same_known, Each-head, Each-tail)

break_same : (M N : Map) (k : ℕ) (ls : List ℕ) → Each (SameLine M N) ls → first_break M k ls ≡ first_break N k ls
break_same M N k [] h = refl
break_same M N k (x ∷ []) h = refl
break_same M N k (x ∷ y ∷ ls) h = grind (arith, break_same M N (suc k) (y ∷ ls), same_end, same_start, Each-head, Each-tail)

pub fault_same : (M N : Map) (P : Path) → Each (SameLine M N) P.lines → path_fault M P ≡ path_fault N P
fault_same M N P h = grind (arith, break_same, same_dm_of, unknown_same)
