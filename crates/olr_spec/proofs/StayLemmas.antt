-- If nothing that a path depends on has changed, its answer, traversed nodes, coverage queries and footprint are the
-- same.
use Rattle.olr_spec.proofs.Common.{Margin, answer_by_points_with, TraversedOfExtended, QueriesOfExtendedWith, ◌⊎◌}
use Rattle.olr_spec.proofs.Common.{extended_path, last_position, EncodingWith, CoverageQuery, query_to_with, No_next_point, inl}
use Rattle.olr_spec.proofs.Common.{Contains, cases_lt, SameLine, IsRoute, is_path, AreJoined, stretch, Traversed, querying, inr}
use Rattle.olr_spec.proofs.Common.{length, Option, IsTrue, subst, arith, Answer, Refused, Refusal, Points, NodeOf, IsClear, ◌≡◌}
use Rattle.olr_spec.proofs.Common.{ℕ, ◌+◌, ◌∷◌, ◌<◌, ◌≤◌, All, sym, ◌∙◌, ◌↔◌, T, ap, Map, end, has, List, true, None, ◌++◌}
use Rattle.olr_spec.proofs.Common.{cond, [], ◌==◌, IsMap, start, dm_of, Path, first, last, Tried, limit, MatchOption}
use Rattle.olr_spec.proofs.Common.{taken_start, CoveredWith, ChangedLine, AccountsFor, IsQueryWith, All-contains, length-append}
use Rattle.olr_spec.proofs.Common.{both_ways, IsLastTestedWith, reference_with, QueriesFromWith, cases_Bool, SameRound}
use Rattle.olr_spec.proofs.Common.{from_start, taken_end, LongestEnd, FollowWith, OfPathWith, path_fault, QueryLaws, LawOf}
use Rattle.olr_spec.proofs.Facts.{Each, Each-from, has_first, has_last, Known, Each-append, Each-left, Each-right, Each-to}
use Rattle.olr_spec.proofs.Facts.{Each-cons, Each-push, sound_lines, path_nonempty, path_at, by_fault, one_tried}
use Rattle.olr_spec.proofs.Facts.{extended_keeps, Alike, same_begin, same_finish, longest_start_moves, StartRun-known}
use Rattle.olr_spec.proofs.Facts.{EndRun-known, longest_end_moves, same_dm_of, same_known, by_entering}
use Rattle.olr_spec.proofs.PointMoves.{fault_same, close_stays, Traversed-same, follow_moves, legs_same}
use Rattle.olr_spec.proofs.JoinedLemmas.{extended_joined}
use Rattle.olr_spec.proofs.QueryLemmas.{RoutesStay, to_same, clear_routes, query_stays, covered_stays}
use Rattle.olr_spec.proofs.TestedLemmas.{query_for, zip_moves}

-- along any lines of both maps, each of these coverage queries has the same routes
abbrev pub RoutesOf : Margin → Map → Map → List CoverageQuery → Type 0
RoutesOf g M N queries =
    (ls : List ℕ) → Each (SameLine M N) ls → (s t : ℕ) → IsRoute M s t ls → (i k : ℕ) → IsLastTestedWith g M ls i k →
    Contains queries (query_to_with g M ls i k) → RoutesStay g M N ls i k

module _ (g : Margin) (M N : Map) (m : IsMap M) (n : IsMap N) (P : Path) (is : IsTrue (is_path P.lines))
    (sound : path_fault M P ≡ None) (same : Each (SameLine M N) P.lines)
    (traversed : (v : ℕ) → TraversedOfExtended M P v → SameRound M N v) where
  nonempty : 0 < length P.lines
  nonempty = path_nonempty P.lines is

  known : Each (Known M) P.lines
  known = Each-from (Known M) P.lines (sound_lines M P sound)

  module _ (b a : List ℕ) (tried : Tried M P b a) where
    abbrev fs : List ℕ
    fs = from_start M P b

    abbrev ls : List ℕ
    ls = (extended_path M P b a).lines

    alike : (xs : List ℕ) → ((v : ℕ) → NodeOf M xs v → Traversed M ls b a v) → Each (Known M) xs → Each (Alike M N) xs
    alike xs on k x h =
        let round : (v : ℕ) → (start M x ≡ v) ⊎ (end M x ≡ v) → SameRound M N v =
        λ v e. traversed v (record { before = b; after = a; tried = tried; traversed = on v (x, h, e) }) in
        grind (arith, known, by_entering)

    ls_alike : Each (Alike M N) ls
    ls_alike = alike ls (λ v on. inl on) (extended_keeps M (Each (Known M)) (λ x ls p k. Each-cons (Known M) x ls p.known k)
        (λ ls x p k. Each-push (Known M) ls x k p.known) P b a tried known)

    b_alike : Each (Alike M N) b
    b_alike = alike b (λ v on. inr (inl on)) (StartRun-known M b P.lines tried.before.run)

    a_alike : Each (Alike M N) a
    a_alike = alike a (λ v on. inr (inr on)) (EndRun-known M fs a tried.after.run)

    fs_alike : Each (Alike M N) fs
    fs_alike = Each-left (Alike M N) fs (taken_end M fs a) ls_alike

    before_alike : Each (Alike M N) (b ++ P.lines)
    before_alike = Each-append (Alike M N) b P.lines b_alike (Each-right (Alike M N) (taken_start M b P.lines) P.lines fs_alike)

    after_alike : Each (Alike M N) (fs ++ a)
    after_alike = Each-append (Alike M N) fs a fs_alike a_alike

    front_same : taken_start M b P.lines ≡ taken_start N b P.lines
    front_same = λ i. cond (same_begin M N (first (b ++ P.lines)) (before_alike _ (has_first (b ++ P.lines)
        (omega (arith, nonempty, length-append b P.lines)))) i) [] b

    fs_same : fs ≡ from_start N P b
    fs_same = λ i. front_same i ++ P.lines

    fs_nonempty : 0 < length fs
    fs_nonempty = omega (arith, nonempty, length-append (taken_start M b P.lines) P.lines)

    tried_there : Tried N P b a
    tried_there = record {
      before = longest_start_moves M N m P.lines b nonempty before_alike tried.before;
      after = subst (λ (zs : List ℕ). LongestEnd N zs a) fs_same
          (longest_end_moves M N m fs a fs_nonempty after_alike tried.after);
    }

    back_same : taken_end M fs a ≡ taken_end N (from_start N P b) a
    back_same =
        (λ i. cond (same_finish M N (last (fs ++ a)) (after_alike _ (has_last (fs ++ a)
        (omega (arith, fs_nonempty, length-append fs a)))) i) [] a)
        ∙ ap (λ (zs : List ℕ). taken_end N zs a) fs_same

    ls_same : Each (SameLine M N) ls
    ls_same x h = (ls_alike x h).same

    path_there : extended_path M P b a ≡ extended_path N P b a
    path_there =
        let front = same_dm_of M N (taken_start M b P.lines)
        (Each-left (SameLine M N) (taken_start M b P.lines) P.lines (λ x h. (fs_alike x h).same)) ∙ ap (dm_of N) front_same in
        let back = same_dm_of M N (taken_end M fs a) (Each-right (SameLine M N) fs (taken_end M fs a) ls_same)
        ∙ ap (dm_of N) back_same in
        λ i. record { lines = fs_same i ++ back_same i; pos = P.pos + front i; neg = P.neg + back i }

    follow_there : (js : List ℕ) → ((i j : ℕ) → has (0 ∷ js) i ≡ true → i < j → j ≤ length ls
        → dm_of M (stretch ls i j) ≤ limit → CoveredWith g M ls i j ↔ CoveredWith g N ls i j) → FollowWith g M ls 0 js →
        FollowWith g N (extended_path N P b a).lines 0 js
    follow_there js covers f = coe 0 1 (i. FollowWith g N (path_there i).lines 0 js) (follow_moves g M N ls
        (omega (arith, fs_nonempty, length-append fs (taken_end M fs a))) ls_alike (0 ∷ js) covers 0 js (λ k h. h) f)

    answer_there : (js : List ℕ) →
        answer_by_points_with g M (extended_path M P b a) js ≡ answer_by_points_with g N (extended_path N P b a) js
    answer_there js =
        let E = extended_path M P b a in
        (λ i. cond (last_position 0 js == length E.lines) (Points (reference_with g (legs_same M N ls ls_alike i) E.pos E.neg js))
        (Refused (No_next_point (last_position 0 js))))
        ∙ ap (λ (E : Path). answer_by_points_with g N E js) path_there

    traversed_moves : (v : ℕ) → Traversed M ls b a v ↔ Traversed N (extended_path N P b a).lines b a v
    traversed_moves v = coe 0 1 (i. Traversed M ls b a v ↔ Traversed N (path_there i).lines b a v)
        (Traversed-same M N ls b a v ls_alike b_alike a_alike)

  module _ (queries : List CoverageQuery) (o : QueriesOfExtendedWith g M P queries) (routes : RoutesOf g M N queries) where
    abbrev E : Path
    E = extended_path M P o.before o.after

    all_same : Each (SameLine M N) E.lines
    all_same = ls_same o.before o.after o.tried

    joined : AreJoined M E.lines
    joined = extended_joined M P is sound o.before o.after o.tried

    stay : (i k : ℕ) → IsLastTestedWith g M E.lines i k → Contains queries (query_to_with g M E.lines i k) → RoutesStay g M N E.lines i k
    stay = routes E.lines all_same (start M (first E.lines)) (end M (last E.lines)) joined

    covers : (i j : ℕ) → has (0 ∷ o.points) i ≡ true → i < j → j ≤ length E.lines → dm_of M (stretch E.lines i j) ≤ limit
        → CoveredWith g M E.lines i j ↔ CoveredWith g N E.lines i j
    covers i j on h upto near = elim (cases_lt (i + 2) (length E.lines)) [
      | inl far ↦
          let l = query_for g M E.lines (0 ∷ o.points) queries o.holds i on far in
          let k = l.2 in
          covered_stays M N E.lines all_same _ _ joined i k.0 k.1
          (stay i k.0 k.1 (subst (Contains queries) k.2 l.1)) (inr m) (inr n) j h upto near
      | inr close ↦ close_stays g M N m n E.lines all_same i j h upto (omega arith)
    ]

    -- the same runs and LRPs, with a property of them on the other map
    goes_over : {R : Path → List ℕ → List ℕ → List ℕ → Type 0} →
        R (extended_path N P o.before o.after) o.before o.after o.points → OfPathWith g N P R
    goes_over h = search (tried_there, follow_there, covers) depth 6

    -- the answer
    answer_stays : (A : Answer) → EncodingWith g M P A → EncodingWith g N P A
    answer_stays A p = goes_over (path_at m is sound o p ∙ answer_there o.before o.after o.tried o.points)

    -- the traversed nodes
    traversed_stays : (v : ℕ) → TraversedOfExtended M P v ↔ TraversedOfExtended N P v
    traversed_stays v = (
      (λ p. search (tried_there p.before p.after p.tried, (traversed_moves p.before p.after p.tried v).0 p.traversed) depth 6),
      (λ p.
          let k : Each (Known N) P.lines = λ x h. sym (same_known M N x (same x h)) ∙ known x h in
          let runs = one_tried N n P nonempty (k (first P.lines) (has_first P.lines nonempty)) (k (last P.lines) (has_last P.lines nonempty))
          p.before p.after o.before o.after p.tried (tried_there o.before o.after o.tried) in
          search (
            o.tried,
            (traversed_moves o.before o.after o.tried v).1
                (coe 0 1 (i. Traversed N (extended_path N P (runs.0 i) (runs.1 i)).lines (runs.0 i) (runs.1 i) v) p.traversed),
          ) depth 6),
    )

    -- the coverage queries
    one_query : (i : ℕ) (l : CoverageQuery) → Contains queries l → IsQueryWith g M E.lines i l → IsQueryWith g N E.lines i l
    one_query i l on k = (
      k.0,
      query_stays M N E.lines all_same _ _ joined i k.0 k.1 (stay i k.0 k.1 (subst (Contains queries) k.2 on)),
      k.2 ∙ to_same M N E.lines all_same _ _ joined i k.0 k.1,
    )

    queries_stay : QueriesOfExtendedWith g N P queries
    queries_stay = goes_over (coe 0 1 (i. QueriesFromWith g N (path_there o.before o.after o.tried i).lines
        (querying (path_there o.before o.after o.tried i).lines (0 ∷ o.points)) queries)
        (zip_moves (IsQueryWith g M E.lines) (IsQueryWith g N E.lines) (querying E.lines (0 ∷ o.points)) queries one_query o.holds))

-- ---- whether or not the path has a fault

module _ (g : Margin) (M N : Map) (m : IsMap M) (n : IsMap N) (P : Path) (is : IsTrue (is_path P.lines))
    (same : Each (SameLine M N) P.lines) (queries : List CoverageQuery) (routes : RoutesOf g M N queries) where
  -- by the faults f and h of the path on the two maps
  abbrev Stay : Option Refusal → Option Refusal → Type 0
  Stay f h =
      ((v : ℕ) → MatchOption f (TraversedOfExtended M P v) (λ _. ⊥) → SameRound M N v) →
      MatchOption f (QueriesOfExtendedWith g M P queries) (λ _. queries ≡ [])
      → ((A : Answer) → MatchOption f (EncodingWith g M P A) (λ r. A ≡ Refused r) → MatchOption h (EncodingWith g N P A) (λ r. A ≡ Refused r))
      × ((v : ℕ) → MatchOption f (TraversedOfExtended M P v) (λ _. ⊥) ↔ MatchOption h (TraversedOfExtended N P v) (λ _. ⊥))
      × MatchOption h (QueriesOfExtendedWith g N P queries) (λ _. queries ≡ [])

  pub queried_kept : Stay (path_fault M P) (path_fault N P)
  queried_kept = subst (Stay (path_fault M P)) (fault_same M N P same) (by_fault M P (λ f. Stay f f) (λ e traversed o. (
    answer_stays g M N m n P is e same traversed queries o routes,
    traversed_stays g M N m n P is e same traversed queries o routes,
    queries_stay g M N m n P is e same traversed queries o routes,
  )) (λ r traversed o. ((λ A p. p), (λ v. ((λ h. h), (λ h. h))), o)))

-- if each coverage query is clear
clear : (g : Margin) (M N : Map) (C : List ChangedLine) → AccountsFor C M N → AccountsFor C N M → (queries : List CoverageQuery) →
    All (IsClear N C) queries → RoutesOf g M N queries
clear g M N C there here queries all ls each s t joined i k last on =
    clear_routes M N ls each s t joined i k last C there here (All-contains (IsClear N C) queries (query_to_with g M ls i k) all on)

pub kept : (g : Margin) → LawOf (λ (l : QueryLaws g). l.answers_retained)
kept g M N m n C there here P is same traversed queries o all =
    queried_kept g M N m n P is (Each-from (SameLine M N) P.lines same) queries (clear g M N C there here queries all) traversed o

-- the same conclusion from what is touched
pub untouched_retained_with : (g : Margin) → LawOf (λ (l : QueryLaws g). l.untouched_retained)
untouched_retained_with g M N m n T X C d P is lines nodes queries =
    kept g M N m n C d.there d.here P is (Each-to (SameLine M N) P.lines (λ x on. d.lines x (grind (arith, lines, cases_Bool, both_ways))))
    (λ v on. d.nodes v (grind (arith, nodes, cases_Bool))) queries
