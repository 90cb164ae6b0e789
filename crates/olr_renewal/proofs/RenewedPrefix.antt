-- A list, as far as it was renewed: SoFar says it of the first paths, with the count of encodings.
use Rattle.olr_renewal.proofs.Common.{Answer, ChangedLine, Entry, Follows, IsAffected, IsBefore, IsEncodingOf, IsMap, Item}
use Rattle.olr_renewal.proofs.Common.{List, Results, Map, Margin, Named, NamedPath, None, Option, Renewal, Reported, Some, []}
use Rattle.olr_renewal.proofs.Common.{after_renewal, all_named, all_put, answer_in, ap, arith, changed_of, entry, entry_of, inl}
use Rattle.olr_renewal.proofs.Common.{inr, length, lines_of, map, map-append, named_of, nodes_of, option_map, puts_of, refl}
use Rattle.olr_renewal.proofs.Common.{slice_get, slice_get_within, sym, false, has, take_all, take, ℕ, ◌++◌, ◌+◌, ◌∙◌, ◌∷◌, ◌≡◌}
use Rattle.olr_renewal.proofs.Common.{◌≤◌, ◌⊎◌, Covers, CountIs, at_position, IsActionFor, ToSkip, Action, Skip, Retain, Encode}
use Rattle.olr_renewal.proofs.Common.{ChangeSet, with_results, AreReencoded, IsReencoded, ReportsIfOther, encodings_of, entries_of}
use Rattle.olr_renewal.proofs.Common.{IsRenewal, IsStep, WasBefore, results_at, append_assoc, append-nil, take_more_at}
use Rattle.olr_paths.proofs.NotedPositions.{all_put-push, put_behind}
use Rattle.olr_search.specs.Counts.{no_work, raised_count}
use Rattle.olr_renewal.proofs.RetainedLemmas.{stays_retained, named_affected, stays_unless, touched_by, affected_by}
use Rattle.olr_renewal.proofs.Passing.{Walked, walked_all}

AreReencoded-push : (g : Margin) (N : Map) (is js : List Item) (i j : Item) → AreReencoded g N is js → IsReencoded g N i j →
    AreReencoded g N (is ++ i ∷ []) (js ++ j ∷ [])
AreReencoded-push g N [] js i j h one = rw h (one, refl)
AreReencoded-push g N (x ∷ is) [] i j h one = absurd h
AreReencoded-push g N (x ∷ is) (k ∷ js) i j h one = (h.0, AreReencoded-push g N is js i j h.1 one)

count_both : {A : Type 0} (P : A → Type 0) (xs ys : List A) (n m : ℕ) → CountIs P xs n → CountIs P ys m →
    CountIs P (xs ++ ys) (n + m)
count_both P [] ys n m h k = let e : n + m ≡ m = omega arith in rw e k
count_both P (x ∷ xs) ys n m (inl h) k =
    let e = h.1.2 in inl (h.0, (h.1.0 + m, count_both P xs ys h.1.0 m h.1.1 k, omega arith))
count_both P (x ∷ xs) ys n m (inr h) k = inr (h.0, count_both P xs ys n m h.1 k)

-- ---- the paths before a position

-- the answer of an item
abbrev pub answer : Item → Option Answer
answer i = option_map (λ m. m.answer) i.results

-- of the paths of a list the first are renewed: r has their results, reports them and counts them
pub record SoFar (g : Margin) (N : Map) (T X : List ℕ) (C : List ChangedLine) (before is first : List Item) (r : Renewal) : Type 0
  where
    pub js : List Item
    pub many : ℕ
    pub put : (ys : List Item) → all_put (first ++ ys) (results_at r) ≡ js ++ ys
    pub named : all_named js ≡ all_named first
    pub reported : (ks : List Item) (fs : List Entry) → Reported before ks fs →
        Reported before (js ++ ks) (entries_of r.renewed ++ fs)
    pub reencoded : (L : Map) → IsBefore g L N T X C is → AreReencoded g N first js × CountIs (IsAffected g L T X) first many
    pub counted : encodings_of r ≡ raised_count 0 many

pub so_far_none : {g : Margin} {N : Map} {T X : List ℕ} {C : List ChangedLine} {before is : List Item} (r : Renewal) →
    r.fresh.items ≡ [] → r.renewed.entries.items ≡ [] → r.renewed.work ≡ no_work →
    SoFar g N T X C before is [] r
so_far_none r fresh entries work = record {
  js = [];
  many = 0;
  put = λ ys. ap (λ (es : List (ℕ × NamedPath)). all_put ys (puts_of es)) fresh;
  named = refl;
  reported = λ ks fs k. rw (ap (map entry_of) entries) k;
  reencoded = λ L q. (refl, refl);
  counted = rw work refl;
}

-- for the whole list
pub whole : {g : Margin} {N : Map} {t : ChangeSet} {before is : List Item} (r : Renewal) → ((L : Map) × WasBefore g L N t is) →
    SoFar g N (nodes_of t) (lines_of t) (changed_of t) before is is r →
    IsRenewal g N t before is (after_renewal r is) r.renewed
whole {g} {N} {t} {before} {is} r b h =
    let put = rw (append-nil is, append-nil h.js) at (h.put []) in
    rw put (record {
      reencoded = (h.reencoded b.0 b.1).0;
      named = h.named;
      reported = rw (append-nil h.js, append-nil (entries_of r.renewed)) at (h.reported [] [] refl);
      counted = λ L q. (h.many, (h.reencoded L q).1, h.counted);
    })

module _ {g : Margin} {N : Map} (n : IsMap N) {T X : List ℕ} {C : List ChangedLine} {before is : List Item}
    (follows : Follows before is) (position : ℕ) (i : Item) (at : slice_get is position ≡ Some i) where
  -- with the item j, which is counted or not, after what was put
  grown : (r s : Renewal) (j : Item) (A : Answer) (u : ℕ) (h : SoFar g N T X C before is (take position is) r) →
      ((ys : List Item) → all_put (take position is ++ i ∷ ys) (results_at s) ≡ h.js ++ j ∷ ys) →
      named_of j ≡ named_of i → answer j ≡ Some A →
      ReportsIfOther before j.name A (entries_of r.renewed) (entries_of s.renewed) →
      ((L : Map) → IsBefore g L N T X C is → IsReencoded g N i j × CountIs (IsAffected g L T X) (i ∷ []) u) →
      encodings_of s ≡ raised_count (encodings_of r) u → SoFar g N T X C before is (take (position + 1) is) s
  grown r s j A u h puts same is_A returned one counted = rw (take_more_at is position i at) (record {
    js = h.js ++ j ∷ [];
    many = h.many + u;
    put = λ ys. rw (append_assoc (take position is) (i ∷ []) ys, append_assoc h.js (j ∷ []) ys) (puts ys);
    named = map-append named_of h.js (j ∷ []) ∙ ap (λ (xs : List Named). xs ++ named_of j ∷ []) h.named
        ∙ ap (λ (x : Named). all_named (take position is) ++ x ∷ []) same
        ∙ sym (map-append named_of (take position is) (i ∷ []));
    reported = λ ks fs k. rw (append_assoc h.js (j ∷ []) ks) (elim returned [
      | inl e ↦ rw e.1 (h.reported (j ∷ ks) fs (A, fs, is_A, k, inl (e.0, refl)))
      | inr e ↦ rw (e.1, append_assoc (entries_of r.renewed) (entry j.name A ∷ []) fs)
          (h.reported (j ∷ ks) (entry j.name A ∷ fs) (A, fs, is_A, k, inr (e.0, refl)))
    ]);
    reencoded = λ L q. (
      AreReencoded-push g N (take position is) h.js i j (h.reencoded L q).0 (one L q).0,
      count_both (IsAffected g L T X) (take position is) (i ∷ []) h.many u (h.reencoded L q).1 (one L q).1,
    );
    counted = let before = h.counted in omega (arith, before, counted);
  })

  -- with the same item, built again
  retained : (r s : Renewal) (m : Results) (u : ℕ) → i.results ≡ Some m →
      SoFar g N T X C before is (take position is) r → results_at s ≡ results_at r →
      entries_of s.renewed ≡ entries_of r.renewed →
      ((L : Map) → IsBefore g L N T X C is → IsEncodingOf g N i.path m × CountIs (IsAffected g L T X) (i ∷ []) u) →
      encodings_of s ≡ raised_count (encodings_of r) u → SoFar g N T X C before is (take (position + 1) is) s
  retained r s m u some h puts entries one counted =
      let is_A : answer i ≡ Some m.answer = ap (option_map (λ (k : Results). k.answer)) some in
      let told = at_position (Follows before) (λ j. (j.results ≡ None) ⊎ (answer_in before j.name ≡ answer j)) (λ x xs f. f) is
      position i follows at in
      let answered : answer_in before i.name ≡ Some m.answer = grind (arith, told, some, is_A) in
      grown r s i m.answer u h (λ ys. rw puts (h.put (i ∷ ys))) refl is_A (inl (answered, entries))
      (λ L q. ((m, (one L q).0, (λ k. record { name = i.name; path = i.path; results = some k })), (one L q).1)) counted

  -- a path that is not affected
  pub so_far_left : {r : Renewal} → SoFar g N T X C before is (take position is) r → ToSkip N T X i.results i.path →
      SoFar g N T X C before is (take (position + 1) is) r
  so_far_left {r} h f = retained r r f.0 0 f.1 h refl refl
      (λ L q. (stays_unless n q position i at f.1 f.2, inr ((λ o. f.2 (touched_by n q position i at f.1 o)), refl)))
      (omega arith)

  pub so_far_step : (a : Action) {r s : Renewal} → SoFar g N T X C before is (take position is) r →
      IsActionFor N T X C i.results i.path a → IsStep g N before i position a r s →
      SoFar g N T X C before is (take (position + 1) is) s
  so_far_step Skip {r} {s} h f same = rw same (so_far_left h f)
  so_far_step Retain {r} {s} h f step = retained r s f.0 1 f.1 h step.0 step.1
      (λ L q. (stays_retained n q position i at f.1 f.3, inl (affected_by n q position i at f.1 f.2, (0, refl, refl))))
      step.2
  so_far_step (Encode ks) {r} {s} h f step =
      let m : Results = step.0 in
      grown r s (with_results i m) m.answer 1 h
      (λ ys. rw (
        step.2,
        all_put-push,
        put_behind is position i ys i.path (Some m) (omega (arith, slice_get_within is position i at)),
      )
      (h.put (with_results i m ∷ ys)))
      refl refl step.3
      (λ L q. ((m, step.1, refl), inl (named_affected n q position i at f.0, (0, refl, refl)))) step.4

-- ---- from one candidate to the next

-- as far as the first k candidates have to do with it
abbrev pub Renewing : Margin → Map → ChangeSet → List Item → List Item → List ℕ → Renewal → ℕ → Type 0
Renewing g N t before is found r k =
    Walked is found (λ p. SoFar g N (nodes_of t) (lines_of t) (changed_of t) before is (take p is) r) k

module _ {g : Margin} {N : Map} (n : IsMap N) (t : ChangeSet) {before is : List Item} (found : List ℕ)
    (follows : Follows before is) (covers : Covers N (nodes_of t) (lines_of t) is found) (r : Renewal) where
  -- paths that are no candidates are unchanged
  pub unaffected : (p : ℕ) (i : Item) → slice_get is p ≡ Some i → has found p ≡ false →
      SoFar g N (nodes_of t) (lines_of t) (changed_of t) before is (take p is) r →
      SoFar g N (nodes_of t) (lines_of t) (changed_of t) before is (take (p + 1) is) r
  unaffected p i at free h = so_far_left n follows p i at h (covers p i at free)

  -- past the last candidate
  pub all_renewed : ((L : Map) × WasBefore g L N t is) → (k : ℕ) → length found ≤ k → Renewing g N t before is found r k →
      IsRenewal g N t before is (after_renewal r is) r.renewed
  all_renewed was k end h = whole {t = t} r was (rw (take_all (length is) is (omega arith)) at (walked_all end h))
