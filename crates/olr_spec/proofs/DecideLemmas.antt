-- Each definition is decidable, so each path has an answer.
use Rattle.olr_spec.proofs.Common.{Margin, FollowWith, path_fault, NoNextWith, LongestEnd, slice_index, MatchOption, ℕ_discrete}
use Rattle.olr_spec.proofs.Common.{from_start, lines_where, taken_start, CoveredWith, LongestStart, EncodingWith, CandidateWith}
use Rattle.olr_spec.proofs.Common.{Bool-discrete, ◌⊎◌, UniqueShortest, extended_path, ValidCandidateWith, answer_by_points_with}
use Rattle.olr_spec.proofs.Common.{counted, IsRoute, is_path, passing, node_at, stretch, To_valid, coord_at, Greatest, NextWith}
use Rattle.olr_spec.proofs.Common.{cases_lt, cases_eq, has_line, true, MayFollow, MayPrecede, To_passing, AnswerLaws, RouteLaws}
use Rattle.olr_spec.proofs.Common.{inl, ◌++◌, None, refl, Path, last, zero, arith, IsMap, dm_of, inr, List, first, Tried, LawOf}
use Rattle.olr_spec.proofs.Common.{limit, fit16, start, false, length, IsTrue, dec_le, Answer, Refused, dec_lt, map_dec, To_end}
use Rattle.olr_spec.proofs.Common.{ap, ◌≡◌, ℕ, suc, ◌+◌, ◌∷◌, ◌<◌, ◌≤◌, [], ◌≢◌, Map, end, dm, has, min, ◌-◌, sym, ◌∙◌}
use Rattle.olr_spec.proofs.Facts.{dec_same, positive, Each, Each-nil, AreRuns, end_runs, all_first, all_last, by_fault}
use Rattle.olr_spec.proofs.Facts.{counted_known, counted_least, dm_of-append, Known, sound_lines, path_nonempty, Next-candidate}
use Rattle.olr_spec.proofs.Facts.{Each-cons, Each-head, Each-tail, no_longer, start_runs, last_known, EndRun-push, has_number}

-- ---- decidable propositions

pub dec_and : {A B : Type 0} → Dec A → Dec B → Dec (A × B)
dec_and d e = grind arith

dec_not : {A : Type 0} → Dec A → Dec (¬ A)
dec_not d = grind arith

-- for each number of a list
dec_each : (Q : ℕ → Type 0) → ((x : ℕ) → Dec (Q x)) → (xs : List ℕ) → Dec (Each Q xs)
dec_each Q d [] = yes (Each-nil Q)
dec_each Q d (x ∷ xs) = grind (arith, d, dec_each Q d xs, Each-cons, Each-head, Each-tail)

-- for each list of at most n of these numbers
abbrev AllLists : List ℕ → ℕ → (List ℕ → Type 0) → Type 0
AllLists ks n Q = (w : List ℕ) → Each (λ x. has ks x ≡ true) w → length w ≤ n → Q w

dec_lists : (ks : List ℕ) (n : ℕ) (Q : List ℕ → Type 0) → ((w : List ℕ) → Dec (Q w)) → Dec (AllLists ks n Q)
dec_lists ks zero Q d = map_dec (λ p. elim [ [] ↦ λ e h. p | x ∷ w ↦ λ e h. absurd (omega arith) ])
    (λ h. h [] (Each-nil (λ x. has ks x ≡ true)) (omega arith)) (d [])
dec_lists ks (suc n) Q d =
    let In : ℕ → Type 0 = λ x. has ks x ≡ true in
    let Rest : ℕ → Type 0 = λ k. AllLists ks n (λ w. Q (k ∷ w)) in
    map_dec (λ (p : Q [] × Each Rest ks). elim [
      | [] ↦ λ e h. p.0
      | k ∷ w ↦ λ e h. p.1 k (Each-head In k w e) w (Each-tail In k w e) (omega arith)
    ])
    (λ h. (h [] (Each-nil In) (omega arith), (λ k i w e l. h (k ∷ w) (Each-cons In k w i e) (omega arith))))
    (dec_and (d []) (dec_each Rest (λ k. dec_lists ks n (λ w. Q (k ∷ w)) (λ w. d (k ∷ w))) ks))

-- some number of the list, or none
some_of : (Q : ℕ → Type 0) → ((x : ℕ) → Dec (Q x)) → (xs : List ℕ) → ((x : ℕ) × Q x) ⊎ Each (λ x. ¬ Q x) xs
some_of Q d [] = inr (Each-nil (λ x. ¬ Q x))
some_of Q d (x ∷ xs) = grind (arith, d x, some_of Q d xs, Each-cons)

-- ---- routes

dec_IsRoute : (M : Map) (s t : ℕ) (xs : List ℕ) → Dec (IsRoute M s t xs)
dec_IsRoute M s t [] = ℕ_discrete s t
dec_IsRoute M s t (x ∷ xs) = grind (arith, Bool-discrete, ℕ_discrete, dec_IsRoute M (end M x) t xs)

-- the numbers of all lines
abbrev numbers : Map → List ℕ
numbers M = lines_where M (λ l. true)

route_numbers : (M : Map) (s t : ℕ) (xs : List ℕ) → IsRoute M s t xs → Each (λ x. has (numbers M) x ≡ true) xs
route_numbers M s t [] w = grind (arith, Each-nil)
route_numbers M s t (x ∷ xs) w = grind (arith, route_numbers M (end M x) t xs w.2, Each-cons, has_number)

-- each line has a length
abbrev AllPositive : Map → Type 0
AllPositive M = (x : ℕ) → IsTrue (has_line M x) → 0 < dm M x

route_length : (M : Map) → AllPositive M → (s t : ℕ) (xs : List ℕ) → IsRoute M s t xs → length xs ≤ dm_of M xs
route_length M m s t [] w = omega arith
route_length M m s t (x ∷ xs) w = omega (arith, m x w.0, route_length M m (end M x) t xs w.2)

pub one_unique : LawOf (λ (l : RouteLaws). l.one_unique)
one_unique M s t xs ys p q =
    let cases = dec_same xs ys in grind (arith, cases)

dec_Unique : (M : Map) → AllPositive M → (s t : ℕ) (xs : List ℕ) → Dec (UniqueShortest M s t xs)
dec_Unique M m s t xs =
    let Clear : List ℕ → Type 0 = λ w. ¬ (IsRoute M s t w × ((w ≢ xs) × (dm_of M w ≤ dm_of M xs))) in
    map_dec (λ p. record {
      route = p.0;
      others = λ ys w ne.
          let near = p.1 ys (route_numbers M s t ys w) in grind (arith, near, w, ne, cases_lt, route_length M m s t ys w);
    })
    (λ o. (o.route, λ w e h p. absurd (omega (arith, o.others w p.0 p.1.0))))
    (dec_and (dec_IsRoute M s t xs) (dec_lists (numbers M) (dm_of M xs) Clear
    (λ w. dec_not (dec_and (dec_IsRoute M s t w)
    (dec_and (dec_not (dec_same w xs)) (dec_le (dm_of M w) (dm_of M xs)))))))

-- ---- LRPs

pub dec_Covered : (g : Margin) (M : Map) → IsMap M → (ls : List ℕ) (i j : ℕ) → Dec (CoveredWith g M ls i j)
dec_Covered g M m ls i j =
    let k = min j (length ls - 1) in
    let xs = stretch ls (i + 1) k in
    let longer : AllPositive (counted g M xs) = λ x h. let known = sym (counted_known g M xs x) ∙ h in
    omega (arith, positive M m x known, counted_least g M xs x known) in
    grind (arith, dec_lt i k, dec_Unique (counted g M xs) longer (end M (slice_index ls i)) (start M (slice_index ls k)) xs)

dec_Candidate : (g : Margin) (M : Map) → IsMap M → (ls : List ℕ) (i j : ℕ) → Dec (CandidateWith g M ls i j)
dec_Candidate g M m ls i j =
    let near = dec_le (dm_of M (stretch ls i j)) limit in
    let fits = Bool-discrete (fit16 (coord_at M (node_at M ls i)) (coord_at M (node_at M ls j))) true in
    grind (arith, dec_lt i j, dec_le j (length ls), dec_Covered g M m ls i j, near, fits)

dec_Valid : (g : Margin) (M : Map) → IsMap M → (ls : List ℕ) (i j : ℕ) → Dec (ValidCandidateWith g M ls i j)
dec_Valid g M m ls i j = dec_and (dec_Candidate g M m ls i j) (Bool-discrete (passing M (node_at M ls j)) false)

pub greatest_or_none : (Q : ℕ → Type 0) → ((k : ℕ) → Dec (Q k)) → (n : ℕ) → ((k : ℕ) → Q k → k < n) →
    ((j : ℕ) × Greatest Q j) ⊎ ((k : ℕ) → ¬ Q k)
greatest_or_none Q d zero h = inr (λ k q. absurd (omega (arith, h k q)))
greatest_or_none Q d (suc n) h = grind (arith, d n, greatest_or_none Q d n, cases_eq, h)

pub next_or_none : (g : Margin) (M : Map) → IsMap M → (ls : List ℕ) (i : ℕ) → ((j : ℕ) × NextWith g M ls i j) ⊎ NoNextWith g M ls i
next_or_none g M m ls i =
    let valid = greatest_or_none (ValidCandidateWith g M ls i) (dec_Valid g M m ls i) (suc (length ls)) (λ k c. omega arith) in
    let any = greatest_or_none (CandidateWith g M ls i) (dec_Candidate g M m ls i) (suc (length ls)) (λ k c. omega arith) in
    elim (dec_Candidate g M m ls i (length ls)) [
      | yes c ↦ inl (length ls, To_end refl c)
      | no f ↦ elim valid [
        | inl g ↦ inl (g.0, To_valid f g.1)
        | inr none ↦ elim any [ inl g ↦ inl (g.0, To_passing f none g.1) | inr h ↦ inr h ]
      ]
    ]

pub some_follow : (g : Margin) (M : Map) → IsMap M → (ls : List ℕ) (fuel i : ℕ) → length ls ≤ i + fuel → (js : List ℕ) × FollowWith g M ls i js
some_follow g M m ls zero i h = ([], λ j c. absurd (omega arith))
some_follow g M m ls (suc fuel) i h = elim (next_or_none g M m ls i) [
  | inl n ↦
      let c = Next-candidate M ls i n.0 n.1 in
      let r = some_follow g M m ls fuel n.0 (omega arith) in
      (n.0 ∷ r.0, (n.1, r.1))
  | inr none ↦ ([], none)
]

-- ---- runs of degree-two nodes

dec_MayPrecede : (M : Map) (x : ℕ) (ls : List ℕ) → Dec (MayPrecede M x ls)
dec_MayPrecede M x ls = grind (arith, map_dec, dec_and, Bool-discrete, ℕ_discrete, dec_not)

dec_MayFollow : (M : Map) (ls : List ℕ) (x : ℕ) → Dec (MayFollow M ls x)
dec_MayFollow M ls x = grind (arith, map_dec, dec_and, Bool-discrete, ℕ_discrete, dec_not)

-- the last element of a list that isn't empty
pub last_of_list : (x : ℕ) (xs : List ℕ) → (front : List ℕ) × (y : ℕ) × (x ∷ xs ≡ front ++ y ∷ [])
last_of_list x [] = ([], x, refl)
last_of_list x (y ∷ xs) = let r = last_of_list y xs in (x ∷ r.0, r.1, ap (λ (zs : List ℕ). x ∷ zs) r.2)

-- a longest run, from the run c on, if fewer than fuel decimetres are left
module _ (M : Map) (m : IsMap M) (Run : List ℕ → Type 0) (Next : ℕ → List ℕ → Type 0) (runs : AreRuns M Run Next)
    (dec : (x : ℕ) (c : List ℕ) → Dec (Next x c))
    (longer : (x : ℕ) (c : List ℕ) → Run c → Next x c → (d : List ℕ) × Run d × (dm_of M d ≡ dm M x + dm_of M c)) where
  some_run : (fuel : ℕ) (c : List ℕ) → limit < dm_of M c + fuel → Run c → dm_of M c ≤ limit → (d : List ℕ) × Run d
      × (dm_of M d ≤ limit) × ((e : List ℕ) → Run e → dm_of M e ≤ limit → dm_of M e ≤ dm_of M d)
  some_run zero c f p w = absurd (omega arith)
  some_run (suc fuel) c f p w =
      elim (some_of (λ x. Next x c × (dm M x + dm_of M c ≤ limit))
      (λ x. dec_and (dec x c) (dec_le (dm M x + dm_of M c) limit)) (numbers M)) [
        | inl s ↦
            let d = longer s.0 c p s.1.0 in
            some_run fuel d.0 (omega (arith, positive M m s.0 (runs.known s.0 c s.1.0), d.2)) d.1 (omega (arith, d.2, s.1.1))
        | inr none ↦ grind (arith, no_longer, has_number, cases_lt)
      ]

some_start : (M : Map) → IsMap M → (ls : List ℕ) → IsTrue (has_line M (first ls)) → (d : List ℕ) × LongestStart M d ls
some_start M m ls k =
    let r = some_run M m _ _ (start_runs M ls k)
    (λ x c. dec_MayPrecede M x (c ++ ls)) (λ x c p n. (x ∷ c, (n, p), refl)) (suc limit) [] (omega arith) tt (omega arith) in
    (r.0, record { run = r.1; within = r.2; longest = r.3 })

some_end : (M : Map) → IsMap M → (ls : List ℕ) → IsTrue (has_line M (last ls)) → (d : List ℕ) × LongestEnd M ls d
some_end M m ls k =
    let r = some_run M m _ _ (end_runs M ls k)
    (λ x c. dec_MayFollow M (ls ++ c) x)
    (λ x c p n. (c ++ x ∷ [], EndRun-push M ls c x p n, omega (arith, dm_of-append M c (x ∷ [])))) (suc limit) []
    (omega arith) tt (omega arith) in
    (r.0, record { run = r.1; within = r.2; longest = r.3 })

some_tried : (M : Map) → IsMap M → (P : Path) → 0 < length P.lines → IsTrue (has_line M (first P.lines)) →
    IsTrue (has_line M (last P.lines)) → (b : List ℕ) × (a : List ℕ) × Tried M P b a
some_tried M m P n f l =
    let b = some_start M m P.lines f in
    let a = some_end M m (from_start M P b.0) (last_known M (taken_start M b.0 P.lines) P.lines n l) in
    (b.0, a.0, record { before = b.1; after = a.1 })

-- ---- an answer

pub some_encoding : (g : Margin) (M : Map) → IsMap M → (P : Path) → IsTrue (is_path P.lines) → path_fault M P ≡ None → (A : Answer)
    × EncodingWith g M P A
some_encoding g M m P is e =
    let n = path_nonempty P.lines is in
    let known = sound_lines M P e in
    let t = some_tried M m P n (all_first (Known M) P.lines n known) (all_last (Known M) P.lines n known) in
    let E = extended_path M P t.0 t.1 in
    let js = some_follow g M m E.lines (length E.lines) 0 (omega arith) in
    let p : EncodingWith g M P (answer_by_points_with g M E js.0) = grind (arith) in
    (answer_by_points_with g M E js.0, p)

pub some_answer_with : (g : Margin) → LawOf (λ (l : AnswerLaws g). l.some_answer)
some_answer_with g M m P is =
    by_fault M P (λ o. (A : Answer) × MatchOption o (EncodingWith g M P A) (λ r. A ≡ Refused r)) (some_encoding g M m P is)
    (λ r. (Refused r, refl))
