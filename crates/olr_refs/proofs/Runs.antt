-- A run of degree-two nodes that leads out from some lines, extended by one line at a time. Each line leads on from the
-- one before it, which determines it, and is in the run already only if it is one of the lines.
use Rattle.olr_refs.proofs.Common.{nat_tests, Bool, both_ways, record_of, last_push, MayFollow, has_first, outermost, IsLongest}
use Rattle.olr_refs.proofs.Common.{◌⊎◌, reverse, far_end, or_parts, StartRun, has_here, has_last, near_end, in_order, Direction}
use Rattle.olr_refs.proofs.Common.{◌≡◌, ◌+◌, true, List, ◌++◌, Some, None, refl, subst, arith, dm_of, last, limit, Along, IsRun}
use Rattle.olr_refs.proofs.Common.{ℕ, false, length, Option, Against, is_some, ne_eqb, or_from, EndRun, LeadsOn, IsTrue, joined}
use Rattle.olr_refs.proofs.Common.{◌<◌, ◌≤◌, not, [], ◌∷◌, map, sym, ap, ◌∙◌, Map, dm, has, ids, ◌≢◌, ⊤, ◌==◌, append_assoc}
use Rattle.olr_refs.proofs.Common.{reverse-append, dm_of-append, ResolvedLine, same_start_run, same_end_run, MatchOption}
use Rattle.olr_refs.proofs.Common.{list_any-IsPermutation, reverse-reverse, list_any-append, IsPermutation-reverse, map-append}
use Rattle.olr_refs.proofs.Common.{has_line, IsResolved, records_of, AreRecords, LiesBeyond, MayPrecede, append-nil}
use Rattle.olr_spec.proofs.RunMoves.{EndRun-push}
use Rattle.olr_spec.proofs.DecideLemmas.{last_of_list}

-- ---- the line beyond a line

module _ (M : Map) where
  -- a line doesn't lead on from itself
  another : (d : Direction) (z x : ℕ) → LeadsOn M d z x → z ≢ x
  another d z x p is = p.onward (ap (far_end M d) (sym is) ∙ sym p.joins ∙ ap (near_end M d) (sym is))

  not_it : (d : Direction) (z x : ℕ) → LeadsOn M d z x → has (z ∷ []) x ≡ false
  not_it d z x p = or_from _ _ (ne_eqb z x (another d z x p)) refl

  pub one_on : (d : Direction) (z x y : ℕ) → IsTrue (has_line M z) → LeadsOn M d z x → LeadsOn M d z y → x ≡ y
  one_on Along z x y k p q =
      let run : (v : ℕ) → LeadsOn M Along z v → MayFollow M (z ∷ []) v = λ v r. grind (arith, not_it) in
      let same : x ∷ [] ≡ y ∷ [] = same_end_run M (z ∷ []) _ _ k (run x p, tt) (run y q, tt) refl in cc
  one_on Against z x y k p q =
      let run : (v : ℕ) → LeadsOn M Against z v → MayPrecede M v (z ∷ []) = λ v r. grind (arith, not_it) in
      let same : x ∷ [] ≡ y ∷ [] = same_start_run M (z ∷ []) _ _ k (run x p, tt) (run y q, tt) refl in cc

  -- and seen from that line
  one_from : (d : Direction) (y z x : ℕ) → IsTrue (has_line M y) → IsTrue (has_line M z) → LeadsOn M d y x →
      LeadsOn M d z x → y ≡ z
  one_from Along y z x j k p q = grind (arith, one_on Against x y z p.known (record { known = j; joins = sym p.joins; through = rw (← p.joins) p.through; onward = λ is. p.onward (sym is) }))
  one_from Against y z x j k p q = grind (arith, one_on Along x y z p.known)

-- ---- runs, from the outermost line inwards

-- the outermost of the lines ls and the run c
abbrev pub tip : Direction → List ℕ → List ℕ → ℕ
tip d ls [] = outermost d ls
tip d ls (x ∷ c) = x

abbrev pub Chain : Map → Direction → List ℕ → List ℕ → Type 0
Chain M d ls [] = ⊤
Chain M d ls (x ∷ c) = LeadsOn M d (tip d ls c) x × (has ls x ≡ false) × (has c x ≡ false) × Chain M d ls c

has_outermost : (d : Direction) (ls : List ℕ) → 0 < length ls → has ls (outermost d ls) ≡ true
has_outermost v0 ls h = grind (arith, has_last, has_first)

module _ (M : Map) (d : Direction) (ls : List ℕ) (some : 0 < length ls) (known : IsTrue (has_line M (outermost d ls))) where
  pub tip_known : (c : List ℕ) → Chain M d ls c → IsTrue (has_line M (tip d ls c))
  tip_known v0 p = grind arith

  tip_in : (c : List ℕ) → (has ls (tip d ls c) ≡ true) ⊎ (has c (tip d ls c) ≡ true)
  tip_in v0 = grind (arith, has_outermost, has_here)

  back : (front c : List ℕ) → Chain M d ls (front ++ c) → Chain M d ls c
  back [] c p = p
  back (x ∷ front) c p = back front c p.3

  -- what leads on from a line that is not of the run or the lines is not of the run
  beside : (c : List ℕ) (y x : ℕ) → Chain M d ls c → IsTrue (has_line M y) → LeadsOn M d y x → has ls y ≡ false →
      has c y ≡ false → has c x ≡ false
  beside [] y x p k q a b = refl
  beside (w ∷ c) y x p k q a b = grind (arith, nat_tests, one_from, tip_known c p.3, tip_in c, beside c y x p.3 k q a)

  -- what leads on from a run is not among its lines
  pub fresh : (c : List ℕ) (x : ℕ) → Chain M d ls c → LeadsOn M d (tip d ls c) x → has c x ≡ false
  fresh [] x p q = refl
  fresh (y ∷ c) x p q = or_from _ _ (ne_eqb y x (another M d y x q)) (beside c y x p.3 p.0.known q p.1 p.2)

  -- a run from which no line leads on, or none within the limit, is the longest
  pub no_longer : (c : List ℕ) → Chain M d ls c →
      ((x : ℕ) → LeadsOn M d (tip d ls c) x → (has ls x ≡ true) ⊎ (limit < dm_of M c + dm M x)) → (e : List ℕ) →
      Chain M d ls e → dm_of M e ≤ limit → dm_of M e ≤ dm_of M c
  no_longer c p stops e q w = let r = part_of e q w in omega (arith, ap (dm_of M) r.1, dm_of-append M r.0 e)
    where
      one_more : (x : ℕ) (e front : List ℕ) → Chain M d ls (x ∷ e) → dm_of M (x ∷ e) ≤ limit → c ≡ front ++ e →
          (front : List ℕ) × (c ≡ front ++ x ∷ e)
      one_more x e [] q w is = grind (arith, stops, both_ways)
      one_more x e (y ∷ ys) q w is =
          let s = last_of_list y ys in
          let parts : c ≡ s.0 ++ (s.1 ∷ e) = is ∙ ap (λ (zs : List ℕ). zs ++ e) s.2 ∙ append_assoc s.0 (s.1 ∷ []) e in
          let run = back s.0 (s.1 ∷ e) (subst (Chain M d ls) parts p) in
          let same : s.1 ≡ x = one_on M d (tip d ls e) s.1 x (tip_known e q.3) run.0 q.0 in
          (s.0, parts ∙ ap (λ (n : ℕ). s.0 ++ (n ∷ e)) same)

      part_of : (e : List ℕ) → Chain M d ls e → dm_of M e ≤ limit → (front : List ℕ) × (c ≡ front ++ e)
      part_of [] q w = (c, sym (append-nil c))
      part_of (x ∷ e) q w = let r = part_of e q.3 (omega arith) in one_more x e r.0 q w r.1

-- ---- in the order of travel

pushed : {X : Type 0} (x : X) (c : List X) → reverse (x ∷ c) ≡ reverse c ++ x ∷ []
pushed x c = reverse-append (x ∷ []) c

has-reverse : (c : List ℕ) (x : ℕ) → has (reverse c) x ≡ has c x
has-reverse c x = sym (list_any-IsPermutation (λ y. y == x) c (reverse c) (IsPermutation-reverse c))

dm_of-reverse : (M : Map) (c : List ℕ) → dm_of M (reverse c) ≡ dm_of M c
dm_of-reverse M [] = refl
dm_of-reverse M (x ∷ c) = grind (arith, pushed, dm_of-append, dm_of-reverse M c)

map-reverse : {X Y : Type 0} (f : X → Y) (xs : List X) → map f (reverse xs) ≡ reverse (map f xs)
map-reverse f [] = refl
map-reverse {X} {Y} f (x ∷ xs) = grind (arith, pushed, map-append, map-reverse f xs)

ids-in_order : (d : Direction) (rs : List ResolvedLine) → ids (in_order d rs) ≡ in_order d (ids rs)
ids-in_order v0 rs = grind (arith, map-reverse)

records-in_order : (M : Map) (slot : ℕ → ℕ) (d : Direction) (rs : List ResolvedLine) → AreRecords M slot rs → AreRecords M slot (in_order d rs)
records-in_order M slot Along rs are = grind (arith, are, map-reverse, record_of, ids, records_of, ids-in_order)
records-in_order M slot Against rs are = are

order_none : (d : Direction) → ◌≡◌ {A = List ResolvedLine} (in_order d []) []
order_none v0 = grind arith

dm_of-in_order : (M : Map) (d : Direction) (c : List ℕ) → dm_of M (in_order d c) ≡ dm_of M c
dm_of-in_order M v1 c = grind (arith, dm_of-reverse)

tip_is : (d : Direction) (ls c : List ℕ) → outermost d (joined d ls (in_order d c)) ≡ tip d ls c
tip_is Along ls [] = ap last (append-nil ls)
tip_is Along ls (x ∷ c) = rw (pushed x c, ← append_assoc ls (reverse c) (x ∷ [])) (last_push (ls ++ reverse c) x)
tip_is Against ls c = grind arith

end_parts : (M : Map) (ls c : List ℕ) (x : ℕ) → EndRun M ls (c ++ x ∷ []) → EndRun M ls c × MayFollow M (ls ++ c) x
end_parts M ls [] x p = (tt, coe 1 0 (i. MayFollow M (append-nil ls i) x) p.0)
end_parts M ls (y ∷ c) x p =
    let rest = end_parts M (ls ++ y ∷ []) c x p.1 in
    ((p.0, rest.0), coe 0 1 (i. MayFollow M (append_assoc ls (y ∷ []) c i) x) rest.1)

module _ (M : Map) (ls : List ℕ) where
  start_run : (c : List ℕ) → Chain M Against ls c → StartRun M c ls
  start_run [] p = tt
  start_run (x ∷ c) p = grind (arith, tip_is, list_any-append, or_from, start_run c p.3)

  end_run : (c : List ℕ) → Chain M Along ls c → EndRun M ls (reverse c)
  end_run [] p = tt
  end_run (x ∷ c) p = rw (pushed x c) (EndRun-push M ls (reverse c) x (end_run c p.3)
      (grind (arith, tip_is Along ls c, list_any-append, or_from, has-reverse)))

  of_start : (c : List ℕ) → StartRun M c ls → Chain M Against ls c
  of_start [] p = tt
  of_start (x ∷ c) p = grind (arith, or_parts, list_any-append, tip_is, of_start c p.1)

  of_end : (c : List ℕ) → EndRun M ls (reverse c) → Chain M Along ls c
  of_end [] p = tt
  of_end (x ∷ c) p =
      let run = end_parts M ls (reverse c) x (subst (EndRun M ls) (pushed x c) p) in
      let on = run.1 in
      let rest = of_end c run.0 in
      grind (arith, or_parts, list_any-append, has-reverse, tip_is Along ls c)

longest : (M : Map) (d : Direction) (ls c : List ℕ) → Chain M d ls c → dm_of M c ≤ limit →
    ((e : List ℕ) → Chain M d ls e → dm_of M e ≤ limit → dm_of M e ≤ dm_of M c) → IsLongest M d ls (in_order d c)
longest M Against ls c p w most = grind (arith, start_run, of_start)
longest M Along ls c p w most =
    record {
      run = end_run M ls c p;
      within = omega (arith, dm_of-reverse M c);
      longest = λ e q v.
          let le = most (reverse e) (of_end M ls (reverse e) (subst (EndRun M ls) (sym (reverse-reverse e)) q)) in
          omega (arith, dm_of-reverse M c, dm_of-reverse M e);
    }

-- ---- a run as it is built

-- the lines so far, their length, and what lies beyond them
pub record Grows (M : Map) (slot : ℕ → ℕ) (d : Direction) (ls : List ℕ) (rs : List ResolvedLine) (len : ℕ) (through : Bool)
    (line : Option ℕ) : Type 0
  where
    pub chain : Chain M d ls (ids rs)
    pub are : AreRecords M slot rs
    pub long : len ≡ dm_of M (ids rs)
    pub within : len ≤ limit
    pub beyond : LiesBeyond M d (tip d ls (ids rs)) through line

pub grows_none : (M : Map) (slot : ℕ → ℕ) (d : Direction) (ls : List ℕ) (through : Bool) (line : Option ℕ) →
    LiesBeyond M d (outermost d ls) through line → Grows M slot d ls [] 0 through line
grows_none M slot d ls through line b = record { chain = tt; are = refl; long = refl; within = omega arith; beyond = b }

module _ (M : Map) (slot : ℕ → ℕ) (d : Direction) (ls : List ℕ) (some : 0 < length ls)
    (known : IsTrue (has_line M (outermost d ls))) (rs : List ResolvedLine) (len : ℕ) (through : Bool) (line : Option ℕ)
    (grows : Grows M slot d ls rs len through line)
  where
    pub grows_more : (n : ℕ) (r : ResolvedLine) (passes : Bool) (next : Option ℕ) → n ≡ r.len → line ≡ Some r.id →
        IsResolved M slot r → has ls r.id ≡ false → len + r.len ≤ limit → LiesBeyond M d r.id passes next →
        Grows M slot d ls (r ∷ rs) (len + n) passes next
    grows_more n r passes next added is record_is off near b = grind (arith, fresh)

    pub finished : (used : List ℕ) → ((x : ℕ) → has used x ≡ has ls x) →
        MatchOption line ⊤ (λ x. (has used x ≡ true) ⊎ (limit < len + dm M x)) →
        IsRun M slot d ls (in_order d rs) len (not through)
    finished used same none =
        record {
          longest = subst (IsLongest M d ls) (sym (ids-in_order d rs)) (longest M d ls (ids rs) grows.chain (omega arith)
              (no_longer M d ls some known (ids rs) grows.chain (stops line grows.beyond.next none)));
          are = records-in_order M slot d rs grows.are;
          long = rw (ids-in_order d rs, dm_of-in_order M d (ids rs)) grows.long;
          leads = rw (ids-in_order d rs, tip_is d ls (ids rs)) (ap not grows.beyond.node);
        }
      where
        stops : (line : Option ℕ) → MatchOption line ((x : ℕ) → ¬ LeadsOn M d (tip d ls (ids rs)) x)
            (LeadsOn M d (tip d ls (ids rs))) → MatchOption line ⊤ (λ x. (has used x ≡ true) ⊎ (limit < len + dm M x)) →
            (x : ℕ) → LeadsOn M d (tip d ls (ids rs)) x → (has ls x ≡ true) ⊎ (limit < dm_of M (ids rs) + dm M x)
        stops None next off x p = absurd (next x p)
        stops (Some y) next off x p =
            let is = one_on M d (tip d ls (ids rs)) y x (tip_known M d ls some known (ids rs) grows.chain) next p in
            grind (arith, grows.long, same y)

-- if no line leads on, no run does
pub none_beyond : (M : Map) (slot : ℕ → ℕ) (d : Direction) (ls : List ℕ) → 0 < length ls → IsTrue (has_line M (outermost d ls)) →
    (through : Bool) (line : Option ℕ) → LiesBeyond M d (outermost d ls) through line → is_some line ≡ false →
    IsRun M slot d ls [] 0 (not through)
none_beyond M slot d ls some known through None b none =
    subst (λ (rs : List ResolvedLine). IsRun M slot d ls rs 0 (not through)) (order_none d)
    (finished M slot d ls some known [] 0 through None (grows_none M slot d ls through None b) ls (λ x. refl) tt)
none_beyond M slot d ls some known through (Some y) b none = absurd cc
