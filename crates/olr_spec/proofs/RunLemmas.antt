-- From a degree-two node only one line leads on, so a run of such nodes is determined by its length.
use Rattle.olr_spec.proofs.Common.{◌≡◌, ◌≢◌, ℕ, ◌+◌, true, List, ◌∷◌, ◌++◌, map, length, ◌<◌, ◌≤◌, IsTrue, refl, sym, subst}
use Rattle.olr_spec.proofs.Common.{arith, append-nil, append_assoc, [], cases_lt, cases_order, and_parts, cond_both, nat_tests}
use Rattle.olr_spec.proofs.Common.{Map, IsMap, dm, has_line, lines_in, lines_out, start, end, has, line_at, dm_of}
use Rattle.olr_spec.proofs.Common.{passes_between, first, last, MayPrecede, MayFollow, StartRun, EndRun, LongestEnd, Tried}
use Rattle.olr_spec.proofs.Common.{Path, from_start, taken_start, limit, extended_path, RouteLaws, LawOf}
use Rattle.olr_spec.proofs.RouteLemmas.{positive}
use Rattle.olr_spec.proofs.OrderLemmas.{exactly_in, exactly_out}
use Rattle.olr_spec.proofs.AgreeLemmas.{known_record}

-- ---- degree-two nodes

-- of the lines that enter, only one doesn't come from the far end of a given line that leaves
one_way_in : (v : ℕ) (f g : ℕ → ℕ) (ins outs : List ℕ) (x y z : ℕ) → passes_between v (map f ins) (map g outs) ≡ true →
    has ins x ≡ true → has ins y ≡ true → has outs z ≡ true → f x ≢ g z → f y ≢ g z → x ≡ y
one_way_in v f g (a ∷ []) (p ∷ []) x y z h hx hy hz nx ny = grind (arith, nat_tests)
one_way_in v f g (a ∷ b ∷ []) (p ∷ q ∷ []) x y z h hx hy hz nx ny = grind (arith, nat_tests, and_parts)
one_way_in v f g _ _ x y z h hx hy hz nx ny = absurd cc

one_way_out : (v : ℕ) (f g : ℕ → ℕ) (ins outs : List ℕ) (x y z : ℕ) → passes_between v (map f ins) (map g outs) ≡ true →
    has outs x ≡ true → has outs y ≡ true → has ins z ≡ true → g x ≢ f z → g y ≢ f z → x ≡ y
one_way_out v f g (a ∷ []) (p ∷ []) x y z h hx hy hz nx ny = grind (arith, nat_tests)
one_way_out v f g (a ∷ b ∷ []) (p ∷ q ∷ []) x y z h hx hy hz nx ny = grind (arith, nat_tests, and_parts)
one_way_out v f g _ _ x y z h hx hy hz nx ny = absurd cc

pub entering : (M : Map) (v x : ℕ) → IsTrue (has_line M x) → end M x ≡ v → has (lines_in M v) x ≡ true
entering M v x h e = (exactly_in M v x).1 (line_at M x, (known_record M x h, e))

pub leaving : (M : Map) (v x : ℕ) → IsTrue (has_line M x) → start M x ≡ v → has (lines_out M v) x ≡ true
leaving M v x h e = (exactly_out M v x).1 (line_at M x, (known_record M x h, e))

-- ---- runs with the same number of lines

one_precedes : (M : Map) (ls : List ℕ) (x y : ℕ) → IsTrue (has_line M (first ls)) → MayPrecede M x ls →
    MayPrecede M y ls → x ≡ y
one_precedes M ls x y k p q =
    let v = start M (first ls) in
    grind (arith, one_way_in v (start M) (end M) (lines_in M v) (lines_out M v) x y (first ls), entering M v, leaving M v)

one_follows : (M : Map) (ls : List ℕ) (x y : ℕ) → IsTrue (has_line M (last ls)) → MayFollow M ls x → MayFollow M ls y → x ≡ y
one_follows M ls x y k p q =
    let v = end M (last ls) in
    grind (arith, one_way_out v (start M) (end M) (lines_in M v) (lines_out M v) x y (last ls), entering M v, leaving M v)

last_back : (xs : List ℕ) (y : ℕ) (ys : List ℕ) → last (xs ++ y ∷ ys) ≡ last (y ∷ ys)
last_back [] y ys = refl
last_back (x ∷ []) y ys = refl
last_back (x ∷ z ∷ xs) y ys = last_back (z ∷ xs) y ys

pub last_push : (ls : List ℕ) (x : ℕ) → last (ls ++ x ∷ []) ≡ x
last_push ls x = last_back ls x []

pub first_known : (M : Map) (c ls : List ℕ) → StartRun M c ls → IsTrue (has_line M (first ls)) →
    IsTrue (has_line M (first (c ++ ls)))
first_known M [] ls h k = k
first_known M (x ∷ c) ls h k = h.0.known

pub same_start_run : (M : Map) (ls c d : List ℕ) → IsTrue (has_line M (first ls)) → StartRun M c ls →
    StartRun M d ls → length c ≡ length d → c ≡ d
same_start_run M ls [] [] k p q e = refl
same_start_run M ls (x ∷ c) (y ∷ d) k p q e =
    let rest : c ≡ d = same_start_run M ls c d k p.1 q.1 (omega arith) in
    grind (arith, rest, one_precedes M (c ++ ls) x y, first_known M c ls)
same_start_run M ls _ _ k p q e = absurd (omega arith)

pub same_end_run : (M : Map) (ls c d : List ℕ) → IsTrue (has_line M (last ls)) → EndRun M ls c → EndRun M ls d →
    length c ≡ length d → c ≡ d
same_end_run M ls [] [] k p q e = refl
same_end_run M ls (x ∷ c) (y ∷ d) k p q e = grind (arith, same_end_run M (ls ++ x ∷ []) c d, one_follows, last_push)
same_end_run M ls _ _ k p q e = absurd (omega arith)

-- ---- the longest run

-- runs of which any two of the same length are the same, and the lines that may come next to a run, among them that of
-- any longer run
pub record AreRuns (M : Map) (Run : List ℕ → Type 0) (Next : ℕ → List ℕ → Type 0) : Type 0 where
  pub same : (c d : List ℕ) → Run c → Run d → length c ≡ length d → c ≡ d
  pub more : (c d : List ℕ) → Run c → Run d → length c < length d → (x : ℕ) × Next x c × (dm M x + dm_of M c ≤ dm_of M d)
  pub known : (x : ℕ) (c : List ℕ) → Next x c → IsTrue (has_line M x)

module _ (M : Map) (Run : List ℕ → Type 0) (Next : ℕ → List ℕ → Type 0) (r : AreRuns M Run Next) (c d : List ℕ)
    (p : Run c) (q : Run d) where
  -- where no line may come next within the limit
  pub no_longer : ((x : ℕ) → Next x c → limit < dm M x + dm_of M c) → dm_of M d ≤ limit → dm_of M d ≤ dm_of M c
  no_longer none w = grind (arith, cases_order)

  one_run : IsMap M → dm_of M c ≡ dm_of M d → c ≡ d
  one_run m e = grind (arith, cases_order, positive)

start_more : (M : Map) (ls c d : List ℕ) → IsTrue (has_line M (first ls)) → StartRun M c ls → StartRun M d ls →
    length c < length d → (x : ℕ) × MayPrecede M x (c ++ ls) × (dm M x + dm_of M c ≤ dm_of M d)
start_more M ls c [] k p q h = absurd (omega arith)
start_more M ls c (y ∷ d) k p q h = grind (arith, start_more M ls c d k p q.1, cases_lt, same_start_run)

end_more : (M : Map) (ls c d : List ℕ) → IsTrue (has_line M (last ls)) → EndRun M ls c → EndRun M ls d →
    length c < length d → (x : ℕ) × MayFollow M (ls ++ c) x × (dm M x + dm_of M c ≤ dm_of M d)
end_more M ls [] (y ∷ d) k p q h = (y, coe 1 0 (i. MayFollow M (append-nil ls i) y) q.0, omega arith)
end_more M ls (x ∷ c) (y ∷ d) k p q h = grind (arith, end_more M (ls ++ x ∷ []) c d, one_follows, last_push, append_assoc)
end_more M ls _ _ k p q h = absurd (omega arith)

pub start_runs : (M : Map) (ls : List ℕ) → IsTrue (has_line M (first ls)) →
    AreRuns M (λ c. StartRun M c ls) (λ x c. MayPrecede M x (c ++ ls))
start_runs M ls k = grind (arith, same_start_run, start_more)

pub end_runs : (M : Map) (ls : List ℕ) → IsTrue (has_line M (last ls)) →
    AreRuns M (EndRun M ls) (λ x c. MayFollow M (ls ++ c) x)
end_runs M ls k = grind (arith, same_end_run, end_more)

pub one_start : LawOf (λ (l : RouteLaws). l.one_start_run)
one_start M m ls c d k p q =
    one_run M _ _ (start_runs M ls k) c d p.run q.run m
    (omega (arith, p.longest d q.run q.within, q.longest c p.run p.within))

pub one_end : LawOf (λ (l : RouteLaws). l.one_end_run)
one_end M m ls c d k p q = grind (arith, one_run, end_runs)

-- ---- the path with its extended start

pub last_known : (M : Map) (xs ls : List ℕ) → 0 < length ls → IsTrue (has_line M (last ls)) →
    IsTrue (has_line M (last (xs ++ ls)))
last_known M xs [] h k = absurd (omega arith)
last_known M xs (y ∷ ys) h k = subst (λ (n : ℕ). IsTrue (has_line M n)) (sym (last_back xs y ys)) k

pub one_tried : (M : Map) → IsMap M → (P : Path) → 0 < length P.lines → IsTrue (has_line M (first P.lines)) →
    IsTrue (has_line M (last P.lines)) → (b a c d : List ℕ) → Tried M P b a → Tried M P c d → (b ≡ c) × (a ≡ d)
one_tried M m P nonempty f l b a c d p q =
    let e : b ≡ c = one_start M m P.lines b c f p.before q.before in
    let after : LongestEnd M (from_start M P b) d = coe 1 0 (i. LongestEnd M (from_start M P (e i)) d) q.after in
    (e, one_end M m (from_start M P b) a d (last_known M (taken_start M b P.lines) P.lines nonempty l) p.after after)

-- ---- what holds of the extended path

-- what lines that may precede or follow keep
module _ (M : Map) (Q : List ℕ → Type 0) (front : (x : ℕ) (ls : List ℕ) → MayPrecede M x ls → Q ls → Q (x ∷ ls))
    (back : (ls : List ℕ) (x : ℕ) → MayFollow M ls x → Q ls → Q (ls ++ x ∷ [])) where
  start_keeps : (c ls : List ℕ) → StartRun M c ls → Q ls → Q (c ++ ls)
  start_keeps [] ls s q = q
  start_keeps (x ∷ c) ls s q = front x (c ++ ls) s.0 (start_keeps c ls s.1 q)

  end_keeps : (ls c : List ℕ) → EndRun M ls c → Q ls → Q (ls ++ c)
  end_keeps ls [] s q = subst Q (sym (append-nil ls)) q
  end_keeps ls (x ∷ c) s q = subst Q (append_assoc ls (x ∷ []) c) (end_keeps (ls ++ x ∷ []) c s.1 (back ls x s.0 q))

  pub extended_keeps : (P : Path) (b a : List ℕ) → Tried M P b a → Q P.lines → Q (extended_path M P b a).lines
  extended_keeps P b a t q = grind (arith, cond_both, start_keeps, append-nil, end_keeps)
