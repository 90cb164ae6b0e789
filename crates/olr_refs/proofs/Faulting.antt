-- What is known of a path for which none of reasons 1 to 3 holds.
use Rattle.olr_refs.proofs.Common.{first_unknown, slice_index, first_break, no_unknown, nat_tests, AreJoined, drop_more, cases_eq}
use Rattle.olr_refs.proofs.Common.{Each-from, drop_all, length, eq-eqb, false, arith, start, Known, ◌==◌, Bool, true, List, drop}
use Rattle.olr_refs.proofs.Common.{Some, None, Each, ◌∙◌, inl, inr, ◌≡◌, ◌<◌, ◌≤◌, ◌-◌, ◌+◌, not, ◌∷◌, Map, end, ap, ℕ}
use Rattle.olr_spec.proofs.JoinedLemmas as spec

all_known : (M : Map) (ls : List ℕ) → first_unknown M ls ≡ None → Each (Known M) ls
all_known M ls e = Each-from (Known M) ls (no_unknown M ls e)

-- ---- breaks

two_more : (ls : List ℕ) (j : ℕ) → j + 1 < length ls →
    drop j ls ≡ slice_index ls j ∷ slice_index ls (j + 1) ∷ drop (j + 1 + 1) ls
two_more ls j h = grind (arith, drop_more)

pub no_break_left : (M : Map) (ls : List ℕ) (j : ℕ) → length ls ≤ j + 1 → first_break M j (drop j ls) ≡ None
no_break_left M ls j h = elim (cases_eq (length ls) (j + 1)) [
  | inl e ↦ ap (first_break M j) (drop_more ls j 0 (omega arith)
      ∙ ap (λ (ys : List ℕ). slice_index ls j ∷ ys) (drop_all (j + 1) ls (omega arith)))
  | inr ne ↦ ap (first_break M j) (drop_all j ls (omega arith))
]

-- no break at k, by the values that the loop reads
pub no_break_at : (M : Map) (ls : List ℕ) (k a b : ℕ) (r : Bool) → 0 < k → k < length ls →
    a ≡ end M (slice_index ls (k - 1)) → b ≡ start M (slice_index ls k) → r ≡ not (a == b) → r ≡ false
    → first_break M (k - 1) (drop (k - 1) ls) ≡ first_break M k (drop k ls)
no_break_at M ls k a b r p h ea eb er f = grind (arith, nat_tests, two_more, drop_more, eq-eqb)

pub break_at : (M : Map) (ls : List ℕ) (k a b : ℕ) (r : Bool) → 0 < k → k < length ls →
    a ≡ end M (slice_index ls (k - 1)) → b ≡ start M (slice_index ls k) → r ≡ not (a == b) → r ≡ true
    → first_break M (k - 1) (drop (k - 1) ls) ≡ Some (k - 1)
break_at M ls k a b r p h ea eb er t = grind (arith, nat_tests, two_more)

-- ---- joined lines

pub joined_of : (M : Map) (ls : List ℕ) → 0 < length ls → first_unknown M ls ≡ None → first_break M 0 ls ≡ None →
    AreJoined M ls
joined_of M ls h u e = spec.joined_of M 0 ls h (all_known M ls u) e
