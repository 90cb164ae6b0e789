-- The lines around nodes, and lists that are sorted without duplicates.
use Rattle.olr_renewal.proofs.Common.{◌≡◌, ℕ, ◌+◌, ◌<◌, List, ◌++◌, length, take, get_or, eqb, IsTrue, ◌||◌, Bool, arith}
use Rattle.olr_renewal.proofs.Common.{◌==◌, ◌↔◌, sym, ap, ◌∙◌, eq-eqb, eqb-true, Map, end, has, IsPermutation}
use Rattle.olr_renewal.proofs.Common.{IsStrictlyIncreasing, Option, Some, is_some, dedup, IsSorted, Line}
use Rattle.olr_renewal.proofs.Common.{has_line, start, lines_in, lines_out, no_line, IsLineAround, has_from, in_from, unwrap_or}
use Rattle.olr_renewal.proofs.Common.{list_any-append, list_any_more, Contains-dedup_nat, Contains-from_dedup}
use Rattle.std.specs.Ordering.{nat_cmp}
use Rattle.std.specs.FinMap.{get}
use Rattle.std.proofs.lemmas.Map.Keys.{IsStrictlyIncreasing-dedup}
use Rattle.std.proofs.lemmas.List.Sorted.{Contains-permutation, IsPermutation-sym}
use Rattle.olr_spec.proofs.OrderLemmas.{exactly_in, exactly_out}
use Rattle.olr_spec.proofs.RunLemmas.{entering, leaving}

-- sorted, and each once
pub once_ascends : (sorted once : List ℕ) → IsSorted nat_cmp sorted → once ≡ dedup eqb sorted → IsStrictlyIncreasing once
once_ascends sorted once ordered is = rw is (IsStrictlyIncreasing-dedup sorted ordered)

pub once_has : (ns sorted once : List ℕ) → IsPermutation ns sorted → once ≡ dedup eqb sorted → (v : ℕ) →
    IsTrue (has once v) ↔ IsTrue (has ns v)
once_has ns sorted once moved is v = rw is (
  (λ h. has_from ns v (Contains-permutation sorted ns v (IsPermutation-sym ns sorted moved)
      (Contains-from_dedup eqb sorted v (in_from (dedup eqb sorted) v h)))),
  (λ h. has_from (dedup eqb sorted) v (Contains-dedup_nat sorted v (Contains-permutation ns sorted v moved (in_from ns v h)))),
)

-- of a line: whether it is in a list, and among those that enter and leave a node; it is known, and begins and ends at nodes
-- of a list, or at the node
either_way : (A I O L S E s e : Bool) → IsTrue A ↔ (IsTrue L × IsTrue (S || E)) → IsTrue I ↔ (IsTrue L × IsTrue e) →
    IsTrue O ↔ (IsTrue L × IsTrue s) → IsTrue ((A || I) || O) ↔ (IsTrue L × IsTrue ((S || s) || (E || e)))
either_way A I O L S E s e a i o = grind arith

module _ (M : Map) where
  -- a line of the map with this end at a node
  ends_there : (end_of : Line → ℕ) (v x : ℕ) (l : Line) → get M.lines x ≡ Some l → end_of l ≡ v →
      IsTrue (has_line M x) × IsTrue (v == end_of (unwrap_or (get M.lines x) no_line))
  ends_there end_of v x l is at = (
    ap (λ (o : Option Line). is_some o) is,
    eq-eqb v _ (sym (ap (λ (o : Option Line). end_of (unwrap_or o no_line)) is ∙ at)),
  )

  enters : (v x : ℕ) → IsTrue (has (lines_in M v) x) ↔ (IsTrue (has_line M x) × IsTrue (v == end M x))
  enters v x = (
    (λ h. let l = (exactly_in M v x).0 h in ends_there (λ k. k.to) v x l.0 l.1.0 l.1.1),
    (λ a. entering M v x a.0 (sym (eqb-true v (end M x) a.1))),
  )

  leaves : (v x : ℕ) → IsTrue (has (lines_out M v) x) ↔ (IsTrue (has_line M x) × IsTrue (v == start M x))
  leaves v x = (
    (λ h. let l = (exactly_out M v x).0 h in ends_there (λ k. k.from) v x l.0 l.1.0 l.1.1),
    (λ a. leaving M v x a.0 (sym (eqb-true v (start M x) a.1))),
  )

  module _ (vs : List ℕ) (k v : ℕ) (lt : k < length vs) (at : v ≡ get_or vs k v) where
    more : (y : ℕ) → has (take (k + 1) vs) y ≡ (has (take k vs) y || (v == y))
    more y = list_any_more (λ z. z == y) vs k v lt ∙ ap (λ (n : ℕ). has (take k vs) y || (n == y)) (sym at)

    -- with the lines at one node more
    pub around_more : (xs : List ℕ) (x : ℕ) → IsTrue (has xs x) ↔ IsLineAround M (take k vs) x →
        IsTrue (has ((xs ++ lines_in M v) ++ lines_out M v) x) ↔ IsLineAround M (take (k + 1) vs) x
    around_more xs x h =
        rw (
          list_any-append (λ y. y == x) (xs ++ lines_in M v) (lines_out M v),
          list_any-append (λ y. y == x) xs (lines_in M v),
          more (start M x),
          more (end M x),
        )
        (either_way (has xs x) (has (lines_in M v) x) (has (lines_out M v) x) (has_line M x) (has (take k vs) (start M x))
        (has (take k vs) (end M x)) (v == start M x) (v == end M x) h (enters v x) (leaves v x))
