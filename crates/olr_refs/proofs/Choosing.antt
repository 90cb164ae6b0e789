-- The choice of the next LRP, from the last position that is covered and within the limit back to the first.
use Rattle.olr_refs.proofs.Common.{◌≡◌, ◌<◌, ◌≤◌, ◌-◌, ℕ, Bool, true, false, List, length, sym, subst, arith, Option, Some}
use Rattle.olr_refs.proofs.Common.{MatchOption, cases_lt, cases_order, Coord, Map, coord_at, passing, node_at, fit16}
use Rattle.olr_refs.proofs.Common.{CandidateWith, NextWith, IsReach, option_or, ValidCandidateWith, Greatest, Margin, To_valid}

abbrev pub fit : Map → List ℕ → ℕ → ℕ → Bool
fit M ls i j = fit16 (coord_at M (node_at M ls i)) (coord_at M (node_at M ls j))

-- as it is read: the coordinates and the result
pub fit_read : (M : Map) (ls : List ℕ) (i j : ℕ) (p q : Coord) (b : Bool) → p ≡ coord_at M (node_at M ls i) →
    q ≡ coord_at M (node_at M ls j) → b ≡ fit16 p q → fit M ls i j ≡ b
fit_read M ls i j p q b hp hq hb = simp (hp, hq) at (sym hb)

candidate_of : (g : Margin) (M : Map) (ls : List ℕ) (i r j : ℕ) → IsReach g M ls i r → i < j → j ≤ r → fit M ls i j ≡ true →
    CandidateWith g M ls i j
candidate_of g M ls i r j a h k f = grind arith

-- no candidate from k on, or the greatest of all
abbrev Last : Margin → Map → List ℕ → ℕ → ℕ → Option ℕ → Type 0
Last g M ls i k last = MatchOption last ((j : ℕ) → k ≤ j → ¬ CandidateWith g M ls i j) (λ m. Greatest (CandidateWith g M ls i) m)

-- the positions from k on have been tested, and the end is not a candidate among them
pub record Scanned (g : Margin) (M : Map) (ls : List ℕ) (i r k : ℕ) (last : Option ℕ) : Type 0 where
  pub not_end : ¬ CandidateWith g M ls i (length ls)
  pub no_valid : (j : ℕ) → k ≤ j → ¬ ValidCandidateWith g M ls i j
  pub greatest : Last g M ls i k last

-- one more position, which does not fit
not_fit : (g : Margin) (M : Map) (ls : List ℕ) (i k j : ℕ) → fit M ls i (k - 1) ≡ false → j ≡ k - 1 → ¬ CandidateWith g M ls i j
not_fit g M ls i k j f e c = let t : fit M ls i (k - 1) ≡ true = subst (λ (n : ℕ). fit M ls i n ≡ true) e c.fits in cc

from_one_less : (Q : ℕ → Type 0) (k : ℕ) → 0 < k → ((j : ℕ) → k ≤ j → ¬ Q j) → ((j : ℕ) → j ≡ k - 1 → ¬ Q j) → (j : ℕ) →
    k - 1 ≤ j → ¬ Q j
from_one_less Q k p above here j h q = grind (arith, cases_order)

greatest_here : (Q : ℕ → Type 0) (k : ℕ) → 0 < k → Q (k - 1) → ((j : ℕ) → k ≤ j → ¬ Q j) → Greatest Q (k - 1)
greatest_here Q k p here above = grind (arith, cases_lt)

last_less : (g : Margin) (M : Map) (ls : List ℕ) (i k : ℕ) (last : Option ℕ) → 0 < k → ((j : ℕ) → j ≡ k - 1 → ¬ CandidateWith g M ls i j) →
    Last g M ls i k last → Last g M ls i (k - 1) last
last_less g M ls i k v4 p here l = grind (arith, from_one_less)

pub scan_unfit : (g : Margin) (M : Map) (ls : List ℕ) (i r k : ℕ) (last : Option ℕ) → 0 < k → Scanned g M ls i r k last →
    fit M ls i (k - 1) ≡ false → Scanned g M ls i r (k - 1) last
scan_unfit g M ls i r k last p s f =
    record {
      not_end = s.not_end;
      no_valid = from_one_less (ValidCandidateWith g M ls i) k p s.no_valid (λ j e v. not_fit g M ls i k j f e v.0);
      greatest = last_less g M ls i k last p (λ j e. not_fit g M ls i k j f e) s.greatest;
    }

-- one that fits, at a degree-two node
last_more : (g : Margin) (M : Map) (ls : List ℕ) (i k : ℕ) (last : Option ℕ) → 0 < k → CandidateWith g M ls i (k - 1) →
    Last g M ls i k last → Last g M ls i (k - 1) (option_or last (Some (k - 1)))
last_more g M ls i k v4 p c l = grind (arith, greatest_here)

pub scan_passing : (g : Margin) (M : Map) (ls : List ℕ) (i r k : ℕ) (last : Option ℕ) → 0 < k → i < k - 1 → k - 1 ≤ r →
    IsReach g M ls i r → Scanned g M ls i r k last → fit M ls i (k - 1) ≡ true → passing M (node_at M ls (k - 1)) ≡ true
    → Scanned g M ls i r (k - 1) (option_or last (Some (k - 1)))
scan_passing g M ls i r k last p after upto a s f through = grind (arith, from_one_less, last_more, candidate_of)

-- the result
pub next_valid : (g : Margin) (M : Map) (ls : List ℕ) (i r k : ℕ) (last : Option ℕ) → 0 < k → i < k - 1 → k - 1 ≤ r →
    IsReach g M ls i r → Scanned g M ls i r k last → fit M ls i (k - 1) ≡ true → passing M (node_at M ls (k - 1)) ≡ false
    → NextWith g M ls i (k - 1)
next_valid g M ls i r k last p after upto a s f valid =
    let here : ValidCandidateWith g M ls i (k - 1) = (candidate_of g M ls i r (k - 1) a after upto f, valid) in
    To_valid s.not_end (greatest_here (ValidCandidateWith g M ls i) k p here s.no_valid)
