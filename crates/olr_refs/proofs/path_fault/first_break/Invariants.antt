use Rattle.olr_refs.proofs.Common.{◌≡◌, ◌-◌, ℕ, List, drop, Map, first_break, records_of}
use Rattle.olr_refs.proofs.path_fault.first_break.Given as goal

-- the first break of the remaining lines is the first of all
abbrev pub invariant-loop-k : goal.invariant-loop-k
invariant-loop-k l =
    (M : Map) (slot : ℕ → ℕ) (ls : List ℕ) → l.records ≡ records_of M slot ls →
    first_break M (l.k - 1) (drop (l.k - 1) ls) ≡ first_break M 0 ls
