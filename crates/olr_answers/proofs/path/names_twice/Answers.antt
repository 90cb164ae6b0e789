use Rattle.std.proofs.Common.{◌≡◌, ◌<◌, ℕ, Bool, ◌-◌, List, length, get_or, eqb, sym, ◌∙◌, arith}
use Rattle.std.proofs.lemmas.Bool.{eqb-true}
use Rattle.std.proofs.lemmas.List.{get_or_read}
use Rattle.olr_answers.proofs.Distinct.{ascending_once, equal_twice, ascends_more}
use Rattle.olr_answers.proofs.path.names_twice.Goals as goal

-- the neighbours that are compared
compared : (xs : List ℕ) (i j a b : ℕ) (r : Bool) → i < length xs → j < length xs → a ≡ get_or xs i a →
    b ≡ get_or xs j b → r ≡ eqb a b → eqb (get_or xs i 0) (get_or xs j 0) ≡ r
compared xs i j a b r p q e f is = rw (← get_or_read xs i a p e 0, ← get_or_read xs j b q f 0) (sym is)

pub returns-then-eq : goal.returns-then-eq
returns-then-eq c =
    let same =
    compared c.sort_unstable.new.self.items (c.loop-i.i - 1) c.loop-i.i _ _ _ (omega arith) (omega arith) c.index.ensures
    c.index-in-loop-i.ensures c.eq.ensures in
    equal_twice c.args.lines.now _ (rw c.in_ok-sorted.ensures.items at c.sort_unstable.ensures.permutation) _ c.loop-i.i
    (omega arith) (omega arith) (eqb-true _ _ (same ∙ c.if-eq.true))

pub loop-i-preserved : goal.loop-i-preserved
loop-i-preserved c =
    let differ =
    compared c.sort_unstable.new.self.items (c.loop-i.i - 1) c.loop-i.i _ _ _ (omega arith) (omega arith) c.index.ensures
    c.index-in-loop-i.ensures c.eq.ensures in
    ascends_more _ c.sort_unstable.ensures.sorted (c.loop-i.i - 1) _ (omega arith) (omega arith)
    (differ ∙ c.if-eq.false) c.loop-i.invariant

pub returns : goal.returns
returns c =
    ascending_once c.args.lines.now _ (rw c.in_ok-sorted.ensures.items at c.sort_unstable.ensures.permutation)
    (λ k h. c.loop-i.invariant k (omega arith))
