use Rattle.olr_ambiguity.proofs.Common.{arith, held, ints, nat_abs, subst, sym, pos, w64, ℤ, ◌+ℤ◌, ◌-ℤ◌, ◌≤◌, ◌≤ℤ◌}
use Rattle.olr_ambiguity.proofs.Windows.{held_minus, held_plus}
use Rattle.olr_ambiguity.proofs.grid.around.Goals as goal

pub returns-clause-around : goal.returns-clause-around
returns-clause-around c = λ d small near.
    let z = c.args.z in
    let n = c.args.reach in
    let down : (z -ℤ pos n) ≤ℤ d = omega (arith, ints, near) in
    let up : d ≤ℤ (z +ℤ pos n) = omega (arith, ints, near) in
    let low : nat_abs d ≤ nat_abs (held w64 c.args.low) = omega (arith, ints, small, c.requires.low) in
    let first = c.clamped.ensures.greatest d low (subst (λ (y : ℤ). y ≤ℤ d) (sym (held_minus z n c.requires.z c.requires.reach)) down) in
    let last = c.clamped-2.ensures.least d low (subst (λ (y : ℤ). d ≤ℤ y) (sym (held_plus z n c.requires.z c.requires.reach)) up) in
    (omega (arith, ints, first, c.clamped.ensures.within, c.requires.low), omega (arith, ints, last, c.clamped-2.ensures.within, c.requires.low))
