-- Coordinates after relative steps.
use Rattle.olr_binary.proofs.Common.{◌≡◌, ◌+◌, ◌≤◌, ◌+ℤ◌, List, [], ◌∷◌, ◌++◌, length, map, take, nat_le, Some, sym, ap, ◌∙◌}
use Rattle.olr_binary.proofs.Common.{arith, ints, nat_tests, take_all, from_abs24, Middle, Reference, steps_sum, to_z-of_z, w16}
use Rattle.olr_spec.proofs.Common.{◌<◌, ℕ, ℤ, pos, get_or, length-append, map-append, take-map, length-map, take_more}
use Rattle.olr_spec.proofs.Common.{take-append-le, from_rel16, decoded}
use lib.IntN.{+ℤ_assoc}

pub add_none : (z : ℤ) → z +ℤ pos 0 ≡ z
add_none z = omega (arith, ints)

steps_sum-push : (zs : List ℤ) (z : ℤ) → steps_sum (zs ++ z ∷ []) ≡ steps_sum zs +ℤ from_rel16 z
steps_sum-push [] z = omega (arith, ints)
steps_sum-push (y ∷ ys) z = grind (arith, ℤ, +ℤ_assoc, steps_sum-push ys z)

-- one more LRP
pub place-more : (a : ℤ) (f : Middle → ℤ) (ps : List Middle) (i : ℕ) (p : Middle) → i < length ps → p ≡ get_or ps i p
    → a +ℤ steps_sum (map f (take i ps)) +ℤ from_rel16 (f p) ≡ a +ℤ steps_sum (map f (take (i + 1) ps))
place-more a f ps i p within is =
    let more : take (i + 1) ps ≡ take i ps ++ p ∷ [] =
    take_more ps i p within ∙ ap (λ (q : Middle). take i ps ++ q ∷ []) (sym is) in
    let steps : map f (take (i + 1) ps) ≡ map f (take i ps) ++ f p ∷ [] =
    ap (λ (qs : List Middle). map f qs) more ∙ map-append f (take i ps) (p ∷ []) in
    +ℤ_assoc a (steps_sum (map f (take i ps))) (from_rel16 (f p))
    ∙ ap (λ (n : ℤ). a +ℤ n) (sym (ap (λ (zs : List ℤ). steps_sum zs) steps ∙ steps_sum-push (map f (take i ps)) (f p)))

module _ (a : ℤ) (f : Middle → ℤ) (ps : List Middle) (z : ℤ) (k : ℕ) where
  axis-between : k ≤ length ps → a +ℤ steps_sum (take k (map f ps ++ z ∷ [])) ≡ a +ℤ steps_sum (map f (take k ps))
  axis-between within = grind (arith, length-map, take-append-le, take-map, ℤ)

  axis-last : k ≡ length ps + 1 → a +ℤ steps_sum (take k (map f ps ++ z ∷ []))
      ≡ a +ℤ steps_sum (map f ps) +ℤ from_rel16 z
  axis-last last = grind (arith, length-map, take_all, length-append, ℤ, steps_sum-push, +ℤ_assoc)

-- an LRP before the last
pub decoded-between : (r : Reference) (k : ℕ) → k ≤ length r.middle
    → decoded r k ≡ Some (
      from_abs24 r.first.lon +ℤ steps_sum (map (λ m. m.dlon) (take k r.middle)),
      from_abs24 r.first.lat +ℤ steps_sum (map (λ m. m.dlat) (take k r.middle)),
    )
decoded-between r k within = grind (arith, nat_le, nat_tests, axis-between)

-- the last LRP
pub decoded-last : (r : Reference) (k : ℕ) → k ≡ length r.middle + 1
    → decoded r k
    ≡ Some (
      from_abs24 r.first.lon +ℤ steps_sum (map (λ m. m.dlon) r.middle) +ℤ from_rel16 r.last.dlon,
      from_abs24 r.first.lat +ℤ steps_sum (map (λ m. m.dlat) r.middle) +ℤ from_rel16 r.last.dlat,
    )
decoded-last r k last = grind (arith, nat_le, nat_tests, axis-last)

-- what is decoded for each LRP
pub ruleset decoded_laws = (to_z-of_z, take_all, w16, decoded-between, decoded-last)
