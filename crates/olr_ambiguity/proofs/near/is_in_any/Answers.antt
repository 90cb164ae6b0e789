use Rattle.olr_ambiguity.proofs.Common.{◌∙◌, ℤ, sym, ap, arith, ints, within, to_z-of_z, w64}
use Rattle.olr_ambiguity.proofs.Windows.{outside}
use Rattle.olr_ambiguity.proofs.near.is_in_any.Goals as goal

pub returns-then-not-is_within : goal.returns-then-not-is_within
returns-then-not-is_within c =
    let lat = sym (to_z-of_z w64 c.lat.result (omega (arith, ints, c.lat.type_inv)) ∙ c.lat.ensures.value) in
    sym (outside c.args.latitudes c.args.windows.now c.args.place c.requires
    (ap (λ (z : ℤ). within c.args.latitudes.0 c.args.latitudes.1 z) lat ∙ sym c.if-not-is_within.ensures))
