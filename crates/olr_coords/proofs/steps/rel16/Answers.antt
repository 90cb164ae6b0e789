use Rattle.olr_spec.proofs.Common.{◌∙◌, ◌≡◌, ap, w64, FitsSigned, ℤ, Some, None, ◌-ℤ◌, to_z-of_z, fits16, relative}
use Rattle.std.proofs.Common.{if◌then◌else◌}
use Rattle.olr_coords.proofs.StepLemmas.{in_16_bits, difference_fits}
use Rattle.olr_coords.proofs.steps.rel16.Goals as goal

pub returns : goal.returns
returns c =
    let steps_fit : FitsSigned w64 c.relative_steps.result = record { sfits = c.relative_steps.type_inv } in
    let from_fits = c.ranges.from in
    let to_fits = c.ranges.to in
    let difference : FitsSigned w64 (c.args.to -ℤ c.args.from) =
    difference_fits c.args.from c.args.to c.requires.from c.requires.to in
    let steps : c.relative_steps.result ≡ relative c.args.from c.args.to = simp to_z-of_z at c.relative_steps.ensures in
    c.ok.ensures.value ∙ in_16_bits _ _ (simp to_z-of_z at c.try_from.ensures)
    ∙ ap (λ (z : ℤ). if fits16 z then Some z else None) steps
