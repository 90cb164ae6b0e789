-- The margins of the sectors of one quarter determine those of the others.
use Rattle.olr_spec.proofs.Common.{◌≡◌, ℕ, ◌+◌, ◌<◌, ◌/◌, ◌%◌, refl, up_to}
use Rattle.std.specs.Prelude.{slice_index_or}
use Rattle.olr_spec.specs.Directions.{first_after, first_before, margin_start, margin_end}
use Rattle.olr_spec.proofs.SectorLemmas.{has_below, same_at}
use Rattle.olr_bearing.specs.Turned.{nowhere, turned}

pub start_is : (k : ℕ) → k < 32 → turned (k / 8) (slice_index_or first_before (k % 8) nowhere) ≡ margin_start k
start_is k lt = same_at (λ j. turned (j / 8) (slice_index_or first_before (j % 8) nowhere)) margin_start (up_to 32) refl k
    (has_below 32 k lt)

pub end_is : (k : ℕ) → k < 32 → turned ((k + 1) % 32 / 8) (slice_index_or first_after ((k + 1) % 32 % 8) nowhere) ≡ margin_end k
end_is k lt = same_at (λ j. turned ((j + 1) % 32 / 8) (slice_index_or first_after ((j + 1) % 32 % 8) nowhere)) margin_end
    (up_to 32) refl k (has_below 32 k lt)
