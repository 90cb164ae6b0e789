use Rattle.std.proofs.Common.{arith, refl, ◌≡◌, ℕ, ◌+◌, ◌*◌, ◌^◌, ◌<◌, ◌≤◌, length, List, [], ◌∷◌, fold, slice_index_or}
use Rattle.olr_model.specs.Hashing.{number_step}
use Rattle.olr_model.proofs.number_hash.NumberHasherHasher.write.Goals as goal

-- four steps leave nothing of the number before
four_steps : (n a b c d : ℕ) → n < 2 ^ 32 → number_step (number_step (number_step (number_step n a) b) c) d
    ≡ a + b * 256 + c * 65536 + d * 16777216
four_steps n a b c d few = omega arith

of_four : (n : ℕ) (bs : List ℕ) → n < 2 ^ 32 → 4 ≤ length bs → length bs < 5 → fold number_step n bs
    ≡ slice_index_or bs 0 0 + slice_index_or bs 1 0 * 256 + slice_index_or bs 2 0 * 65536 + slice_index_or bs 3 0 * 16777216
of_four n (a ∷ b ∷ c ∷ d ∷ []) few more less = four_steps n a b c d few
of_four n bs few more less = absurd (omega arith)

pub returns-in-len4 : goal.returns-in-len4
returns-in-len4 c =
    let few : c.args.self.now.number < 2 ^ 32 = rw (← c.last_four-number.ensures) c.last_four-number.type_inv in
    let whole = of_four c.args.self.now.number c.args.bytes.now few c.in-len4.len_at_least c.in-len4.len_below in
    rw (whole, c.from_le_bytes-self.ensures) refl
