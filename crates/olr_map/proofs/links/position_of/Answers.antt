use Rattle.olr_map.proofs.Common.{arith, ◌≡◌, ◌∙◌, ◌<◌, ◌≤◌, ◌-◌, ℕ, true, length, refl, sym, ap, Ordering, Less}
use Rattle.olr_map.proofs.Common.{is_lt, slice_index_or, get_or_read_under}
use Rattle.std.specs.Ordering.{nat_cmp, ordering_index}
use Rattle.olr_map.proofs.links.position_of.Goals as goal

-- what is not behind an answer `Less` is `Less`
less_too : (o p : Ordering) → is_lt p ≡ true → ordering_index o ≤ ordering_index p → o ≡ Less
less_too Less p lt le = refl
less_too o Less lt le = absurd (omega arith)
less_too o p lt le = absurd cc

pub returns-then-lt-clause-position : goal.returns-then-lt-clause-position
returns-then-lt-clause-position c =
    let xs = c.args.lines.now in
    let some : 0 < length xs = c.if-count-gt0.true in
    λ rising. (
      (λ k d low high.
          let last = get_or_read_under xs (length xs - 1) (length xs) c.index-lines-count.result d c.index-lines-count.is
          (omega arith) refl in
          less_too (nat_cmp (slice_index_or xs k d) c.args.id) (nat_cmp (slice_index_or xs (length xs - 1) d) c.args.id)
          (sym (ap (λ (y : ℕ). is_lt (nat_cmp y c.args.id)) last) ∙ sym c.lt.ensures ∙ c.if-lt.true)
          (rising k (length xs - 1) d (omega arith) (omega arith))),
      (λ k d low high. absurd (omega arith)),
    )
