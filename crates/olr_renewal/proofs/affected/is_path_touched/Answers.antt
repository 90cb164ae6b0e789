use Rattle.olr_renewal.proofs.Common.{inl, inr, sym, ◌∙◌, true≢false, shared}
use Rattle.olr_renewal.proofs.affected.is_path_touched.Goals as goal

pub returns-else-is_traversed_touched : goal.returns-else-is_traversed_touched
returns-else-is_traversed_touched c =
    let both = shared _ c.lines.result.now in
    rw c.is_line_touched.ensures (
      (λ yes. inr (rw c.lines.ensures.value at (both.0 yes))),
      (λ h. elim h [
        | inl t ↦ absurd (true≢false (sym ((rw c.traversed.ensures at c.is_traversed_touched.ensures).1 t) ∙ c.if-is_traversed_touched.false))
        | inr x ↦ both.1 (rw (← c.lines.ensures.value) at x)
      ]),
    )
