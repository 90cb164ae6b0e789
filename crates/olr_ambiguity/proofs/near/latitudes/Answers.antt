use Rattle.olr_ambiguity.proofs.Common.{◌≡◌, ◌∙◌, ap, arith, ints, cases_lt, inl, inr, get_or, get_or_default}
use Rattle.olr_ambiguity.proofs.near.latitudes.Goals as goal

pub loop-window-preserved : goal.loop-window-preserved
loop-window-preserved c = λ k d lt.
    let w = c.widened-bounds.ensures in
    elim (cases_lt k c.loop-window.window-index) [
      | inl before ↦
          let h = c.loop-window.invariant k d before in
          (omega (arith, ints, h, w.least), omega (arith, ints, h, w.greatest))
      | inr last ↦
          let here : c.loop-window.window-index ≡ k = omega (arith, lt, last) in
          let same =
          get_or_default c.args.windows.now c.loop-window.window-index _ d c.loop-window-test.true
          ∙ ap (λ n. get_or c.args.windows.now n d) here in
          rw (← same) (w.least.1, w.greatest.1)
    ]

pub returns : goal.returns
returns c = λ k d lt. c.loop-window.invariant k d (let end = c.loop-window-test.false in omega (arith, lt, end))
