use Rattle.olr_spec.proofs.Common.{◌≡◌, ◌∙◌, ◌+◌, ◌/◌, ◌%◌, ℤ, pos, Bool, true, not, ◌&&◌, int_le, ap, sym, w128, Vector, beyond, to_z-of_z, lies_between}
use Rattle.std.proofs.Common.{int_lt}
use Rattle.olr_spec.specs.Directions.{margin_start, margin_end}
use Rattle.olr_bearing.proofs.Quarters.{start_is, end_is}
use Rattle.olr_bearing.proofs.Scaling.{held}
use Rattle.olr_bearing.specs.Turned.{turned}
use Rattle.olr_bearing.proofs.margins.is_beyond.Goals.{then-start-ge0, else-start-ge0}
use Rattle.olr_bearing.proofs.margins.is_beyond.Goals as goal

pub returns-after-start-ge0 : goal.returns-after-start-ge0
returns-after-start-ge0 c =
    let v = c.args.direction in
    let k = c.args.sector in
    let start : held w128 c.beyond-start.result ≡ beyond (margin_start k) v =
    to_z-of_z w128 _ (record { sfits = c.beyond-start.type_inv }) ∙ c.beyond-start.ensures
    ∙ ap (λ (b : Vector). beyond b v) (c.turned.ensures.value ∙ ap (turned (k / 8)) c.first_start.ensures.value ∙ start_is k c.requires.below) in
    let end : held w128 c.beyond-end.result ≡ beyond (margin_end k) v =
    to_z-of_z w128 _ (record { sfits = c.beyond-end.type_inv }) ∙ c.beyond-end.ensures
    ∙ ap (λ (b : Vector). beyond b v) (c.turned-2.ensures.value ∙ ap (turned ((k + 1) % 32 / 8)) c.first_end.ensures.value ∙ end_is k c.requires.below) in
    let inside : c.if-start-ge0.result ≡ lies_between (margin_start k) (margin_end k) v =
    elim c.if-start-ge0.branch [
      | then-start-ge0 w ↦
          let after : int_le (pos 0) (beyond (margin_start k) v) ≡ true = ap (int_le (pos 0)) (sym start) ∙ w.if-start-ge0.true in
          w.result-is ∙ ap (λ (e : ℤ). int_lt e (pos 0)) end
          ∙ ap (λ (b : Bool). b && int_lt (beyond (margin_end k) v) (pos 0)) (sym after)
      | else-start-ge0 w ↦
          let before = ap (int_le (pos 0)) (sym start) ∙ w.if-start-ge0.false in
          w.result-is ∙ w.if-start-ge0.false ∙ ap (λ (b : Bool). b && int_lt (beyond (margin_end k) v) (pos 0)) (sym before)
    ] in
    ap not inside ∙ ap (λ (b : Bool). b && not (lies_between (margin_start k) (margin_end k) v)) c.if-is_direction.ensures
