use Rattle.olr_ambiguity.proofs.Common.{◌+◌, List, ℕ, take, sym, subst, arith, both_ways, is_rival, AreAdded, side_of, place_of}
use Rattle.olr_ambiguity.proofs.Lists.{added_more}
use Rattle.olr_ambiguity.proofs.rivals.add_rivals.Goals.{then-is_rival+in_ok-note, else-is_rival}
use Rattle.olr_ambiguity.proofs.rivals.add_rivals.Goals as goal

pub loop-near-preserved : goal.loop-near-preserved
loop-near-preserved g c =
    let M = g.M.MapRead.map c.args.map.now in
    let o = c.args.own.now in
    let rival = is_rival M (side_of o.side) (place_of o.place) o.id in
    let es = c.args.nodes.now in
    let k = c.loop-near.near-index in
    elim c.if-is_rival.branch [
      | then-is_rival+in_ok-note w ↦
          subst (λ (f : List ℕ). AreAdded rival (take (k + 1) es) c.args.found.now f) (sym w.found-is)
          (added_more rival es k c.near-item.result c.args.found.now c.loop-near.found _ c.loop-near-test.true
          (sym c.near-item.is) c.loop-near.invariant (λ v. grind (arith, w.in_ok-note.ensures.ok v, w.if-is_rival.ensures)))
      | else-is_rival w ↦
          subst (λ (f : List ℕ). AreAdded rival (take (k + 1) es) c.args.found.now f) (sym w.found-is)
          (added_more rival es k c.near-item.result c.args.found.now c.loop-near.found _ c.loop-near-test.true
          (sym c.near-item.is) c.loop-near.invariant (λ v. grind (arith, both_ways, w.if-is_rival.ensures)))
    ]
