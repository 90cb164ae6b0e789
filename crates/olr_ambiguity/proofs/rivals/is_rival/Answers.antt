use Rattle.olr_ambiguity.proofs.Common.{◌≢◌, ◌==◌, ◌∙◌, List, ℕ, not, sym, ap, eq-eqb, eqb-true, both_ways, leg, list_any}
use Rattle.olr_ambiguity.proofs.Common.{is_farther, usual_slack, is_outdone_for_all, side_of, place_of}
use Rattle.olr_ambiguity.proofs.Lists.{not_itself, by_lines, not_far}
use Rattle.olr_ambiguity.proofs.rivals.is_rival.Goals.{then-eq-via-then-eq, then-eq-via-else-eq+then-is_farther}
use Rattle.olr_ambiguity.proofs.rivals.is_rival.Goals as goal

pub returns-then-eq : goal.returns-then-eq
returns-then-eq g c =
    let M = g.M.MapRead.map c.args.map.now in
    let o = c.args.own.now in
    let own = c.requires.own in
    elim c.then-eq.branch [
      | then-eq-via-then-eq w ↦
          sym (not_itself M (side_of o.side) (place_of o.place) o.id c.args.node (eqb-true _ _ (sym w.if-eq.ensures) ∙ own.node_is))
      | then-eq-via-else-eq+then-is_farther w ↦
          sym (not_far M (side_of o.side) (place_of o.place) o.id c.args.node
          (sym (w.if-is_farther.ensures ∙ (λ i. is_farther usual_slack (place_of o.place) (own.here_is i) (c.requires.place i)))))
    ]

pub returns : goal.returns
returns g c =
    let M = g.M.MapRead.map c.args.map.now in
    let o = c.args.own.now in
    let s = side_of o.side in
    let p = place_of o.place in
    let other : c.args.node ≢ o.node = λ e. both_ways (c.args.node == o.node) (sym c.if-eq.ensures) (eq-eqb _ _ e) in
    c.has_rival.ensures
    ∙ ap (λ (ys : List ℕ). list_any (λ y. not (is_outdone_for_all s p (leg M o.id) (leg M y))) ys) c.lines_on.ensures.value
    ∙ sym (by_lines M s p o.id c.args.node (λ e. other (e ∙ sym c.requires.own.node_is)))
