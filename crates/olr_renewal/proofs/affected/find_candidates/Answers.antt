use Rattle.olr_renewal.proofs.Common.{◌∙◌, ap, arith, option_map, none_of, shown_item, shown_items}
use Rattle.std.proofs.lemmas.List.{nil_from_length}
use Rattle.olr_renewal.proofs.Passing.{past_end}
use Rattle.olr_renewal.proofs.affected.find_candidates.Goals as goal

pub returns-then-is_none : goal.returns-then-is_none
returns-then-is_none g c =
    let shown = c.at.ensures.shown ∙ ap (option_map shown_item) (none_of c.at.result c.if-is_none.ensures) in
    let low = past_end (shown_items c.args.overlaid) 0 shown in
    let none = nil_from_length (shown_items c.args.overlaid) (omega arith) in
    record {
      searched = rw c.new.ensures.items (λ lt. absurd (omega arith));
      ascending = rw c.new.ensures.items (λ i lt. absurd (omega arith));
      covers = rw none (λ k i at. let never : ⊥ = cc (at) in absurd never);
    }

pub returns : goal.returns
returns g c = record {
  searched = λ some. c.in_ok-search_touched.ensures;
  ascending = c.in_ok-positions.ensures.ascending;
  covers = c.in_ok-positions.ensures.covers;
}
