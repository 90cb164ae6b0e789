use Rattle.olr_ambiguity.proofs.Common.{◌∙◌, List, ℕ, ap, sym, get_or, has, has-all_nodes, has_from, in_from, Contains-get_or}
use Rattle.std.proofs.lemmas.Result.{IfOk-weaker}
use Rattle.olr_ambiguity.proofs.Cells.{grid_more}
use Rattle.olr_ambiguity.proofs.grid.Grid.new.Goals as goal

pub of-requires : goal.of-requires
of-requires g c = λ k d lt.
    sym (has-all_nodes (g.M.MapRead.map c.args.map.now) (get_or c.args.ids.now k d))
    ∙ ap (λ (xs : List ℕ). has xs (get_or c.args.ids.now k d)) (sym c.requires)
    ∙ has_from c.args.ids.now _ (Contains-get_or c.args.ids.now k d lt)

pub returns : goal.returns
returns g c =
    let M = g.M.MapRead.map c.args.map.now in
    IfOk-weaker c.of.result _ _ (λ grid h. grid_more M _ _ grid.nodes.items h (λ v known.
    in_from c.args.ids.now v (ap (λ (xs : List ℕ). has xs v) c.requires ∙ has-all_nodes M v ∙ known)))
    c.of.ensures
