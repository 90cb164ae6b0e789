use Rattle.olr_ambiguity.proofs.Common.{List, Contains, sym, subst, arith, rules, nat_lt, Placed}
use Rattle.std.proofs.lemmas.List.Sorted.{IsPartitionPoint-from_clause, IsPartitionedBy-ltb}
use Rattle.std.specs.List.Sorted.{IsNonDecreasingBy}
use Rattle.olr_ambiguity.proofs.Cells.{Starts, in_range}
use Rattle.olr_ambiguity.proofs.grid.Grid.within.Goals as goal

pub returns-clause-all : goal.returns-clause-all
returns-clause-all c = λ e h low high.
    let es = c.as_slice-nodes.result.now in
    let up = subst (λ (fs : List Placed). IsNonDecreasingBy (λ f. f.cell) fs) (sym c.as_slice-nodes.ensures.value) c.requires in
    let first : Starts es c.args.first c.partition_point-start.result =
    IsPartitionPoint-from_clause (λ (f : Placed). nat_lt f.cell c.args.first) _ _ c.partition_point-start.ensures.partitioned
    (IsPartitionedBy-ltb (λ (f : Placed). f.cell) es c.args.first up) (λ a r q k. search rules) in
    let end : Starts es c.args.end c.partition_point-end.result =
    IsPartitionPoint-from_clause (λ (f : Placed). nat_lt f.cell c.args.end) _ _ c.partition_point-end.ensures.partitioned
    (IsPartitionedBy-ltb (λ (f : Placed). f.cell) es c.args.end up) (λ a r q k. search rules) in
    in_range es c.args.first c.args.end c.partition_point-start.result c.min.result c.partition_point-end.result first end
    (omega (arith, c.min.ensures)) c.partition_point-end.ensures.bound e
    (subst (λ (fs : List Placed). Contains fs e) (sym c.as_slice-nodes.ensures.value) h) low high
