use Rattle.olr_run.proofs.Common.{cases_Bool, ByState, In_last, Outcome, Outcomes, csv_on_literals, Paths, records_of}
use Rattle.std.proofs.Common.{arith, inl, inr, ◌≡◌, Bool, true, false, List, [], ◌∷◌, ◌++◌, Ok, Err, refl}
use Rattle.olr_commands.specs.State.{start_state, On_map, Make, Syntax, Range, Map_fault, step}
use Rattle.std.specs.Cmp.{nat_cmp_total}
use Rattle.std.specs.FinMap.{insert, empty, get-empty, get-insert}
use Rattle.std.specs.Prelude.{codes}
use Rattle.std.specs.Fmt.{digits}
use Rattle.olr_spec.specs.Map.{no_coord, Node_exists, No_node, Add_node, Drop_node}
use Rattle.olr_commands.specs.Reply.{Records}
use Rattle.olr_laws.specs.CommandRows.{text_of_lines, with_fifty, with_node, input20}
use Rattle.olr_run.specs.Output.{StopsAtFault}
use Rattle.olr_laws.proofs.runs.rows_runs.Goals as goal

add_first : step start_state (Make (On_map (Add_node 1 no_coord))) ≡ Ok with_node
add_first = grind (arith, insert, empty, get-empty)

add_again : step with_node (Make (On_map (Add_node 1 no_coord))) ≡ Err (Map_fault Node_exists)
add_again = grind (arith, insert, empty, nat_cmp_total, get-insert)

drop_none : step with_node (Make (On_map (Drop_node 2))) ≡ Err (Map_fault No_node)
drop_none = grind (arith, insert, empty, nat_cmp_total, get-insert, get-empty)

pub returns-clause-all : goal.returns-clause-all
unfolding csv_on_literals digits
returns-clause-all c =
    record {
      outcomes = Ok (Paths []) ∷ Err (Map_fault Node_exists) ∷ Err (Map_fault No_node) ∷ Err Range ∷ Err Syntax ∷ [];
      each = (
        with_node,
        inl (add_first, refl),
        (
          with_node,
          inl (ByState add_again, refl),
          (with_node, inl (ByState drop_none, refl), (with_node, inl (refl, refl), (with_node, inl (refl, refl), refl))),
        ),
      );
      stops = grind arith;
      all = inl refl;
      wrote = refl;
      ended = refl;
    }

pub returns-clause-margin : goal.returns-clause-margin
unfolding csv_on_literals digits
returns-clause-margin c =
    record {
      outcomes = Ok (Paths []) ∷ Ok (Records 1 (text_of_lines (codes "margin,50,1" ∷ []))) ∷ [];
      each = (with_fifty, inl (refl, refl), (with_fifty, inl (refl, refl), refl));
      stops = grind arith;
      all = inl refl;
      wrote = refl;
      ended = refl;
    }

-- the outcomes of the first two records
abbrev first_two : List Outcome
first_two = Ok (Paths []) ∷ Err (Map_fault Node_exists) ∷ []

each_two : Outcomes start_state (records_of input20) first_two with_node
unfolding csv_on_literals digits
each_two = (with_node, inl (add_first, refl), (with_node, inl (ByState add_again, refl), refl))

stops_two : (stop : Bool) → StopsAtFault stop first_two
stops_two stop = grind (arith, cases_Bool stop)

pub returns-clause-stopped : goal.returns-clause-stopped
unfolding csv_on_literals digits
returns-clause-stopped c =
    record { outcomes = first_two; each = each_two; stops = stops_two true; all = inr refl; wrote = refl; ended = refl }

pub returns-clause-cut : goal.returns-clause-cut
unfolding csv_on_literals digits
returns-clause-cut c =
    record {
      outcomes = first_two;
      each = each_two;
      stops = stops_two false;
      wrote =
          In_last refl (Ok (Paths []) ∷ []) (Err (Map_fault Node_exists)) (codes "fau")
          (codes "lt,3,NodeExists" ++ 10 ∷ []) refl refl (λ e. absurd cc) refl;
    }
