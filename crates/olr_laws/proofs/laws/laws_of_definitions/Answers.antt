use Rattle.olr_spec.proofs.Common.{SameLine, FootWith, sym, ◌∙◌, LawOf}
use Rattle.olr_spec.proofs.Facts.{Each-from, lines_ascend, exactly_in, exactly_out, longer, one_least, prefix_of_least}
use Rattle.olr_spec.proofs.Facts.{empty_least, empty_unique, unique_least, prefix_of_unique, one_start, one_end, one_next}
use Rattle.olr_spec.proofs.Facts.{one_follow, one_answer_with, two_kept, routes_join, routes_same, clear_unique, near_same}
use Rattle.olr_spec.proofs.BytesLemmas.{one_decoding}
use Rattle.olr_spec.proofs.ChangeLemmas.{edit_differs, none_differs, differences_add}
use Rattle.olr_spec.proofs.DecideLemmas.{one_unique, some_answer_with}
use Rattle.olr_spec.proofs.EditLemmas.{edits_keep, edits_are_local}
use Rattle.olr_spec.proofs.ElsewhereLemmas.{counted_front, counted_unique, unique_there}
use Rattle.olr_spec.proofs.FitLemmas.{encoded_fits}
use Rattle.olr_spec.proofs.KnownLemmas.{known_stays, known_kept}
use Rattle.olr_spec.proofs.LocalLemmas.{local_answer_with, local_foot}
use Rattle.olr_spec.proofs.PartnerLemmas.{routes_join_elsewhere, recovered_elsewhere}
use Rattle.olr_spec.proofs.QueryLemmas.{to_same, clear_routes, query_stays, covered_stays}
use Rattle.olr_spec.proofs.ReceiverLemmas.{recovered_with}
use Rattle.olr_spec.proofs.SectorLemmas.{one_sector, sector_is}
use Rattle.olr_spec.proofs.SplitLemmas.{recovered_on_roads}
use Rattle.olr_spec.proofs.StayLemmas.{kept, untouched_retained_with}
use Rattle.olr_spec.proofs.TestedLemmas.{one_last_tested_with, some_last_tested, one_queries_with, some_queries}
use Rattle.olr_spec.proofs.TestedLemmas.{foot_queried_with, foot_affected_with}
use Rattle.olr_spec.proofs.UndoLemmas.{edits_undo, empty_sound}
use Rattle.olr_spec.specs.Margins.{Margin}
use Rattle.olr_spec.specs.Laws.{QueryLaws}
use Rattle.olr_laws.proofs.ByteLemmas.{no_fault_where_encoded}
use Rattle.olr_laws.proofs.LabelLemmas.{labelled, traced_least}
use Rattle.olr_laws.proofs.laws.laws_of_definitions.Goals as goal

queries_stay : (g : Margin) → LawOf (λ (l : QueryLaws g). l.queries_stay)
queries_stay g M N sound sound_there C there here ls same s t joined i k query clear =
    let each = Each-from (SameLine M N) ls same in
    let routes = clear_routes M N ls each s t joined i k query C there here clear in (
      query_stays M N ls each s t joined i k query routes,
      to_same M N ls each s t joined i k query,
      covered_stays M N ls each s t joined i k query routes sound sound_there,
    )

pub returns-clause-maps : goal.returns-clause-maps
returns-clause-maps c = assumption (lines_ascend, exactly_in, exactly_out, edits_keep, edits_undo, empty_sound)

pub returns-clause-routes : goal.returns-clause-routes
returns-clause-routes c =
    record {
      no_longer_suffix = longer;
      one_least = one_least;
      prefix_of_least = prefix_of_least;
      empty_is_least = empty_least;
      unique_is_least = unique_least;
      one_unique = one_unique;
      prefix_of_unique = prefix_of_unique;
      empty_is_unique = empty_unique;
      settled_is_least = traced_least;
      settled_reaches = labelled;
      one_start_run = one_start;
      one_end_run = one_end;
    }

pub returns-clause-margins : goal.returns-clause-margins
returns-clause-margins c g =
    record { prefix_of_counted = counted_front g; counted_is_unique = counted_unique g; unique_elsewhere = unique_there g }

pub returns-clause-answers : goal.returns-clause-answers
returns-clause-answers c g =
    record {
      one_next = one_next g;
      one_points = one_follow g;
      one_answer = one_answer_with g;
      some_answer = some_answer_with g;
      answer_fits = encoded_fits g;
      two_kept = two_kept g;
      routes_join = routes_join g;
      routes_join_elsewhere = routes_join_elsewhere g;
      recovered = recovered_with g;
      recovered_elsewhere = recovered_elsewhere g;
      recovered_on_roads = recovered_on_roads g;
    }

pub returns-clause-fields : goal.returns-clause-fields
returns-clause-fields c =
    record {
      one_sector = one_sector;
      some_sector = sector_is;
      one_byte_form = λ r x y p q. p.1 ∙ sym q.1;
      one_decoding = λ r s x p q. one_decoding r s p.0 q.0 (sym p.1 ∙ q.1);
      no_fault = no_fault_where_encoded;
    }

pub returns-clause-locality : goal.returns-clause-locality
returns-clause-locality c g =
    record {
      local_answer = local_answer_with g;
      local_foot = local_foot g;
      edits_are_local = λ M N e P is nodes lines. edits_are_local M N e P.lines (FootWith g M P) is nodes lines;
    }

pub returns-clause-changes : goal.returns-clause-changes
returns-clause-changes c = assumption (edit_differs, none_differs, differences_add, routes_same, clear_unique, near_same)

pub returns-clause-queries : goal.returns-clause-queries
returns-clause-queries c g =
    record {
      one_last_tested = one_last_tested_with g;
      some_last_tested = some_last_tested g;
      one_queries = one_queries_with g;
      some_queries = some_queries g;
      foot_is_queried = foot_queried_with g;
      foot_affected = foot_affected_with g;
      queries_stay = queries_stay g;
      known_stays = known_stays {g = g};
      answers_retained = kept g;
      known_retained = known_kept g;
      untouched_retained = untouched_retained_with g;
    }
