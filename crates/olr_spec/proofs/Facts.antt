-- The lemmas that most proofs of olr_spec cite, passed on from one place. Declares nothing.
pub use Rattle.olr_spec.proofs.AgreeLemmas.{by_entering, known_record, same_coord, same_dm_of, same_end, same_known}
pub use Rattle.olr_spec.proofs.AgreeLemmas.{same_passing, same_record, same_start, some_is}
pub use Rattle.olr_spec.proofs.AnswerLemmas.{all_first, all_last, by_fault, map_None, one_answer_with, one_follow, one_next}
pub use Rattle.olr_spec.proofs.AnswerLemmas.{or_None, path_also, path_at, path_nonempty, same_by, sound_lines, Next-candidate}
pub use Rattle.olr_spec.proofs.CountedLemmas.{counted_known, counted_least, counted_nil, route_counted}
pub use Rattle.olr_spec.proofs.ElsewhereLemmas.{counted_part, unique_there, OnlyShortest}
pub use Rattle.olr_spec.proofs.JoinLemmas.{LinkedWith, between, between_is, empty_stretch, follow_linked_with, joins_last}
pub use Rattle.olr_spec.proofs.JoinLemmas.{carries_here, kept_joins, counted_last, covered_to, stretch_last}
pub use Rattle.olr_spec.proofs.JoinLemmas.{joins_to, kept_linked_with, routes_join, stretch_first, Carries, CountedTo}
pub use Rattle.olr_spec.proofs.KeptLemmas.{back_within, dm_along-append, dm_along-legs, front_within, two_kept, whole}
pub use Rattle.olr_spec.proofs.ListLemmas.{Contains-cases, Contains-here, Contains-later, Each, Each-append, Each-cons}
pub use Rattle.olr_spec.proofs.ListLemmas.{Each-from, Each-head, Each-left, Each-nil, Each-push, Each-range, Each-right}
pub use Rattle.olr_spec.proofs.ListLemmas.{Each-tail, Each-to, Known, at_index, filter_has, has_cases, has_filter, has_first}
pub use Rattle.olr_spec.proofs.ListLemmas.{has_here, has_index, has_last, has_there, last_index, map_same, dec_same}
pub use Rattle.olr_spec.proofs.MapLemmas.{has-lines_where, none_has, passes_at}
pub use Rattle.olr_spec.proofs.OptionLemmas.{none_of, there_not}
pub use Rattle.olr_spec.proofs.OrderLemmas.{exactly_in, exactly_out, has-all_nodes, has_number, lines_ascend}
pub use Rattle.olr_spec.proofs.RouteLemmas.{IsRoute-append, IsRoute-split, dm_of-append, empty_least, empty_unique, longer}
pub use Rattle.olr_spec.proofs.RouteLemmas.{not_before_itself, nothing_below_nil, one_least, positive, prefix_of_least}
pub use Rattle.olr_spec.proofs.RouteLemmas.{prefix_of_unique, unique_least}
pub use Rattle.olr_spec.proofs.RouteMoves.{IsRoute-moves, clear_unique, near_same, reach_same, routes_same, same_there}
pub use Rattle.olr_spec.proofs.RouteMoves.{same_way, same_way_on, same_ways, unique_same, within, within_other}
pub use Rattle.olr_spec.proofs.RunLemmas.{AreRuns, end_runs, extended_keeps, last_known, last_push, no_longer, one_end}
pub use Rattle.olr_spec.proofs.RunLemmas.{one_start, one_tried, start_runs}
pub use Rattle.olr_spec.proofs.RunMoves.{Alike, EndRun-known, EndRun-push, StartRun-known, longest_end_moves}
pub use Rattle.olr_spec.proofs.RunMoves.{longest_start_moves, same_begin, same_finish}
pub use Rattle.olr_spec.proofs.WayLemmas.{next_start, way_between, route_known}
