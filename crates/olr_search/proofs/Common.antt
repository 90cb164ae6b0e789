-- The names that most proofs of olr_search cite, passed on from one place. Declares nothing.
pub use Rattle.olr_model.specs.declared.read.LineEnd.{LineEnd}
pub use Rattle.olr_search.specs.Distances.{IsDistance, Leads, Way, ends_at, far_end, lines_at, near_end}
pub use Rattle.olr_search.specs.Frontiers.{IsAhead, IsAlike, IsEmpty, IsQueued, IsRelaxed, Moves, NotedOnce, frontier_len}
pub use Rattle.olr_search.specs.Frontiers.{label_of, to_do}
pub use Rattle.olr_search.specs.Lengths.{AreFit, IsOver, IsSearchedAs, IsSeenAs, MayCount}
pub use Rattle.olr_search.specs.Notes.{AreAllReached, AreApart, AreFilled, AreNodesIn, NotesOnce, label_in}
pub use Rattle.olr_search.specs.Queues.{queue_key, queue_len, IsPopped, LowLabels, Queued}
pub use Rattle.olr_search.specs.ResolvedLines.{IsResolved, ResolvedLine, record_of}
pub use Rattle.olr_search.specs.Searches.{IsCut, IsSearch, LiesWithin, HasEnds, IsBegunAt, LabelsNear, CoversSlots}
pub use Rattle.olr_search.specs.Searches.{CutAt, IsLabelled, FromWithin, IsOnlyPredecessor, IsUnderWay, StaysWithin}
pub use Rattle.olr_search.specs.declared.distances.Dijkstra.{Dijkstra}
pub use Rattle.olr_search.specs.declared.distances.Direction.TheVariants.{Against, Along}
pub use Rattle.olr_search.specs.declared.distances.Direction.{Direction}
pub use Rattle.olr_search.specs.declared.frontier.Frontier.{Frontier}
pub use Rattle.olr_search.specs.declared.frontier.TheConstants.{GREATEST_LIMIT, UNREACHED}
pub use Rattle.olr_spec.proofs.ListLemmas.{Contains-cases, Contains-here, Contains-later, Contains-one, at_index, has_read}
pub use Rattle.olr_spec.proofs.OrderLemmas.{ascend_in, exactly_in, exactly_out}
pub use Rattle.olr_spec.proofs.RouteLemmas.{IsRoute-append, IsRoute-split, dm_of-append, line_short, positive, empty_least}
pub use Rattle.olr_spec.proofs.RouteLemmas.{empty_unique, last_first, one_least, prefix_of_least, prefix_of_unique, route_start}
pub use Rattle.olr_spec.proofs.SameNumbers.{distinct_from_ascending, has_from, in_from}
pub use Rattle.olr_spec.specs.Map.{IsMap, Map, dm, end, has, has_line, has_node, lines_in, no_line, start, Line}
pub use Rattle.olr_spec.specs.Margins.{Margin, counted, counted_dm, is_margin, no_margin}
pub use Rattle.olr_spec.specs.Routes.{IsRoute, UniqueShortest, dm_of, FirstSmaller, Least}
pub use Rattle.std.proofs.Common.{Bool, Contains, IsTrue, List, Some, [], ap, arith, eqb, false, get_or, inl, inr, is_some}
pub use Rattle.std.proofs.Common.{length, length-append, map, refl, subst, suc, sym, take, true, vec_len, zero, ℕ, ◌%◌, ◌++◌}
pub use Rattle.std.proofs.Common.{◌+◌, ◌/◌, ◌<◌, ◌==◌, ◌^◌, ◌↔◌, ◌∙◌, ◌∷◌, ◌≡◌, ◌≢◌, ◌≤◌, ◌⊎◌, None, Option, rules, tests}
pub use Rattle.std.proofs.Math.ListN.{set}
pub use Rattle.std.proofs.lemmas.Bool.{cases_eq, cases_lt, ne_eqb, cases_Bool, eq-eqb, eqb-true, false≢true}
pub use Rattle.std.proofs.lemmas.Grind.{get_or_default_zero, common_steps}
pub use Rattle.std.proofs.lemmas.List.Elements.{All-contains_itself, Contains-append_cases, Contains-append_left}
pub use Rattle.std.proofs.lemmas.List.Elements.{Contains-append_right, Contains-get_or, Contains-push, filter_more}
pub use Rattle.std.proofs.lemmas.List.Quantifiers.{all_pairs_push}
pub use Rattle.std.proofs.lemmas.List.Sorted.{Contains-permutation, IsNonDecreasingBy-from_sort, IsPermutation-sym}
pub use Rattle.std.proofs.lemmas.List.Sums.{sum_by-set}
pub use Rattle.std.proofs.lemmas.List.{get_or-map, get_or-set_other, get_or-set_same, get_or_default, get_or_past, get_or_push}
pub use Rattle.std.proofs.lemmas.List.{get_or_read_under, length-map, append-nil, append_assoc, get_or_append_left, map-append}
pub use Rattle.std.proofs.lemmas.List.{same_from_push, take_all}
pub use Rattle.std.proofs.lemmas.Map.Keys.{IsDistinct-IsPermutation, IsDistinct-from_apart, IsStrictlyIncreasing-from_distinct}
pub use Rattle.std.proofs.lemmas.Option.{none-some}
pub use Rattle.std.proofs.lemmas.Result.{on_ok_weaker}
pub use Rattle.std.specs.BinaryHeap.{IsUpperBound, lt_by_cmp}
pub use Rattle.std.specs.Cmp.{nat_eq_equiv}
pub use Rattle.std.specs.List.Sorted.{IsPermutation, IsStrictlyIncreasing}
pub use Rattle.std.specs.List.{IsDistinct, filter, AllWithin, HoldsAt}
pub use Rattle.std.specs.Prelude.{cond, max, nat_le, unwrap_or, ⊤}
pub use borrow.Author.Count.{below_more}
