-- The names that most proofs of olr_refs cite, passed on from one place. Declares nothing.
pub use Rattle.olr_answers.specs.Answers.{answer_of, refusal_of}
pub use Rattle.olr_refs.specs.Along.{DistancesTo, IsLastNear, IsReach}
pub use Rattle.olr_refs.specs.Choice.{ForPoints, SeenBy, searches_of, begun_at, MayMark}
pub use Rattle.olr_refs.specs.Extends.{Extends}
pub use Rattle.olr_refs.specs.KeptPoints.{AreAlong, AreKept, ArePoints, AreTrimmed, IsFirstKept, IsLastKept}
pub use Rattle.olr_refs.specs.KeptPoints.{distance_at, later, middle_points_of, whole_distance}
pub use Rattle.olr_refs.specs.ResolvedLines.{AreRecords, ids, records_of}
pub use Rattle.olr_refs.specs.Reuse.{Queried, IsAnswered, IsReuse, own_of}
pub use Rattle.olr_refs.specs.Runs.{IsLongest, IsRun, LeadsOn, LiesBeyond, in_order, outermost, joined}
pub use Rattle.olr_refs.specs.declared.reuse.Found.{Found}
pub use Rattle.olr_refs.specs.declared.reuse.Reuse.{Reuse}
pub use Rattle.olr_search.proofs.ReadLemmas.{read_at, resolved_as}
pub use Rattle.olr_search.proofs.WayLemmas.{no_end, has_end, entry_is, far_node, near_node, as_many}
pub use Rattle.olr_search.specs.Counts.{no_work, raised_count, raised_work}
pub use Rattle.olr_search.specs.Distances.{far_end, near_end, lines_at, ends_at}
pub use Rattle.olr_search.specs.Frontiers.{label_of}
pub use Rattle.olr_search.specs.ResolvedLines.{IsResolved, ResolvedLine, record_of}
pub use Rattle.olr_search.specs.Searches.{IsSearch, LiesWithin, limit_of}
pub use Rattle.olr_search.specs.declared.distances.Dijkstra.{Dijkstra}
pub use Rattle.olr_search.specs.declared.distances.Direction.TheVariants.{Against, Along}
pub use Rattle.olr_search.specs.declared.distances.Direction.{Direction}
pub use Rattle.olr_search.specs.declared.work.Work.{Work}
pub use Rattle.olr_spec.proofs.AnswerLemmas.{all_first, all_last, no_unknown, path_also, path_nonempty, sound_lines}
pub use Rattle.olr_spec.proofs.Common.{answer_by_points_with, QueriesOfExtendedWith, Contains-append_right, Contains-append_left}
pub use Rattle.olr_spec.proofs.Common.{IsBinarySearchResult, IsStrictlyIncreasing, TraversedOfExtended, ValidCandidateWith, Coord}
pub use Rattle.olr_spec.proofs.Common.{middle_points_with, get_or_append_left, middle_point_with, reference_by_with, EncodingWith}
pub use Rattle.olr_spec.proofs.Common.{IsLastTestedWith, drop-append_seam, reverse-reverse, list_any-append, reference_with, List}
pub use Rattle.olr_spec.proofs.Common.{UniqueShortest, get_or_default, reverse-append, passes_between, IsPermutation, IsReference}
pub use Rattle.olr_spec.proofs.Common.{length-append, extended_path, CandidateWith, last_position, CoverageQuery, QueriesOfWith}
pub use Rattle.olr_spec.proofs.Common.{query_to_with, first_unknown, LongestStart, append_assoc, All-contains, EncodesWith, abs24}
pub use Rattle.olr_spec.proofs.Common.{first_break, taken_start, CoveredWith, TraversedOf, first_where, kept_points, MatchOption}
pub use Rattle.olr_spec.proofs.Common.{length-drop, cases_order, get_or-take, LongestEnd, map-append, MayPrecede, from_start, Leg}
pub use Rattle.olr_spec.proofs.Common.{FollowWith, NoNextWith, OfPathWith, KnownQuery, attrs_with, dm_between, first_kept, length}
pub use Rattle.olr_spec.proofs.Common.{from_front, last_point, last_where, cases_Bool, get_or-map, length-map, path_fault, nat_le}
pub use Rattle.olr_spec.proofs.Common.{MayFollow, taken_end, lines_out, Traversed, Reference, last_kept, and_parts, AreJoined, []}
pub use Rattle.olr_spec.proofs.Common.{both_ways, cond_both, nat_tests, to_z-of_z, drop_more, take_more, FootWith, coord_at, None}
pub use Rattle.olr_spec.proofs.Common.{has_line, has_node, lines_in, Greatest, NextWith, To_valid, querying, dm_along, last_two}
pub use Rattle.olr_spec.proofs.Common.{position, Contains, cases_eq, cases_lt, or_parts, or_right, drop-map, drop_all, take-map}
pub use Rattle.olr_spec.proofs.Common.{take_all, All-cons, All-push, relative, StartRun, or_cases, is_path, passing, is_good, Map}
pub use Rattle.olr_spec.proofs.Common.{line_at, no_line, node_at, stretch, to_back, IsRoute, is_some, reverse, or_from, or_left}
pub use Rattle.olr_spec.proofs.Common.{All-nil, lt-leb, AllZip, Points, EndRun, Needed, NodeOf, Middle, leg_at, no_leg, offset, ℤ}
pub use Rattle.olr_spec.proofs.Common.{Option, Result, get_or, Tried, first, limit, IsMap, start, fit16, Attrs, First, dm_of, end}
pub use Rattle.olr_spec.proofs.Common.{arith, false, is_ok, rules, subst, Some, cond, drop, refl, take, true, zero, ◌++◌, ◌==◌, ℕ}
pub use Rattle.olr_spec.proofs.Common.{Path, Sees, Line, Last, legs, Bool, last, ◌||◌, has, leg, Err, inl, inr, map, max, min, dm}
pub use Rattle.olr_spec.proofs.Common.{not, suc, sym, ◌*◌, ◌+◌, ◌-◌, ◌/◌, ◌<◌, ◌∙◌, ◌∷◌, ◌≡◌, ◌≢◌, ◌≤◌, ◌⊎◌, Ok, ap}
pub use Rattle.olr_spec.proofs.CountedLemmas.{counted_route, counted_start, route_counted, counted_zero, counted_nil, counted_own}
pub use Rattle.olr_spec.proofs.FitLemmas.{extended_sound, reference_fits_with, by_answer, dm_same, from_front-add, position_is}
pub use Rattle.olr_spec.proofs.JoinLemmas.{CountedTo, LinkedWith, between, kept_linked_with, stretch_last, empty_stretch}
pub use Rattle.olr_spec.proofs.JoinedAnswers.{joined_with}
pub use Rattle.olr_spec.proofs.ListLemmas.{Contains-cases, Contains-here, Contains-one, Each, Each-from, Each-range, Known}
pub use Rattle.olr_spec.proofs.ListLemmas.{Each-tail}
pub use Rattle.olr_spec.proofs.ListLemmas.{has_cases, dec_same, has_there, has_first, has_here, has_index, has_last, last_index}
pub use Rattle.olr_spec.proofs.QueryLemmas.{stretch_parts, way_on}
pub use Rattle.olr_spec.proofs.ReceiverLemmas.{same_path, recovered_with}
pub use Rattle.olr_spec.proofs.RouteLemmas.{dm_of-append, empty_unique}
pub use Rattle.olr_spec.proofs.RunLemmas.{last_push, one_tried, same_end_run, same_start_run}
pub use Rattle.olr_spec.proofs.TestedLemmas.{foot_queried_with}
pub use Rattle.olr_spec.proofs.WayLemmas.{route_known, next_start, way_between}
pub use Rattle.olr_spec.specs.Bearings.{bearing_back, bearing_out}
pub use Rattle.olr_spec.specs.Margins.{Margin, counted, CountedRoute, counted_dm, counted_dm_of, is_margin, allowed}
pub use Rattle.olr_spec.specs.Queries.{IsKnownWith, IsKnownOfWith, KnownOfWith, QueriesFromWith, AreKnownWith}
pub use Rattle.olr_spec.specs.Recovery.{OwnLinesWith, own_lines, OwnLinesOfWith}
pub use Rattle.olr_spec.specs.Reference.{first_point_with}
pub use Rattle.std.proofs.Common.{eqb, length-take}
pub use Rattle.std.proofs.Math.Seq.{get_or-append_seam, take-add, take-append_seam}
pub use Rattle.std.proofs.lemmas.Bool.{eq-eqb, eqb-true, le-leb, leb-true, ne_eqb}
pub use Rattle.std.proofs.lemmas.Grind.{common_steps, get_or_default_zero}
pub use Rattle.std.proofs.lemmas.List.Elements.{Contains-append_cases, filter-append, All-weaker, Contains-push}
pub use Rattle.std.proofs.lemmas.List.Folds.{list_any_more}
pub use Rattle.std.proofs.lemmas.List.Kept.{AllPairs-from_increasing, Contains-dedup_nat, Contains-from_dedup}
pub use Rattle.std.proofs.lemmas.List.Sorted.{Contains-permutation, IsNonDecreasingBy-from_sort, IsPermutation-reverse}
pub use Rattle.std.proofs.lemmas.List.Sorted.{IsPermutation-sym, answers_always, list_any-IsPermutation, searched}
pub use Rattle.std.proofs.lemmas.List.{append-nil, get_or-drop, drop-drop, drop-take, take-take}
pub use Rattle.std.proofs.lemmas.Map.Keys.{IsStrictlyIncreasing-dedup}
pub use Rattle.std.proofs.lemmas.Result.{on_ok_weaker}
pub use Rattle.std.proofs.lemmas.Simd.{map-map}
pub use Rattle.std.specs.List.Sorted.{IsNonDecreasing, IsSearchInRange}
pub use Rattle.std.specs.List.{dedup, filter, fold, slice_index, slice_range, All, slice_get}
pub use Rattle.std.specs.Option.{option_or, option_to_list}
pub use Rattle.std.specs.Ordering.{nat_cmp}
pub use Rattle.std.specs.Prelude.{IsTrue, if◌then◌else◌, nat_lt, ⊤, ◌↔◌, IfSome, unwrap_or}
pub use mir.Syntax.{Width, w16, w32, w64}
