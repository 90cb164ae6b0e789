-- The names that most proofs of olr_renewal cite, passed on from one place. Declares nothing.
pub use Rattle.olr_commands.proofs.NameLemmas.{not_named}
pub use Rattle.olr_commands.specs.Counts.{By_line, By_name, By_node, CountIs, Picks}
pub use Rattle.olr_commands.specs.State.{Named}
pub use Rattle.olr_paths.proofs.Alls.{at_position, all_more, in_from, has_from, Contains-map, Contains-unmap, shared}
pub use Rattle.olr_paths.proofs.Changed.{changed, overlaid_from, first_only, not_there, change_left, none_removed_by}
pub use Rattle.olr_paths.proofs.Changed.{put_on_overlaid, put_on_without, grown_differ}
pub use Rattle.olr_paths.proofs.Common.{Item, Results, items, holds, Near, Path, limit, dm_of, Bool, List, ap, arith, false, subst}
pub use Rattle.olr_paths.proofs.Common.{NamesDiffer, LineTouched, all_named, LackQueries, RemovesNone, path_ids_of, shown_items}
pub use Rattle.olr_paths.proofs.Common.{QueryTouched, TraversedTouched, overlay_changes, slice_get_within, IsStrictlyIncreasing}
pub use Rattle.olr_paths.proofs.Common.{answer_in, Begins, change_at, slice_get, true≢false, length-map, map-append, option_map}
pub use Rattle.olr_paths.proofs.Common.{entry, Global, IsTrue, Option, String, get_or, length, IfSome, vec_len, eq-eqb, All-nil}
pub use Rattle.olr_paths.proofs.Common.{entry_of, Reported, named_of, BeginsIn, Answer, Contains, cases_lt, nat_tests, take_all}
pub use Rattle.olr_paths.proofs.Common.{flipped, Entry, results_of, results_in, Changes, all_put, puts_of, ascends, is_some, All-push}
pub use Rattle.olr_paths.proofs.Common.{has, All, None, Some, inl, inr, map, refl, suc, sym, take, true, zero, ◌++◌, ◌==◌, ◌||◌}
pub use Rattle.olr_paths.proofs.Common.{path_named, AreEncoded, changes_in, Put, shown_item, KnownQuery, append-nil, cases_Bool}
pub use Rattle.olr_paths.proofs.Common.{same_name, without_answer, under_changes, CoverageQuery, get_or_default, AllByRecursion}
pub use Rattle.olr_paths.proofs.Common.{under_change, take_more_at, [], append_assoc, All-contains, slice_get-map, string_bytes}
pub use Rattle.olr_paths.proofs.Common.{ℕ, ◌+◌, ◌-◌, ◌<◌, ◌↔◌, ◌∙◌, ◌∷◌, ◌≡◌, ◌≢◌, ◌≤◌, ◌⊎◌, Rc}
pub use Rattle.olr_paths.proofs.NamedEntries.{Entries, First, item_of, items_of, same_flip, first_at, named_there, names_differ}
pub use Rattle.olr_paths.proofs.OriginLemmas.{AreFar, begins_there, begins_all_put, begins_add, begins_set}
pub use Rattle.olr_paths.specs.Changes.{to_renew, Touches, StayKnown}
pub use Rattle.olr_paths.specs.Items.{AreEncodingsIfAny, IsEncodingOf, known_in}
pub use Rattle.olr_paths.specs.Origins.{farthest, AreShort}
pub use Rattle.olr_paths.specs.Overlaid.{under_overlay}
pub use Rattle.olr_paths.specs.declared.finder.Finder.{Finder}
pub use Rattle.olr_paths.specs.declared.index.Index.{Index}
pub use Rattle.olr_paths.specs.declared.path_list.NamedPath.{NamedPath}
pub use Rattle.olr_paths.specs.declared.path_list.PathList.{PathList}
pub use Rattle.olr_paths.specs.declared.published.Published.{Published}
pub use Rattle.olr_renewal.specs.Actions.{ToSkip, ToName, Retains, IsActionFor}
pub use Rattle.olr_renewal.specs.AffectedSearches.{AreDetours, IsSearchedFor, sources, sources_in}
pub use Rattle.olr_renewal.specs.Bounds.{AreUnderWay, IsUnderWay, IsEdit, IsUnbounded, IsLed, AreLed, IsFollowed}
pub use Rattle.olr_renewal.specs.Bounds.{IsRight, IsSource, source_of, bound_at, AreClosed, AreMet, AreRight, IsDue}
pub use Rattle.olr_renewal.specs.Candidates.{Covers, CoversSearched, Finds, FindsChanged, Includes}
pub use Rattle.olr_renewal.specs.ChangeSets.{changed_of, lines_of, nodes_of, IsLineAround}
pub use Rattle.olr_renewal.specs.Changes.{AffectedNames, with_results, AreReencoded, IsReencoded, IsAffected, IsBefore, Follows}
pub use Rattle.olr_renewal.specs.Reencoded.{IsRenewal, IsStep, WasBefore, AreAffectedNames, AreRenewed, IsRenewed, IsPutIn}
pub use Rattle.olr_renewal.specs.Reencoded.{AreLeft, after_renewal, results_at, IsGiven, ReportsIfOther, encodings_of, entries_of}
pub use Rattle.olr_renewal.specs.declared.actions.Action.TheVariants.{Skip, Retain, Encode}
pub use Rattle.olr_renewal.specs.declared.actions.Action.{Action}
pub use Rattle.olr_renewal.specs.declared.change_set.ChangeSet.{ChangeSet}
pub use Rattle.olr_renewal.specs.declared.distance_bounds.DistanceBounds.{DistanceBounds}
pub use Rattle.olr_renewal.specs.declared.renewal.Renewal.{Renewal}
pub use Rattle.olr_search.proofs.SearchLemmas.{alike_labels, is_distance, moves_then, put_cases, put_le, put_moves}
pub use Rattle.olr_search.proofs.WayLemmas.{end_is, far_node, has_end, no_end}
pub use Rattle.olr_search.specs.Bounds.{AreLengths, IsUnder, label_at, AreBounds}
pub use Rattle.olr_search.specs.Distances.{Leads}
pub use Rattle.olr_search.specs.Frontiers.{label_of, frontier_len, IsQueued, IsAlike, Moves, to_do}
pub use Rattle.olr_search.specs.Searches.{CoversSlots, IsSearch}
pub use Rattle.olr_search.specs.declared.distances.Dijkstra.{Dijkstra}
pub use Rattle.olr_search.specs.declared.distances.Direction.TheVariants.{Against, Along}
pub use Rattle.olr_search.specs.declared.frontier.TheConstants.{GREATEST_LIMIT}
pub use Rattle.olr_spec.proofs.AscendingLists.{found_has, put_ascends, put_has, stays_has}
pub use Rattle.olr_spec.proofs.Common.{ChangedLine, Refusal, extended_path, QueriesOfWith, QueriesOfExtendedWith, query_to_with}
pub use Rattle.olr_spec.proofs.Common.{Detour, IsMap, Map, end, start, dm, Needed, IsRoute, min, ◌*◌, or_left}
pub use Rattle.olr_spec.proofs.Common.{is_path, has_node, SameLine, has_line, lines_in, no_line, IsClear, or_cases, or_right}
pub use Rattle.olr_spec.proofs.Common.{path_fault, Line, lines_out, TraversedOf, IsQueryWith, MatchOption, unwrap_or, and_parts}
pub use Rattle.olr_spec.proofs.KnownLemmas.{known_kept, known_stays}
pub use Rattle.olr_spec.proofs.ListLemmas.{at_index}
pub use Rattle.olr_spec.proofs.OptionLemmas.{none_of}
pub use Rattle.olr_spec.proofs.TestedLemmas.{query_from_with}
pub use Rattle.olr_spec.proofs.RouteLemmas.{route_start, IsRoute-append, dm_of-append}
pub use Rattle.olr_spec.specs.Margins.{Margin, is_margin, counted, counted_dm, counted_dm_of}
pub use Rattle.olr_spec.specs.Queries.{AreKnownWith, IsKnownWith}
pub use Rattle.std.proofs.Common.{Vec, eqb, mul-le-mul_left, nat_eq}
pub use Rattle.std.proofs.lemmas.Bool.{eqb-true, false≢true}
pub use Rattle.std.proofs.lemmas.Grind.{common_steps, elements}
pub use Rattle.std.proofs.lemmas.List.Elements.{Contains-get_or}
pub use Rattle.std.proofs.lemmas.List.Filters.{dedup_is}
pub use Rattle.std.proofs.lemmas.List.Folds.{list_any-append, list_any_more}
pub use Rattle.std.proofs.lemmas.List.Kept.{AllPairs-from_increasing, Contains-dedup_nat, Contains-from_dedup}
pub use Rattle.std.proofs.lemmas.Result.{IfOk-weaker, on_ok_weaker}
pub use Rattle.std.specs.List.Sorted.{IsPermutation, IsSorted}
pub use Rattle.std.specs.List.{dedup}
pub use Rattle.std.specs.Prelude.{if◌then◌else◌}
pub use borrow.Author.Count.{below_more}
