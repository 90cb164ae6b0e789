-- The names that most proofs of olr_register cite, passed on from one place. Declares nothing.
pub use Rattle.olr_answers.specs.Ambiguities.{found_of}
pub use Rattle.olr_answers.specs.Answers.{answer_of}
pub use Rattle.olr_commands.proofs.CountLemmas.{paths_raise, unconcerned}
pub use Rattle.olr_commands.proofs.HistoryLemmas.{SoundOutcome, headline_of_outcomes, run_each, run_more, start_sound}
pub use Rattle.olr_commands.proofs.NameLemmas.{named_path, not_named, same_is}
pub use Rattle.olr_commands.proofs.StateLemmas.{after_push, changes_keep, next_ok}
pub use Rattle.olr_commands.specs.Ambiguities.{Ambiguities, Ambiguity, NamedObstacle, named, obstacles_of}
pub use Rattle.olr_commands.specs.Counts.{Affects, By_line, By_name, By_node, CountIs, Picks, Raises, all_lines, all_nodes}
pub use Rattle.olr_commands.specs.Counts.{gives, lines_of_change, nodes_of_change}
pub use Rattle.olr_commands.specs.Dump.{dump_lines, line_change, margin_changes, node_change, path_change}
pub use Rattle.olr_commands.specs.RecordText.{record_line}
pub use Rattle.olr_commands.specs.Recordable.{is_name, is_recordable_coord, is_recordable_map, is_recordable_shape}
pub use Rattle.olr_commands.specs.Reply.{AllOf, ByState, Differences, Dumped, Entry, HasAnswer, IsOutcome, IsPaths}
pub use Rattle.olr_commands.specs.Reply.{IsRefusal, Lacks as Lacks_memory, Published, PublishedText, Records, entry}
pub use Rattle.olr_commands.specs.Reply.{is_reported_first, may_want, published_text, takes_memory}
pub use Rattle.olr_commands.specs.State.{Abort, Add_path, ArePaths, Bad_path, Batch_full, Begin, Change, Command, Commit}
pub use Rattle.olr_commands.specs.State.{Content, Drop_path, Fault, HasCoords, IsContent, IsState, Make, Map_fault, Memory}
pub use Rattle.olr_commands.specs.State.{Named, NamesDiffer, No_path, Not_a_reference, On_map, Path_exists, Preview, Set_margin}
pub use Rattle.olr_commands.specs.State.{Set_path, State, after, at_once, changes_made, changes_made_in, full, has_path}
pub use Rattle.olr_commands.specs.State.{into_batch, next, path_named, same_name, start_state, step, text_fault}
pub use Rattle.olr_commands.specs.State.{when, with_change, with_map, with_path}
pub use Rattle.olr_commands.specs.Words.{command_fault_of, command_of, map_fault_of, named_obstacle_of, outcome_of, reply_of}
pub use Rattle.olr_commands.specs.Words.{text_fault_of}
pub use Rattle.olr_commands.specs.declared.fault.CommandFault.TheVariants.{Memory as No_memory}
pub use Rattle.olr_commands.specs.declared.fault.CommandFault.{CommandFault}
pub use Rattle.olr_commands.specs.declared.reply.Reply.{Reply}
pub use Rattle.olr_map.specs.Changes.{AddsNoNode, KeepsSlots, all_line_puts, all_node_puts, room_of}
pub use Rattle.olr_map.specs.RoadMaps.{dropped_nodes, log_changes, CanUndoAll, map_before, CanMakeAll, made_all, slot_of, map_of}
pub use Rattle.olr_map.specs.declared.road_map.RoadMap.{RoadMap}
pub use Rattle.olr_model.specs.Edits.{edit_fault_of, edit_of}
pub use Rattle.olr_paths.proofs.Alls.{all_more, at_position}
pub use Rattle.olr_paths.proofs.OriginLemmas.{begins_add, begins_drop, begins_set}
pub use Rattle.olr_paths.proofs.Overlaying.{has_name}
pub use Rattle.olr_paths.specs.Changes.{AreEncoded, Reported, set_item, to_renew, without_answer}
pub use Rattle.olr_paths.specs.Items.{AreEncodings, AreEncodingsIfAny, IsEncodingOf, Item, Results, all_named, answer_in, items}
pub use Rattle.olr_paths.specs.Items.{known_in, results_in, named_of}
pub use Rattle.olr_paths.specs.Origins.{Begins}
pub use Rattle.olr_paths.specs.Overlaid.{under_overlay}
pub use Rattle.olr_paths.specs.declared.overlay.Overlay.{Overlay}
pub use Rattle.olr_register.specs.Answered.{Answered}
pub use Rattle.olr_register.specs.BatchChanges.{AreGiven, ByContent, HoldsChange, IsMade, Lacks, Makes, MayReport}
pub use Rattle.olr_register.specs.BatchChanges.{StaysUnderWay, change_of, content_with, path_by}
pub use Rattle.olr_register.specs.Contents.{AreTouched, CanRenew, CanRenewTo, CanUpdate, HasBounds, IsHeld, IsHeldAs}
pub use Rattle.olr_register.specs.Contents.{IsStateRight, IsRegister, KeepsMargin, batch_of, content_on, content_under, held_of}
pub use Rattle.olr_register.specs.Contents.{state_of, accepted_map, under_batch}
pub use Rattle.olr_register.specs.CountChanges.{NoneFalls, encodes}
pub use Rattle.olr_register.specs.JudgedEdits.{IsTouchedBy}
pub use Rattle.olr_register.specs.Recordables.{is_recordable_line_at, is_recordable_node_at}
pub use Rattle.olr_register.specs.RegisterState.{Batch as Outcome, IsBatchOf, RegisterState, Represents}
pub use Rattle.olr_register.specs.RegisterState.{RepresentsBatch, named_held}
pub use Rattle.olr_register.specs.Registered.{Applied, HaveEncodings, PublishedWhole, Registered, nothing_registered}
pub use Rattle.olr_register.specs.declared.batch.Batch.{Batch, Batch as Open}
pub use Rattle.olr_register.specs.declared.register.Register.TheInside.{Inside}
pub use Rattle.olr_renewal.proofs.BoundLemmas.{edit_under_way}
pub use Rattle.olr_renewal.proofs.Following.{answer_if_any, follows_self, follows_without}
pub use Rattle.olr_renewal.specs.AffectedSearches.{AreBoundsOf}
pub use Rattle.olr_renewal.specs.Bounds.{IsEdit, IsSource, IsUnderWay, SameBut}
pub use Rattle.olr_renewal.specs.ChangeSets.{IsAround, changed_of, lines_of, nodes_of}
pub use Rattle.olr_renewal.specs.Changes.{AreReencoded, Follows, IsAffected, IsBefore}
pub use Rattle.olr_renewal.specs.Reencoded.{CanRenewUnder, IsRenewal, after_renewal, entries_of, to_renew_by}
pub use Rattle.olr_renewal.specs.declared.change_set.ChangeSet.{ChangeSet}
pub use Rattle.olr_renewal.specs.declared.distance_bounds.DistanceBounds.{DistanceBounds}
pub use Rattle.olr_renewal.specs.declared.renewal.Renewed.{Renewed}
pub use Rattle.olr_search.specs.Counts.{raised_count, raised_work}
pub use Rattle.olr_search.specs.declared.work.Work.{Work}
pub use Rattle.olr_spec.proofs.ChangeLemmas.{differences_add, edit_differs, none_differs}
pub use Rattle.olr_spec.proofs.ListLemmas.{Contains-cases, take_more_at}
pub use Rattle.olr_spec.proofs.OptionLemmas.{none_of}
pub use Rattle.olr_spec.specs.Ambiguity.{Obstacle}
pub use Rattle.olr_spec.specs.Detours.{ChangedLine, changes_of}
pub use Rattle.olr_spec.specs.Encoding.{Answer, EncodesWith}
pub use Rattle.olr_spec.specs.Extension.{Path, is_path}
pub use Rattle.olr_spec.specs.Map.{Add_line, Add_node, Drop_line, Drop_node, Edit, HasCoord, IsMap, Line, Map, MapFault}
pub use Rattle.olr_spec.specs.Map.{Move_node, Set_line, coord_at, edited, end, has, has_line, has_node, lines_out, line_at}
pub use Rattle.olr_spec.specs.Map.{no_coord, no_line, start, touched_lines, touched_nodes}
pub use Rattle.olr_spec.specs.Margins.{Margin, is_margin}
pub use Rattle.olr_spec.specs.Queries.{AreKnownWith, CoverageQuery}
pub use Rattle.olr_spec.specs.Reference.{Reference}
pub use Rattle.std.proofs.Common.{All, Bool, Err, IsOk, IsTrue, List, None, Ok, Option, Result, Some, [], ap, append_assoc}
pub use Rattle.std.proofs.Common.{arith, cond, false, filter, get_or, inl, inr, is_some, length, length-append, map, nat_cmp}
pub use Rattle.std.proofs.Common.{not, refl, slice_get, string_bytes, subst, suc, sym, take, true, unwrap_or, ℕ, ◌++◌, ◌+◌, ◌<◌}
pub use Rattle.std.proofs.Common.{◌∙◌, ◌∷◌, ◌≡◌, ◌≢◌, ◌⊎◌}
pub use Rattle.std.proofs.Math.Bool.{or-false}
pub use Rattle.std.proofs.lemmas.Bool.{and_from, and_parts, both_ways, cases_Bool, cases_eq, eq-eqb, leb-false, ne_eqb}
pub use Rattle.std.proofs.lemmas.Bool.{not-false, or_left, or_right}
pub use Rattle.std.proofs.lemmas.Grind.{common_steps, flat_map-append}
pub use Rattle.std.proofs.lemmas.List.Elements.{All-contains, All-weaker, Contains-append_cases, All-cons}
pub use Rattle.std.proofs.lemmas.List.Folds.{concat-append, list_all_at, list_all_more, list_any-append}
pub use Rattle.std.proofs.lemmas.List.{append-nil, length-map, length_push, map-append, map-id, map_push, take_all}
pub use Rattle.std.proofs.lemmas.Option.{slice_get-get_or, slice_get-map, slice_get_cases}
pub use Rattle.std.proofs.lemmas.Result.{err_from_is_err_and}
pub use Rattle.std.specs.FinMap.{FinMap, entries, entries_sorted, get, get-entries}
pub use Rattle.std.specs.List.{AllByRecursion, concat, flat_map, list_all, list_any}
pub use Rattle.std.specs.Option.{option_copied, option_to_list}
pub use Rattle.std.specs.Prelude.{Contains, IfSome, IsErrAnd, IsFalse, IsSomeAnd, MatchOption, MatchResult, is_none, nat_le}
pub use Rattle.std.specs.Prelude.{option_and_then, option_map, ◌&&◌, ◌==◌, ◌||◌, ◌↔◌}
pub use Rattle.std.specs.Result.{result_ok}
