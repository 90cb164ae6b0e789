-- The names that most proofs of olr_paths cite, passed on from one place. Declares nothing.
pub use Rattle.indexmap.specs.IndexMap.{insert_entry}
pub use Rattle.indexmap.specs.Layout.{set_value_at, length-set_value_at}
pub use Rattle.olr_commands.proofs.NameLemmas.{flipped, same_is}
pub use Rattle.olr_commands.specs.Reply.{Entry, entry, published_text}
pub use Rattle.olr_commands.specs.State.{NamesDiffer, path_named, same_name}
pub use Rattle.olr_commands.specs.Words.{entry_of}
pub use Rattle.olr_paths.specs.Changes.{AreEncoded, LineTouched, QueryTouched, Reported, TraversedTouched, set_item}
pub use Rattle.olr_paths.specs.Changes.{without_answer}
pub use Rattle.olr_paths.specs.Finders.{AreNoted, AreNotedAt, ArePublished, Grows, AddsOnly, ChangesOnly, IsNoted}
pub use Rattle.olr_paths.specs.Finders.{KeyLists, Spares, keys_by, named_keys}
pub use Rattle.olr_paths.specs.Items.{Item, Results, all_named, answer_in, items, results_in, results_of, results_of_named, named_of}
pub use Rattle.olr_paths.specs.Listed.{items_of}
pub use Rattle.olr_paths.specs.Origins.{Begins, BeginsIn, BeginsPut, LackQueries}
pub use Rattle.olr_paths.specs.Overlaid.{Changes, RemovesNone, change_at, changes_in, drops, overlay_changes}
pub use Rattle.olr_paths.specs.Overlaid.{under_change, under_changes}
pub use Rattle.olr_paths.specs.PathIds.{holds, path_ids_of}
pub use Rattle.olr_paths.specs.Stored.{Put, all_put, put, puts_of}
pub use Rattle.olr_paths.specs.Views.{shown_item, shown_items}
pub use Rattle.olr_paths.specs.declared.finder.Finder.{Finder}
pub use Rattle.olr_paths.specs.declared.index.Index.{Index}
pub use Rattle.olr_paths.specs.declared.path_list.NamedPath.{NamedPath}
pub use Rattle.olr_paths.specs.declared.path_list.PathList.{PathList}
pub use Rattle.olr_paths.specs.declared.published.Published.{Published}
pub use Rattle.olr_spec.proofs.AscendingLists.{ascends, ascends-remove, ascends_push, has-remove, has_at, place_not, place_of}
pub use Rattle.olr_spec.proofs.AscendingLists.{there_found, lacks_has, put_ascends, put_has, stays_has, taken_has}
pub use Rattle.olr_spec.proofs.ListLemmas.{Contains-cases, Contains-here, Contains-later, take_more_at}
pub use Rattle.olr_spec.specs.Bytes.{IsReference}
pub use Rattle.olr_spec.specs.Detours.{Near}
pub use Rattle.olr_spec.specs.Encoding.{Answer}
pub use Rattle.olr_spec.specs.Extension.{Path, limit}
pub use Rattle.olr_spec.specs.Map.{has}
pub use Rattle.olr_spec.specs.Queries.{CoverageQuery, KnownQuery}
pub use Rattle.olr_spec.specs.Routes.{dm_of}
pub use Rattle.std.proofs.Common.{All, Bool, Bor, Contains, Err, Global, IfSome, IsTrue, List, None, Ok, Option, Result, Some}
pub use Rattle.std.proofs.Common.{String, [], ap, append-nil, append_assoc, arith, cond, false, get_or, inl, inr, is_some}
pub use Rattle.std.proofs.Common.{length, map, not, refl, slice_get, subst, suc, sym, take, true, vec_capacity, vec_len, zero}
pub use Rattle.std.proofs.Common.{ℕ, ◌&&◌, ◌++◌, ◌+◌, ◌-◌, ◌<◌, ◌==◌, ◌||◌, ◌↔◌, ◌∙◌, ◌∷◌, ◌≡◌, ◌≢◌, ◌≤◌, ◌⊎◌, nat_eq}
pub use Rattle.std.proofs.lemmas.Bool.Decides.{nat_tests}
pub use Rattle.std.proofs.lemmas.Bool.{cases_Bool, cases_lt, cases_order, eq-eqb, true≢false}
pub use Rattle.std.proofs.lemmas.List.Edits.{length-remove}
pub use Rattle.std.proofs.lemmas.List.Elements.{All-contains, All-head, All-nil, All-pop, All-push, All-tail, filter-append}
pub use Rattle.std.proofs.lemmas.List.{get_or_default, get_or_read, length-map, length_push, map-append, take-map, take_all}
pub use Rattle.std.proofs.lemmas.List.{take_more}
pub use Rattle.std.proofs.lemmas.Option.{get_or_from_slice_get, slice_get-map, slice_get_within}
pub use Rattle.std.specs.HashMap.{get}
pub use Rattle.std.specs.List.Sorted.{IsBinarySearchResult, IsStrictlyIncreasing}
pub use Rattle.std.specs.List.{AllByRecursion, filter, list_all, list_any, position, remove}
pub use Rattle.std.specs.Map.{keys_of, lookup, values_of}
pub use Rattle.std.specs.Option.{option_and_then, option_eq, option_to_list, unwrap_or}
pub use Rattle.std.specs.Prelude.{option_map, string_bytes}
pub use Rattle.std.specs.Result.{result_ok}
pub use Rattle.std.specs.Str.{bytes_eq}
pub use Rattle.std.specs.String.{string_eq}
pub use Rattle.std.specs.declared.rc.Rc.{Rc}
pub use lib.Pointwise.{bytes_decides}
