-- The names that most proofs of olr_spec cite, passed on from one place. Declares nothing.
pub use Rattle.olr_spec.specs.Bearings.{Leg, boundary, lies_between, up_to, vector, IsSector, Scaled, Vector, bearing, beyond}
pub use Rattle.olr_spec.specs.Bearings.{quarter_turn, scaled_coord, scaled_on, sector, thousandths}
pub use Rattle.olr_spec.specs.Bytes.{AreAttrs, IsFirst, IsLast, IsMiddle, IsReference, first_bytes, fits24, flag, last_bytes}
pub use Rattle.olr_spec.specs.Bytes.{attribute1, attribute1_bytes, bit, extra, flags_of, has_reserved, residue, signed24}
pub use Rattle.olr_spec.specs.Bytes.{middle_bytes, offset_bytes, reference_bytes, signed16, HasBytes, V3Fault, attr_bytes}
pub use Rattle.olr_spec.specs.Bytes.{status_byte, v3_fault}
pub use Rattle.olr_spec.specs.Coordinates.{Coord, abs24, fits16, is_coord, relative, within, from_abs24, from_rel16, nearest}
pub use Rattle.olr_spec.specs.Decoded.{IsNear, decoded_bound, decoded, steps_sum}
pub use Rattle.olr_spec.specs.Degrees.{before_point, digits_value}
pub use Rattle.olr_spec.specs.Detours.{AccountsFor, ChangedLine, Detour, Near, IsChangedLine, SameWay, changes_of}
pub use Rattle.olr_spec.specs.Encoding.{Answer, EncodingWith, No_next_point, Unknown_line, answer_by_points_with, first_unknown}
pub use Rattle.olr_spec.specs.Encoding.{Encodes, EncodesWith, Points, Refusal, Refused, IsPointWith, first_break, path_fault}
pub use Rattle.olr_spec.specs.Extension.{AreJoined, EndRun, LongestEnd, LongestStart, MayFollow, MayPrecede, Path, StartRun}
pub use Rattle.olr_spec.specs.Extension.{Tried, extended_path, first, from_start, is_path, last, limit, none_twice}
pub use Rattle.olr_spec.specs.Extension.{passes_between, passing, taken_end, taken_start}
pub use Rattle.olr_spec.specs.Footprint.{FootWith, Sees}
pub use Rattle.olr_spec.specs.Joins.{JoinsLast, JoinsTo, JoinedWith, Joins}
pub use Rattle.olr_spec.proofs.LawOf.{LawOf}
pub use Rattle.olr_spec.specs.Laws.{AnswerLaws, ChangeLaws, FieldLaws, MapLaws, MarginLaws, QueryLaws, RouteLaws}
pub use Rattle.olr_spec.specs.Map.{Add_line, Add_node, Agree, Drop_line, Drop_node, Edit, IsMap, Line, Map, Move_node, SameLine}
pub use Rattle.olr_spec.specs.Map.{SameRound, Set_line, coord_at, dm, edited, end, has, has_line, has_node, in_use, is_good}
pub use Rattle.olr_spec.specs.Map.{ascends_between, no_coord, no_line, touched_lines, unless, line_at, lines_in, lines_out}
pub use Rattle.olr_spec.specs.Map.{lines_where, start, touched_nodes, ShapePoint, are_coords}
pub use Rattle.olr_spec.specs.Margins.{CountedRoute, IsSoundFor, Margin, allowed, counted, counted_dm, counted_dm_of}
pub use Rattle.olr_spec.specs.Margins.{counted_lines, no_margin}
pub use Rattle.olr_spec.specs.Points.{CandidateWith, CoveredWith, FollowWith, OfPathWith, ValidCandidateWith, last_position}
pub use Rattle.olr_spec.specs.Points.{Greatest, NextWith, NoNextWith, To_end, To_passing, To_valid, fit16, node_at, stretch}
pub use Rattle.olr_spec.specs.Queries.{CoverageQuery, IsClear, IsLastTestedWith, IsQueryWith, KnownQuery, Needed, NodeOf}
pub use Rattle.olr_spec.specs.Queries.{QueriesOfWith, QueriesOfExtendedWith, Traversed, TraversedOf, TraversedOfExtended}
pub use Rattle.olr_spec.specs.Queries.{query_to_with, querying, IsKnownWith, QueriesFromWith}
pub use Rattle.olr_spec.specs.Receiver.{Measure, Receiver, RecoversLast, RecoversTo, Side, Within, candidates, coordinate_on}
pub use Rattle.olr_spec.specs.Receiver.{has_no_twin, is_nearest, node_on}
pub use Rattle.olr_spec.specs.Recovery.{IsClose, IsCut, IsWeighted, is_spaced}
pub use Rattle.olr_spec.specs.Reference.{First, Last, Middle, Reference, attrs_with, dm_along, dm_between, first_kept}
pub use Rattle.olr_spec.specs.Reference.{first_where, from_front, kept_points, last_kept, last_point, last_two, last_where, leg}
pub use Rattle.olr_spec.specs.Reference.{leg_at, legs, middle_points_with, no_leg, offset, position, reference, reference_with}
pub use Rattle.olr_spec.specs.Reference.{reference_by_with, reference_by_kept_with, to_back, Attrs, middle_point_with}
pub use Rattle.olr_spec.specs.Routes.{FirstSmaller, IsRoute, UniqueShortest, PrecedesInTieOrder, Reaches, dm_of, Least}
pub use Rattle.std.proofs.Common.{All, Bool, Contains, IfSome, IsTrue, List, MatchOption, None, Ok, Option, Result, Some, T, []}
pub use Rattle.std.proofs.Common.{IsFalse, IsOk, IsPermutation, IsSome, Less, MatchResult, add-zero, is_ok, ltb-false, ap}
pub use Rattle.std.proofs.Common.{append-nil, append_assoc, arith, cond, drop, drop-drop, eq-eqb, eqb-true, false, filter, find}
pub use Rattle.std.proofs.Common.{flat_map, fold, get_or, get_or-append-add, get_or-drop, inl, inr, int_le, is_some, le-leb}
pub use Rattle.std.proofs.Common.{le-ltb, leb-false, leb-true, length, length-append, length-drop, lt-ltb, ltb-true, map, max}
pub use Rattle.std.proofs.Common.{min, nat_abs, nat_cmp, nat_le, nat_lt, ne_eqb, negsuc, not, option_map, pos, refl, nat_eq}
pub use Rattle.std.proofs.Common.{of_z, rules, to_z, w16, w32, w64, ⊎_elim, ◌*ℤ◌, ◌+ℤ◌, ◌^◌, div-lt_iff_lt-mul, neg_ℤ, reverse}
pub use Rattle.std.proofs.Common.{slice_get, slice_index, slice_range, subst, suc, sym, take, take-add, take-append-drop, true}
pub use Rattle.std.proofs.Common.{unwrap_or, zero, ℕ, ℤ, ◌%◌, ◌&&◌, ◌*◌, ◌++◌, ◌+◌, ◌-ℤ◌, ◌-◌, ◌/◌, ◌<ℤ◌, ◌<◌, ◌==◌, ◌||◌, ◌↔◌}
pub use Rattle.std.proofs.Common.{◌∙◌, ◌∷◌, ◌≡◌, ◌≢◌, ◌≤ℤ◌, ◌≤◌, ◌⊎◌, Err, FitsSigned, IfErr}
pub use Rattle.std.proofs.Math.Bool.{Bool-discrete, and_comm, or_comm}
pub use Rattle.std.proofs.Math.Decide.{dec_le, dec_lt, map_dec, ℕ_discrete}
pub use Rattle.std.proofs.Math.Seq.{drop-append_seam, drop-cons}
pub use Rattle.std.proofs.lemmas.Bool.Decides.{nat_tests}
pub use Rattle.std.proofs.lemmas.Bool.{and_from, and_parts, both_ways, cases_Bool, cases_eq, cases_lt, cases_order, cond_both}
pub use Rattle.std.proofs.lemmas.Bool.{false_from_ne_true, lt-leb, not-true, not_from_false, not_from_true, or_from, not-false}
pub use Rattle.std.proofs.lemmas.Bool.{or_cases, or_left, or_parts, or_right, cond-false, cond-true}
pub use Rattle.std.proofs.lemmas.Cmp.{eq_by_cmp_equiv, ranked}
pub use Rattle.std.proofs.lemmas.Int.{ints, by_lt_z, to_z-of_z}
pub use Rattle.std.proofs.lemmas.List.Elements.{All-nil, All-cons, All-contains, All-from_recursion, All-push}
pub use Rattle.std.proofs.lemmas.List.Elements.{Contains-append_left, Contains-append_right, recursion_from_All}
pub use Rattle.std.proofs.lemmas.List.Folds.{list_any-append, list_any_at, list_all-map, Any-from_list_any}
pub use Rattle.std.proofs.lemmas.List.Sums.{AllPass-from_list_all, list_all-from_AllPass, take_while-cons, sum_by-append}
pub use Rattle.std.proofs.lemmas.List.{get_or-map, get_or-take, get_or_past, length-take, length-take-le, take-append-le}
pub use Rattle.std.proofs.lemmas.List.{length-map, take_more, drop-map, drop_all, drop_more, map-append, take-map, take_all}
pub use Rattle.std.proofs.lemmas.List.{reverse-append, append_cancel_right, get_or_append_left, get_or_default, reverse-reverse}
pub use Rattle.std.proofs.lemmas.Map.Entries.{option_filter, lookup-filter-values}
pub use Rattle.std.proofs.lemmas.Nat.{mul-le, pow-add}
pub use Rattle.std.proofs.lemmas.Option.{get_or_from_slice_get, slice_get-get_or, slice_get_within}
pub use Rattle.std.specs.Bool.{⊤}
pub use Rattle.std.specs.Char.{is_ascii_digit}
pub use Rattle.std.specs.Cmp.{nat_cmp_total, unsigned_tied}
pub use Rattle.std.specs.FinMap.{FinMap, entries, entries_sorted, get, insert, nat_cmp-IsAntisymmetric, remove, get-empty}
pub use Rattle.std.specs.FinMap.{get-entries, get-insert, get-remove, same_map}
pub use Rattle.std.specs.Int.{Width, w128}
pub use Rattle.std.specs.List.Sorted.{IsStrictlyIncreasing, IsBinarySearchResult}
pub use Rattle.std.specs.List.{AllByRecursion, AllZip, list_any, concat, list_all, IsDistinct}
