-- The names that most proofs of olr_ambiguity cite, passed on from one place. Declares nothing.
pub use Rattle.olr_ambiguity.specs.Grids.{AreAdded, AreNodes, ArePlaced, AreWindows, IsGridOf, IsWindow, cell_at}
pub use Rattle.olr_ambiguity.specs.Grids.{cell_of, cells_from, is_in}
pub use Rattle.olr_ambiguity.specs.OwnLines.{side_of}
pub use Rattle.olr_ambiguity.specs.Places.{place_of}
pub use Rattle.olr_ambiguity.specs.declared.grid.Placed.{Placed}
pub use Rattle.olr_ambiguity.specs.declared.rivals.Window.{Window}
pub use Rattle.olr_answers.specs.Ambiguities.{found_of}
pub use Rattle.olr_bearing.proofs.Scaling.{coord_within, held}
pub use Rattle.olr_bearing.specs.Ranges.{degree_units}
pub use Rattle.olr_spec.proofs.Common.{All, Bool, Contains, Coord, IsFalse, IsMap, IsStrictlyIncreasing, IsTrue, List, Map}
pub use Rattle.olr_spec.proofs.Common.{Option, Reference, Side, Some, [], and_from, and_parts, ap, append-nil, append_assoc}
pub use Rattle.olr_spec.proofs.Common.{arith, both_ways, cases_Bool, cases_lt, coord_at, coordinate_on, drop, eq-eqb, eqb-true}
pub use Rattle.olr_spec.proofs.Common.{false, filter, get_or, get_or-drop, get_or-take, get_or_default, has, has_line, has_node}
pub use Rattle.olr_spec.proofs.Common.{inl, inr, ints, is_some, le-leb, leg, length, length-drop, length-take-le, list_any_at}
pub use Rattle.olr_spec.proofs.Common.{ltb-false, ltb-true, map, map-append, max, mul-le, nat_abs, nat_lt, ne_eqb, negsuc}
pub use Rattle.olr_spec.proofs.Common.{no_coord, node_on, not, or_cases, or_left, or_parts, pos, refl, slice_get, start, subst}
pub use Rattle.olr_spec.proofs.Common.{suc, sym, take, take_more, to_z, to_z-of_z, true, unwrap_or, w128, w64, within, ℕ, ℤ, ◌&&◌, ◌*◌, ◌++◌, is_coord, neg_ℤ}
pub use Rattle.olr_spec.proofs.Common.{◌+ℤ◌, ◌+◌, ◌-ℤ◌, ◌-◌, ◌/◌, ◌<◌, ◌==◌, ◌^◌, ◌↔◌, ◌∙◌, ◌∷◌, ◌≡◌, ◌≢◌, ◌≤ℤ◌, ◌≤◌, ◌⊎◌}
pub use Rattle.olr_spec.proofs.ListLemmas.{has-filter, has_here, has_there}
pub use Rattle.olr_spec.proofs.OptionLemmas.{some_of}
pub use Rattle.olr_spec.proofs.OrderLemmas.{all_nodes_ascend, exactly_in, exactly_out, has-all_nodes}
pub use Rattle.olr_spec.proofs.SameNumbers.{has_from, in_from, same_ascending}
pub use Rattle.olr_spec.proofs.BytesLemmas.{bounds}
pub use Rattle.olr_spec.proofs.SectorLemmas.{le_test}
pub use Rattle.olr_spec.specs.Ambiguity.{Obstacle, Other_bearing, Other_node, Same_sector, all_nodes, cosine_up_to, is_farther}
pub use Rattle.olr_spec.specs.Ambiguity.{is_outdone_for_all, is_rival, least_cosine, lines_on, obstacles_at, obstacles_from}
pub use Rattle.olr_spec.specs.Ambiguity.{side_at, thousandths_up, usual_slack, is_twin_of, is_unclear}
pub use Rattle.olr_spec.specs.Receiver.{Incoming, Outgoing, decoded_coord}
pub use Rattle.olr_spec.specs.Recovery.{lat_apart, lon_apart}
pub use Rattle.std.proofs.Common.{rules}
pub use Rattle.std.proofs.Math.Nat.{div-mul-le_self, le-div_iff_mul-le, mul-le-mul_left, div-le_self}
pub use Rattle.std.proofs.lemmas.Grind.{common_steps}
pub use Rattle.std.proofs.lemmas.List.Elements.{Contains-append_left, Contains-get_or, Contains-push, Contains-push_cases}
pub use Rattle.std.proofs.lemmas.List.Folds.{Any-from_list_any, list_any_more, list_any_none}
pub use Rattle.std.proofs.lemmas.Option.{get_or_from_slice_get, slice_get-get_or, slice_get_read, slice_get_within}
pub use Rattle.std.specs.FinMap.{get}
pub use Rattle.std.proofs.lemmas.List.{take_all}
pub use Rattle.std.specs.List.{list_any}
