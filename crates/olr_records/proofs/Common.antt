-- The names that most proofs of olr_records cite, passed on from one place. Declares nothing.
pub use Rattle.csv.specs.Records.{fields_of}
pub use Rattle.olr_commands.proofs.RecordLemmas.{joined}
pub use Rattle.olr_commands.specs.RecordText.{after_commas, fields_of_change, fields_of_coord, fields_of_path, fields_of_shape}
pub use Rattle.olr_commands.specs.RecordText.{record_line, fields_line}
pub use Rattle.olr_commands.specs.Recordable.{is_name, is_name_byte, is_recordable_coord, is_recordable_shape}
pub use Rattle.olr_commands.specs.State.{Add_path, Change, Drop_path, Make, On_map, Set_margin, Set_path, Show_margin, Command}
pub use Rattle.olr_commands.specs.Words.{entry_of, named_obstacle_of}
pub use Rattle.olr_coords.proofs.DegreesTextLemmas.{degrees-read, degrees-whole}
pub use Rattle.olr_coords.proofs.DigitLemmas.{own}
pub use Rattle.olr_coords.specs.DegreesText.{degrees_text, has_degrees_text}
pub use Rattle.olr_records.specs.Recorded.{HaveRecords, IsRecorded, Recorded, StaysRecorded, are_attributes, has_record}
pub use Rattle.olr_records.specs.Recorded.{is_amount, is_named_path, is_number, is_place, is_point}
pub use Rattle.olr_records.specs.Records.{Bad_form, Field, HoldsList, Out_of_range, Read, amount, attributes, class, coordinate}
pub use Rattle.olr_records.specs.Records.{edit, items, line_between, line_record, max32, name, node_fields, node_record, number}
pub use Rattle.olr_records.specs.Records.{numbers, path_fields, place, point, read, set_line_record, shape, value_or_fault}
pub use Rattle.olr_records.specs.Records.{whole_line, ◌⊛◌, digits}
pub use Rattle.olr_records.specs.ReplyText.{entry_line, middle_line, name_line, obstacle_line}
pub use Rattle.olr_records.specs.Words.{Gathers, Reads, ReadsBy, both}
pub use Rattle.olr_records.specs.declared.attributes.LineAttributes.{LineAttributes}
pub use Rattle.olr_records.specs.declared.faults.ReadFault.TheVariants.{Memory}
pub use Rattle.olr_records.specs.declared.faults.ReadFault.{ReadFault}
pub use Rattle.olr_spec.specs.Coordinates.{Coord, is_coord, is_latitude, is_longitude}
pub use Rattle.olr_spec.specs.Degrees.{degrees, digits_value, unit7}
pub use Rattle.olr_spec.specs.Extension.{Path}
pub use Rattle.olr_spec.specs.Map.{Add_line, Add_node, Drop_line, Drop_node, Edit, HasCoord, Line, Map, MapFault, Move_node}
pub use Rattle.olr_spec.specs.Map.{Set_line, ShapePoint, are_coords, edited, end, no_line, start}
pub use Rattle.std.proofs.Common.{arith, Bool, Err, IsTrue, List, None, Ok, Option, Result, Some, [], ap, append_assoc, drop}
pub use Rattle.std.proofs.Common.{drop-cons, false, filter, get_or, is_some, length, map, min, nat_cmp, nat_le, negsuc, not}
pub use Rattle.std.proofs.Common.{of_z, pos, refl, rules, subst, suc, sym, take, to_z, true, unwrap_or, w32, zero, ℕ, ℤ, ◌%◌}
pub use Rattle.std.proofs.Common.{◌&&◌, ◌*◌, ◌++◌, ◌+◌, ◌-◌, ◌/◌, ◌<◌, ◌==◌, ◌^◌, ◌∙◌, ◌∷◌, ◌≡◌, ◌≤◌}
pub use Rattle.std.proofs.lemmas.Bool.Decides.{nat_tests}
pub use Rattle.std.proofs.lemmas.Bool.{and_parts, cases_eq, eq-eqb, le-leb, leb-true, ne_eqb, cond_both}
pub use Rattle.std.proofs.lemmas.Fmt.{decimal_nonempty, digits_decimal, digits_value-decimal, length-decimal-le}
pub use Rattle.std.proofs.lemmas.Grind.{common_steps}
pub use Rattle.std.proofs.lemmas.List.Folds.{concat-append, list_all-append}
pub use Rattle.std.proofs.lemmas.List.{append-nil, drop_all, length-append, length-drop, length-map, map-append, take_all}
pub use Rattle.std.proofs.lemmas.List.{take_more, drop-drop, drop_at, length-take-le, nil_from_length, take_at}
pub use Rattle.std.specs.Char.{is_ascii_digit}
pub use Rattle.std.specs.List.{AllByRecursion, concat, join_with_byte, list_all, list_any, copy_within, prefix_len}
pub use Rattle.std.specs.Prelude.{IfOk, IfSome, IsOkAnd, decimal, if◌then◌else◌, nat_abs, ⊤, IsAscii, IsUtf8, String, codes}
pub use Rattle.std.specs.Prelude.{neg_ℤ, option_map, slice_index_or, string_bytes}
