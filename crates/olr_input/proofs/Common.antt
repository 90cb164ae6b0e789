-- The names that most proofs of olr_input cite, passed on from one place. Declares nothing.
pub use Rattle.csv.specs.Machine.{Read, carriage_return, ends_at_end, field_after, fields_after, in_field, is_end, line_feed}
pub use Rattle.csv.specs.Machine.{next_record, step}
pub use Rattle.csv.specs.Reading.{default_config, is_bom, strip_bom}
pub use Rattle.csv.specs.Records.{fields_of}
pub use Rattle.csv.specs.declared.parser.Action.{Action}
pub use Rattle.csv.specs.declared.parser.State.{State}
pub use Rattle.memchr.specs.Find.{NoneBefore, Nowhere, Passes, is_byte, is_byte2, is_byte3}
pub use Rattle.olr_input.specs.Blocks.{block_of, input_left}
pub use Rattle.olr_input.specs.LineRecords.{HasNoEnd, formless, if_any, is_rejected, line_left, unmarked}
pub use Rattle.olr_input.specs.Lines.{BetweenRecords, is_line_end}
pub use Rattle.olr_input.specs.Machine.{csv_state, is_quoted, state_after}
pub use Rattle.olr_input.specs.Sessions.{csv_left, csv_records, AllOrFront, Event, HasNone, History, IsPlain, Known, StaysPlain, TakesLeft, TakesOne}
pub use Rattle.olr_input.specs.declared.ends.RunFault.TheVariants.{Write}
pub use Rattle.std.proofs.Common.{Bool, Err, List, None, Ok, Option, Some, [], add-one, ap, arith, drop, drop-cons}
pub use Rattle.std.proofs.Common.{false, get_or, get_or-drop, inl, inr, length, length-append, length-drop, length-take, map}
pub use Rattle.std.proofs.Common.{min, not, refl, rules, subst, suc, sym, take, true, unwrap_or, zero, ℕ}
pub use Rattle.std.proofs.Common.{◌++◌, ◌+◌, ◌-◌, ◌<◌, ◌==◌, ◌∙◌, ◌∷◌, ◌≡◌, ◌≢◌, ◌≤◌, ◌⊎◌}
pub use Rattle.std.proofs.KnownBytes.{Appends-kept, Appends-trans, prepend_known-nil, prepend_known-read}
pub use Rattle.std.proofs.Math.Seq.{drop-length, paste, take-add, take-length}
pub use Rattle.std.proofs.lemmas.Bool.{and_parts, cases_Bool, cond_both, eqb-true, or_cases}
pub use Rattle.std.proofs.lemmas.List.{append-nil, append_assoc, drop-drop, drop-take, map-append}
pub use Rattle.std.proofs.lemmas.List.{places, take-append-drop, take_all, take_at, take_more, with_items_is}
pub use Rattle.std.specs.Io.KnownBytes.{Appends, Consumes, IsAtEnd, Keeps, prepend_known}
pub use Rattle.std.specs.List.{list_any}
pub use Rattle.std.specs.Prelude.{IfSome, if◌then◌else◌, option_map, slice_index}
