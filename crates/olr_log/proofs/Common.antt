-- The names that most proofs of olr_log cite, passed on from one place. Declares nothing.
pub use Rattle.csv.specs.Records.{fields_of}
pub use Rattle.olr_input.specs.Buffers.{is_empty}
pub use Rattle.olr_input.specs.RecordWords.{effect_by, word_effect}
pub use Rattle.olr_input.specs.Sessions.{AllOrFront, Event, IsOfTaking, Known, Writes}
pub use Rattle.olr_input.specs.declared.buffered.Buffered.{Buffered}
pub use Rattle.olr_input.specs.declared.ends.RunFault.{RunFault}
pub use Rattle.olr_input.specs.declared.ends.RunFault.TheVariants.{Write}
pub use Rattle.olr_input.specs.declared.record.Effect.{Effect}
pub use Rattle.olr_log.specs.Files.{HasText, IsBlank, IsFound, IsPadded, IsPaddedText, KeepsFirst, text_in}
pub use Rattle.olr_log.specs.Gates.{LostLine, Replacement, Storing, Untouched, is_closed}
pub use Rattle.olr_log.specs.Journals.{IsFront, MayHaveStored, is_whole, is_whole_from, stays_open}
pub use Rattle.olr_log.specs.Logs.{left_over_in, stored_of}
pub use Rattle.olr_log.specs.Outcomes.{LeavesText, MayLeave}
pub use Rattle.olr_log.specs.Reads.{OnlyReads}
pub use Rattle.olr_log.specs.Scanning.{Scanned, StandsAt}
pub use Rattle.olr_log.specs.States.{Stands, is_broken_in, is_ready_in, stored_in}
pub use Rattle.olr_log.specs.StoredLines.{IsLineFor, Turns, has_line, is_clean, line_of, turned}
pub use Rattle.olr_log.specs.Texts.{counts, ends_blank, ends_blank_behind, is_native, left_behind, longest_front, text_of}
pub use Rattle.olr_log.specs.declared.gate.Gate.{Gate}
pub use Rattle.olr_log.specs.declared.state.State.TheVariants.{Broken, Foreign, Opened, Ready}
pub use Rattle.olr_log.specs.declared.state.State.{State}
pub use Rattle.sqlite_disk.specs.Disk.{Cut, Follows, Holds, Mixed, Only, Torn}
pub use Rattle.sqlite_disk.specs.declared.Disk.{Ghosts}
pub use Rattle.std.proofs.Common.{Bool, List, None, Option, Some, [], ap, append_assoc, arith, drop, false, get_or, inl}
pub use Rattle.std.proofs.Common.{inr, length, length-append, length-drop, length-take, max, min, refl, replicate, rules, subst, suc}
pub use Rattle.std.proofs.Common.{sym, take, take-add, take-append-drop, true, zero, ℕ, ⊎_elim, ◌++◌, ◌+◌, ◌-◌, ◌<◌, ◌∙◌, ◌∷◌}
pub use Rattle.std.proofs.Common.{Err, Ok, vec_capacity, vec_len, ◌≡◌, ◌≢◌, ◌≤◌, ◌⊎◌}
pub use Rattle.std.proofs.KnownBytes.{Appends-nil, Appends-trans}
pub use Rattle.std.proofs.Math.Seq.{drop-length, take-length}
pub use Rattle.std.proofs.lemmas.Bool.{and_left, and_parts, and_right, cases_Bool, cases_eq, cases_lt, cond-false, cond-true}
pub use Rattle.std.proofs.lemmas.Bool.{both_ways, eq-eqb, eqb-true, ne_eqb, not-true}
pub use Rattle.std.proofs.lemmas.Grind.{same_number_lists}
pub use Rattle.std.proofs.lemmas.List.{append-nil, drop-append-le, drop-drop, drop-take, drop_all, drop_more, get_or-drop}
pub use Rattle.std.proofs.lemmas.List.{get_or-replicate, get_or-take, length-replicate, length-take-le, places, take-append-le}
pub use Rattle.std.proofs.lemmas.List.{drop_at, take-take, take_all, take_at, take_more, with_items_is}
pub use Rattle.std.proofs.lemmas.Result.{err_from_is_err_and, on_ok_weaker}
pub use Rattle.std.specs.Io.KnownBytes.{Appends}
pub use Rattle.std.specs.List.{join_with_byte}
pub use Rattle.std.specs.Prelude.{IsNone, IsTrue, codes, if◌then◌else◌, not, ◌&&◌, ◌==◌, ◌||◌, IfErr, IfOk, OnErr, Result, is_some}
pub use Rattle.std.specs.Str.{bytes_eq}
