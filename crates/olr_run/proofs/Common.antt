-- The names that most proofs of olr_run cite, passed on from one place. Declares nothing.
pub use Rattle.clap.specs.Kinds.{HasKind}
pub use Rattle.clap.specs.Simple.{App, app_of, is_simple, matches_of, with_rule}
pub use Rattle.clap.specs.Walk.{Rule, first_of, rows_of, rule_of}
unfoldable pub use Rattle.csv.proofs.OnLiterals.{csv_on_literals}
pub use Rattle.csv.specs.Records.{fields_of}
pub use Rattle.olr_answers.specs.Answers.{refusal_of}
pub use Rattle.olr_commands.proofs.DumpLemmas.{dumps_run}
pub use Rattle.olr_commands.proofs.HistoryLemmas.{Claimed, headline_of, is_dumped, is_named, is_refused, outcome_leads}
pub use Rattle.olr_commands.proofs.HistoryLemmas.{run_join, run_longer, run_more}
pub use Rattle.olr_commands.proofs.StateLemmas.{Ends, after_push, ends, next_ok}
pub use Rattle.olr_commands.specs.History.{Whole}
pub use Rattle.olr_commands.specs.Dump.{dump_changes, dump_lines, steps}
pub use Rattle.olr_commands.specs.RecordText.{fields_line, fields_of_change}
pub use Rattle.olr_commands.specs.Reply.{ByState, IsOutcome, IsRefusal, IsReply, Outcome, Paths, lacks_memory, may_lack, AllOf}
pub use Rattle.olr_commands.specs.Reply.{Entry, Lacks, Reply, entry, published_text}
pub use Rattle.olr_commands.specs.State.{Abort, Add_path, Begin, Change, Command, Commit, Compact, Content, Drop_path, Dump}
pub use Rattle.olr_commands.specs.State.{Explain, Fault, IsContent, Make, Map_fault, Memory, Named, Not_a_record, On_map}
pub use Rattle.olr_commands.specs.State.{Preview, Report, Set_margin, Set_path, Show, Show_line, Show_margin, Show_node, State}
pub use Rattle.olr_commands.specs.State.{after, full, is_recordable, start_state, step, step_in, when, with_change, with_held}
pub use Rattle.olr_commands.specs.Words.{command_fault_of, command_of, outcome_of}
pub use Rattle.olr_input.specs.Buffers.{is_empty, pending, written}
pub use Rattle.olr_log.specs.Gates.{Compaction, Passes, Untouched, is_closed, ready}
pub use Rattle.olr_input.specs.InMemory.{left_of}
pub use Rattle.olr_input.specs.Inputs.{input_records}
pub use Rattle.olr_log.specs.Journals.{IsFront, Only}
pub use Rattle.olr_log.specs.LoggedRuns.{Concludes, LogHappens}
pub use Rattle.olr_input.specs.Sessions.{Answer, Compacted, Given, HasNone, Lacking, Replacement, TakesOne, Unasked, Cut, Ended}
pub use Rattle.olr_input.specs.Sessions.{Event, History, IsOfTaking, Known, Not_sent, Not_taken, Took, Wrote}
pub use Rattle.olr_run.specs.Statuses.{exit_code}
pub use Rattle.olr_log.specs.StoredLines.{Waiting, effect_of, has_line}
pub use Rattle.olr_log.specs.Unstored.{next_line, waiting}
pub use Rattle.olr_input.specs.declared.buffered.Buffered.{Buffered}
pub use Rattle.olr_input.specs.declared.ends.RunFault.{RunFault}
pub use Rattle.olr_run.specs.declared.statuses.Status.{Status}
pub use Rattle.olr_log.specs.declared.gate.Gate.{Gate}
pub use Rattle.olr_input.specs.declared.in_memory.InMemory.{InMemory}
pub use Rattle.olr_input.specs.declared.record.Effect.{Effect}
pub use Rattle.olr_paths.specs.Items.{Results, results_of, left}
pub use Rattle.olr_records.proofs.ReadLemmas.{read_recorded, two}
pub use Rattle.olr_records.proofs.RecordLines.{PlainRecord, all_lines, lines_read, plain_record, records_split}
pub use Rattle.olr_records.proofs.RecordedLemmas.{recorded_dumps, start_recorded, step_stays}
pub use Rattle.olr_records.proofs.WrittenLemmas.{record_back}
pub use Rattle.olr_records.specs.Recorded.{HaveRecords, IsRecorded, StaysRecorded}
pub use Rattle.olr_records.specs.Records.{Field, read, Read}
pub use Rattle.olr_records.specs.ReplyText.{count_line, fault_text, outcome_text, reply_text, entry_line}
pub use Rattle.olr_register.specs.Built.{Changes, IsChange}
pub use Rattle.olr_register.specs.RegisterState.{Represents}
pub use Rattle.olr_register.specs.Registered.{Registered, AllPublished, HaveEncodings, nothing_registered}
pub use Rattle.olr_run.specs.Ends.{Begun, Carried_out, Explained, LeftAfter, Log_lacking, No_size, Not_begun, Not_opened, With}
pub use Rattle.olr_run.specs.Ends.{Without, Without_sources, run_code, No_memory}
pub use Rattle.olr_run.specs.LogEnds.{AreRecordsOf, Begins, BeginsWith, Unbegun, is_oversized, is_rejected}
pub use Rattle.olr_run.specs.Logged.{Accepted, IsLogged, Leads, LeadsFrom, Survives, UpTo, closed}
pub use Rattle.olr_run.specs.Logs.{Began, Lasts, LastsWhole}
pub use Rattle.olr_run.specs.Opens.{IsFile, Opens, OpensFile}
pub use Rattle.olr_run.specs.Options.{options_of, is_set, keep_app, with_long, with_short}
pub use Rattle.olr_run.specs.Output.{AllHadMemory, AreAnswered, Claims, CommandOutcome, In_last, Outcomes, RecordOutcome}
pub use Rattle.olr_run.specs.Output.{IsDumpOf, Ran, StopsAtFault, any_refused, decoded_command, run_status}
pub use Rattle.olr_run.specs.Output.{SoundOutcome, SoundOutcomes, most_records, records_of, texts, Builds, Dumps, Faulted}
pub use Rattle.olr_run.specs.Restored.{HasContentOf, InPlace, IsContentOf, LeadsNowhere, Loaded, Loads, LoadsRecord}
pub use Rattle.olr_run.specs.Restored.{Refuses, RefusesRecord, is_rejection}
pub use Rattle.olr_run.specs.Runs.{AreReplacement, joined_records, AnswersRecord, IsReplacement, Past_the_most, records_taken}
pub use Rattle.olr_run.specs.Runs.{records_read, answer_text, last_events, AnsweredOn, CarriedOut, HadTooMany, IsExchange, GoesOn}
pub use Rattle.olr_run.specs.Runs.{file_bytes, FaultedOn, Exchanged, In_taking, answer_of, events_of, once_sent, unwritten, CutIn}
pub use Rattle.olr_run.specs.Runs.{IsAnswer, Exchange, IsReport, In_text, LeadsOn, No_text, Records, EndedOn, RanIn, RanOn}
pub use Rattle.olr_run.specs.Sizes.{IsLength, NoSize}
pub use Rattle.olr_run.specs.declared.loader.Loader.{Loader}
pub use Rattle.olr_spec.specs.Encoding.{Refusal}
pub use Rattle.olr_spec.specs.Map.{Map}
pub use Rattle.olr_spec.specs.Margins.{Margin}
pub use Rattle.std.proofs.Common.{Bool, Err, List, None, Some, ap₂, arith, codes, false, refl, rules, subst, true, ◌++◌}
pub use Rattle.std.proofs.Common.{IsTrue, Option, Result, eq-eqb, eqb-true, length, length-append, nat_cmp}
pub use Rattle.std.proofs.Common.{Ok, [], ap, inl, inr, map, not, suc, sym, ℕ, ◌+◌, ◌-◌, ◌<◌, ◌∙◌, ◌∷◌, ◌≡◌, ◌≢◌, ◌≤◌, ◌⊎◌}
pub use Rattle.std.proofs.KnownBytes.{Appends-kept, Appends-nil, Appends-trans, Keeps-refl}
pub use Rattle.std.proofs.Math.Bool.{and-false, or-false, or-true}
pub use Rattle.std.proofs.lemmas.Bool.Decides.{nat_tests}
pub use Rattle.std.proofs.lemmas.Bool.{both_ways, cases_Bool, or_parts, and_parts, ne_eqb}
pub use Rattle.std.proofs.lemmas.List.Concat.{flat_map-append}
pub use Rattle.std.proofs.lemmas.List.Folds.{list_any-append}
pub use Rattle.std.proofs.lemmas.List.{append-nil, append_assoc, length-map, map-append}
pub use Rattle.std.proofs.lemmas.Result.{IfErr-weaker, IfOk-weaker, err_from_is_err_and}
pub use Rattle.std.specs.Borrow.{Bor}
pub use Rattle.std.specs.Io.KnownBytes.{Appends, Keeps, append_known}
pub use Rattle.std.specs.List.{AllByRecursion, concat, join_with_byte, list_all}
pub use Rattle.std.specs.Option.{option_map_or}
pub use Rattle.std.specs.Prelude.{IfErr, IfSome, IsFalse, if◌then◌else◌, is_err, is_ok, ⊤, ◌&&◌, ◌||◌, IfOk, OnOk, flat_map}
pub use Rattle.std.specs.Prelude.{is_some, nat_le, ◌==◌}
pub use Rattle.std.specs.Result.{result_map_both}
