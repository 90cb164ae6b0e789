-- How the program ends, given its command-line arguments, the results of opening the file and the log, and the bytes of file
-- and input; with --lines, each of their lines is one record.
--     run_code ended in_batch      the exit status of a run with a log: 6 exactly if it was not cut off and a batch is open
--     WithoutLog      a run without a log, from the empty register
--     FromLog, WithLog      a run from a log that was opened; or that could not be opened
--     NoSources      why what the arguments ask for can't be begun
--     EndsBy, Ends      the end by the options, and by the arguments
use Rattle.std.specs.Prelude.{◌≡◌, ◌⊎◌, ℕ, Bool, true, false, not, ◌&&◌, ◌||◌, List, [], Option, Some, None, Result, Ok, Err}
use Rattle.std.specs.Prelude.{is_ok, is_some, if◌then◌else◌, IsTrue}
use Rattle.clap.specs.Faults.{fault_of}
use Rattle.sqlite_disk.specs.declared.Disk as disk
use Rattle.olr_run.specs.Explains.{Explains}
use Rattle.olr_run.specs.Opens.{IsFile}
use Rattle.olr_run.specs.Options.{Options, keep_app, options}
use Rattle.olr_run.specs.Sizes.{IsLength, NoSize}
use Rattle.olr_log.specs.Logs.{as_journal, stored_of, left_of, is_native_of}
use Rattle.olr_log.specs.declared.folder.Folder as folder
use Rattle.olr_log.specs.declared.log_file.LogFile.{LogFile}
use Rattle.olr_log.specs.declared.unopened.OpenError.{OpenError}
use Rattle.olr_log.specs.declared.unopened.OpenError.TheVariants as unopened
use Rattle.olr_register.specs.Registered.{Registered, nothing_registered}
use Rattle.olr_run.specs.LogEnds.{Begins, Unbegun}
use Rattle.olr_run.specs.Logs.{Lasts, RanThrough}
use Rattle.olr_run.specs.Output.{Claims}
use Rattle.olr_run.specs.Runs.{Records, EndedOn, records_read}
use Rattle.olr_input.specs.Buffers.{written}
use Rattle.olr_input.specs.Sessions.{Known}
use Rattle.olr_run.specs.Statuses.{exit_code}
use Rattle.olr_input.specs.declared.buffered.Buffered.{Buffered}
use Rattle.olr_input.specs.declared.ends.RunFault.{RunFault}
use Rattle.olr_run.specs.declared.statuses.Status.{Status}
use Rattle.olr_log.specs.declared.gate.Gate.{Gate}

-- ---- without a log

pub record WithoutLog (stop : Bool) (records : Records) (before later : Known) (code : ℕ) : Type 0 where
  pub new : Registered
  pub end : Result Status RunFault
  pub ended : EndedOn Claims Claims stop nothing_registered records before new later end
  pub status : code ≡ exit_code end

-- ---- with a log

-- of a log that can't be opened
abbrev pub UnopenedCode : OpenError → ℕ → Type 0
UnopenedCode unopened.Missing code = code ≡ 2
UnopenedCode unopened.Exists code = code ≡ 2
UnopenedCode (unopened.InUse process) code = code ≡ 7
UnopenedCode (unopened.Lock error) code = code ≡ 3
UnopenedCode (unopened.Io error) code = (code ≡ 3) ⊎ (code ≡ 4)

-- of a log from which no run began: 5 exactly if it was rejected
abbrev pub UnbegunCode : Bool → ℕ → Type 0
UnbegunCode true code = code ≡ 5
UnbegunCode false code = (code ≡ 3) ⊎ (code ≡ 4)

abbrev pub run_code : Result Status RunFault → Bool → ℕ
run_code ended in_batch = if is_ok ended && in_batch then 6 else exit_code ended

-- options about a log, without one
abbrev pub lacks_log : Options → Bool
lacks_log o = not (is_some o.log) && (o.new || is_some o.compact_at)

-- what the options say can't be begun
pub data NoSources (Opened : List ℕ → Option Known → Type 0) (options : Options) (code : ℕ) : Type 0 where
  Log_lacking : lacks_log options ≡ true → code ≡ 2 → NoSources Opened options code
  Not_opened : (name : List ℕ) → options.file ≡ Some name → Opened name None → code ≡ 3 → NoSources Opened options code
  No_size : (text : List ℕ) → options.compact_at ≡ Some text → NoSize text → code ≡ 2 → NoSources Opened options code
  No_memory : code ≡ 4 → NoSources Opened options code

module _ {D F : Type 0} {d : disk.Ghosts D} {f : folder.Ghosts F D} where
  -- the result of opening a log of this name, or of making it
  abbrev pub OpensLog : (List ℕ → Bool → Bool → List ℕ → (List ℕ → Type 0) → Type 0) →
      (List ℕ → Bool → OpenError → Type 0) → List ℕ → Bool → Result (LogFile D F d f) OpenError → Type 0
  OpensLog MayBe Refuses name is_new (Ok log) = MayBe name is_new (is_native_of log) (stored_of log) (left_of log)
  OpensLog MayBe Refuses name is_new (Err e) = Refuses name is_new e

  -- what may be left of the log was left at the end of the run, or is all that is stored, if the run was not cut off
  abbrev pub LeftAfter : Gate (LogFile D F d f) → Result Status RunFault → LogFile D F d f → Type 0
  LeftAfter g end last =
      (t : List ℕ) → left_of last t → left_of g.journal t ⊎ (IsTrue (is_ok end) × (t ≡ stored_of g.journal))

module _ {D F : Type 0} {d : disk.Ghosts D} {f : folder.Ghosts F D} {W : Type 0} (contents : W → Known) where
  -- It could not begin, and nothing was answered; or it began, and its log was replaced from this length on.
  pub data FromLog (log last : LogFile D F d f) (least : ℕ) (stop : Bool) (records : Records) (o p : Buffered W) (code : ℕ) :
      Type 0 where
    Not_begun : p ≡ o → (rejected oversized : Bool) → UnbegunCode rejected code → Unbegun log last rejected oversized →
        FromLog log last least stop records o p code
    Begun : (read start : LogFile D F d f) (old new : Registered) → Begins log read start old →
        (end : Result Status RunFault) →
        EndedOn (Lasts stored_of left_of contents start o (left_of last) p)
        (Lasts stored_of left_of contents start o (left_of last) p) stop old records (written contents o) new
        (written contents p) end
        → (g : Gate (LogFile D F d f)) → RanThrough contents as_journal stop old start least o new g p end → LeftAfter g end last
        → code ≡ run_code end (is_some new.state.batch) → FromLog log last least stop records o p code

  -- by whether the log was opened; the log as it was left
  abbrev pub WithLog : Result (LogFile D F d f) OpenError → Option (LogFile D F d f) → ℕ → Bool → Records → Buffered W →
      Buffered W → ℕ → Type 0
  WithLog (Err e) left least stop records o p code = (p ≡ o) × (left ≡ None) × UnopenedCode e code
  WithLog (Ok log) left least stop records o p code =
      (last : LogFile D F d f) × (left ≡ Some last) × FromLog log last least stop records o p code

  -- ---- the program

  module _ (Opened : List ℕ → Option Known → Type 0)
      (OpenedLog : List ℕ → Bool → Result (LogFile D F d f) OpenError → Type 0) (input : Known) (o p : Buffered W)
      (left : Option (LogFile D F d f)) (code : ℕ) where
    -- a log is left only if the file that is named was opened, and the size is one
    pub data EndsBy (options : Options) : Type 0 where
      Without_sources : NoSources Opened options code → p ≡ o → left ≡ None → EndsBy options
      Without : options.log ≡ None → (file : Known) → IsFile options.file Opened file → left ≡ None →
          WithoutLog options.stop (records_read options.lines file input) (written contents o) (written contents p) code
          → EndsBy options
      With : (name : List ℕ) → options.log ≡ Some name → (file : Known) → IsFile options.file Opened file → (least : ℕ) →
          IsLength options.compact_at (Some least) → (opened : Result (LogFile D F d f) OpenError) →
          OpenedLog name options.new opened
          → WithLog opened left least options.stop (records_read options.lines file input) o p code → EndsBy options

    -- a run is made only if the arguments have no fault
    pub data Ends (arguments : List (List ℕ)) : Type 0 where
      Explained : Explains (fault_of keep_app arguments) (written contents o) (written contents p) code → left ≡ None →
          Ends arguments
      Carried_out : fault_of keep_app arguments ≡ [] → EndsBy (options arguments) → Ends arguments
