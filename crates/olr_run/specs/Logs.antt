-- What is known of a run with a log, at its end.
--     Began      the log led to the content of the register, no batch was open, and no answer was held back
--     Lasts, LastsWhole      what the log may leave then, and what was sent of the answers
--     RanThrough      the history of its gate, which says when the log was replaced: from this length on, and when else
use Rattle.std.specs.Prelude.{◌≡◌, ℕ, Bool, false, List, [], None, Result, IfOk, IfErr, OnOk}
use Rattle.std.specs.Io.KnownBytes.{Appends}
use Rattle.olr_commands.specs.State.{State}
use Rattle.olr_commands.specs.Reply.{Outcome}
use Rattle.olr_records.specs.Records.{Field}
use Rattle.olr_run.specs.Logged.{Leads, UpTo, Survives}
use Rattle.olr_run.specs.Output.{Claims}
use Rattle.olr_run.specs.Runs.{RanIn, CutIn, once_sent}
use Rattle.olr_register.specs.Registered.{Registered}
use Rattle.olr_input.specs.Buffers.{pending}
use Rattle.olr_log.specs.Gates.{IsNew, Passes, is_closed, ready}
use Rattle.olr_log.specs.Journals.{Only}
use Rattle.olr_log.specs.LoggedRuns.{GateHappens}
use Rattle.olr_input.specs.Sessions.{Known}
use Rattle.olr_input.specs.declared.buffered.Buffered.{Buffered}
use Rattle.olr_input.specs.declared.ends.RunFault.{RunFault}
use Rattle.olr_run.specs.declared.statuses.Status.{Status}
use Rattle.olr_log.specs.declared.gate.Gate.{Gate}
use Rattle.olr_log.specs.declared.journal.Journal as journal

module _ {J W : Type 0} (stored : J → List ℕ) (may_leave : J → List ℕ → Type 0) (contents : W → Known) where
  -- a run from s with a log that led to the content of s
  pub record Began (s : State) (j : J) (o : Buffered W) : Type 0 where
    pub closed_batch : s.batch ≡ None
    pub only : Only (stored j) (may_leave j)
    pub leads : Leads (stored j) s.content
    pub none_pending : pending o ≡ []

  -- however the run ended, each text that may be left of the log leads to the content after the first of the outcomes, and
  -- of the texts of later ones nothing was sent
  abbrev pub Lasts : J → Buffered W → (List ℕ → Type 0) → Buffered W → State → List (List Field) → List Outcome → State → Type 0
  Lasts j o left p s rs os t =
      Claims s rs os t
      × (Began s j o → (sent : List ℕ) × Appends (contents o.device) (contents p.device) sent × Survives s rs os left sent)

  -- a whole run: the log leads to the content at its end
  abbrev pub LastsWhole : J → Buffered W → Gate J → Buffered W → State → List (List Field) → List Outcome → State → Type 0
  LastsWhole j o g p s rs os t =
      Claims s rs os t
      × (Began s j o → (sent : List ℕ) × Appends (contents o.device) (contents p.device) sent
      × Survives s rs os (may_leave g.journal) sent × UpTo s rs os t.content sent
      × Leads (stored g.journal) t.content × Only (stored g.journal) (may_leave g.journal))

-- the records went through a new gate of this log, one exchange after another; then what was left was stored and sent, or that
-- failed
pub record RanThrough {J W : Type 0} (contents : W → Known) (j : journal.Ghosts J) (stop : Bool) (old : Registered) (log : J)
    (least : ℕ) (o : Buffered W) (new : Registered) (g : Gate J) (p : Buffered W) (end : Result Status RunFault) : Type 0 where
  pub first : Gate J
  pub is_new : IsNew j log least first
  pub last : Gate J
  pub mid : Buffered W
  pub ended : Result Status RunFault
  pub ran : IfOk ended (RanIn (GateHappens contents j) stop old (first, o) new (last, mid))
  pub cut : IfErr ended (CutIn (GateHappens contents j) stop old (first, o) new (last, mid))
  pub sent : Result (Unit {0}) RunFault
  pub sends : Passes j.stored j.may_leave contents last mid g p []
  pub stored : OnOk sent ((ready g ≡ []) × (is_closed g ≡ false))
  pub is : end ≡ once_sent ended sent
