-- The events of a session with a log.
use Rattle.olr_log.proofs.Common.{◌≡◌, Bool, ℕ, List, Ok, Err, Result, AllOrFront, Known, Event, Writes, Buffered, RunFault}
use Rattle.olr_log.proofs.Common.{Gate}
use Rattle.olr_log.specs.Gates.{Passes}
use Rattle.olr_log.specs.LoggedRuns.{LogHappens, Concludes}
use Rattle.olr_log.specs.declared.logged.Logged.{Logged}
use Rattle.olr_log.specs.declared.journal.Journal as journal

module _ {S W J : Type 0} (left : S → List (List (List ℕ)) → Type 0) (contents : W → Known) (j : journal.Ghosts J) where
  abbrev Happens : Logged S J × Buffered W → Event → Logged S J × Buffered W → Type 0
  Happens a e b = LogHappens left contents j a.0 a.1 b.0 b.1 e

  pub writes_logged : (s t : Logged S J) (g : Gate J) (o p : Buffered W) (text : List ℕ) (accepted : Bool)
      (r : Result (Unit {0}) RunFault) → t.source ≡ s.source → Concludes j s.gate accepted g →
      AllOrFront (Passes j.stored j.may_leave contents g o t.gate p) text r → Writes Happens (s, o) text accepted (t, p) r
  writes_logged s t g o p text accepted (Ok done) same concluded passes = (same, (g, concluded, passes))
  writes_logged s t g o p text accepted (Err e) same concluded cut =
      (cut.0, cut.1, cut.2, cut.3, (same, (g, concluded, cut.4)), cut.5)
