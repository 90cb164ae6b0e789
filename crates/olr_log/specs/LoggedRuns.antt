-- The events of a session with a log.
--     Concludes j g accepted h      the record whose line was taken last was accepted or rejected
--     GateHappens      the events of a gate and of an output
--     SourceHappens      those of a source of records
--     LogHappens      those of a session: both
use Rattle.std.specs.Prelude.{◌≡◌, ℕ, Bool, true, false, List, [], ⊤}
use Rattle.olr_log.specs.Gates.{Passes, Untouched, ConcludedBy, TookLine, LostLine, Compacts, PutsOff, asks, compaction}
use Rattle.olr_log.specs.Gates.{put_off, concluded_compaction}
use Rattle.olr_input.specs.Sessions.{Known, Event, Took, Ended, Not_taken, Not_sent, Wrote, Cut, Compacted, Unasked}
use Rattle.olr_input.specs.Sessions.{Given, Lacking, TakesOne, HasNone}
use Rattle.olr_input.specs.declared.buffered.Buffered.{Buffered}
use Rattle.olr_log.specs.declared.gate.Gate.{Gate}
use Rattle.olr_log.specs.declared.journal.Journal as journal
use Rattle.olr_log.specs.declared.logged.Logged.{Logged}

pub record Concludes {J : Type 0} (j : journal.Ghosts J) (g : Gate J) (accepted : Bool) (h : Gate J) : Type 0 where
  pub untouched : Untouched g h
  pub due : compaction h ≡ concluded_compaction (j.size g.journal) accepted g.unstored.effect (compaction g)
  pub concluded : ConcludedBy g.unstored accepted h.unstored

module _ {W J : Type 0} (contents : W → Known) (j : journal.Ghosts J) where
  abbrev pub GateHappens : Gate J × Buffered W → Event → Gate J × Buffered W → Type 0
  GateHappens a (Took fields) b = (g : Gate J) × Passes j.stored j.may_leave contents a.0 a.1 g b.1 [] × TookLine g fields b.0
  GateHappens a Ended b = Passes j.stored j.may_leave contents a.0 a.1 b.0 b.1 []
  GateHappens a (Not_taken e) b = (g : Gate J) × Passes j.stored j.may_leave contents a.0 a.1 g b.1 [] × LostLine g b.0
  GateHappens a Not_sent b = Passes j.stored j.may_leave contents a.0 a.1 b.0 b.1 []
  GateHappens a (Wrote answer) b =
      (g : Gate J) × Concludes j a.0 answer.1 g × Passes j.stored j.may_leave contents g a.1 b.0 b.1 answer.0
  GateHappens a (Cut front rest accepts) b =
      (g : Gate J) × Concludes j a.0 accepts g × Passes j.stored j.may_leave contents g a.1 b.0 b.1 front
  GateHappens a (Compacted Unasked) b = (b.0 ≡ a.0) × (b.1 ≡ a.1) × (asks a.0 ≡ false)
  GateHappens a (Compacted (Given records)) b =
      (b.1 ≡ a.1) × (asks a.0 ≡ true) × Compacts j a.0 records b.0
      × (compaction b.0 ≡ put_off (j.size b.0.journal) (compaction a.0))
  GateHappens a (Compacted Lacking) b = (b.1 ≡ a.1) × (asks a.0 ≡ true) × PutsOff j a.0 b.0

abbrev pub SourceHappens : {S : Type 0} → (S → List (List (List ℕ)) → Type 0) → S → Event → S → Type 0
SourceHappens left s (Took fields) t = TakesOne (left s) (left t) fields
SourceHappens left s Ended t = HasNone (left s)
SourceHappens left s (Not_taken e) t = ⊤
SourceHappens left s _ t = t ≡ s

module _ {S W J : Type 0} (left : S → List (List (List ℕ)) → Type 0) (contents : W → Known) (j : journal.Ghosts J) where
  abbrev pub LogHappens : Logged S J → Buffered W → Logged S J → Buffered W → Event → Type 0
  LogHappens s o t p e = SourceHappens left s.source e t.source × GateHappens contents j (s.gate, o) e (t.gate, p)
