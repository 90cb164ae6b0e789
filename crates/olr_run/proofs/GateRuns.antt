-- The history of a gate, from that of its session.
use Rattle.olr_run.proofs.Common.{Past_the_most, Compaction, Exchanged, In_taking, History, No_text, In_text, Buffered, Registered}
use Rattle.olr_run.proofs.Common.{Field, Known, Event, RunFault, Status, RanIn, CutIn, Took, Ended, Not_taken, Wrote, Compacted}
use Rattle.olr_run.proofs.Common.{Unasked, Given, Lacking, Gate, Bool, List, ◌≡◌, ◌∙◌, ◌∷◌, [], IfOk, IfErr, ap, sym}
use Rattle.std.specs.Prelude.{Ok, Err, Result}
use Rattle.olr_run.specs.Runs as runs
use Rattle.olr_log.specs.LoggedRuns.{GateHappens}
use Rattle.olr_input.specs.Sessions.{Cut}
use Rattle.olr_input.specs.Sessions as event
use Rattle.olr_log.specs.declared.logged.Logged.{Logged}
use Rattle.olr_log.specs.declared.journal.Journal as journal
use Rattle.olr_run.proofs.LoggedRuns.{Happens}

module _ {S W J : Type 0} (left : S → List (List Field) → Type 0) (contents : W → Known) (j : journal.Ghosts J) where
  abbrev pub gate_in : Logged S J × Buffered W → Gate J × Buffered W
  gate_in m = (m.0.gate, m.1)

  of_gate : (es : List Event) (a b : Logged S J × Buffered W) → History (Happens left contents j) a es b →
      History (GateHappens contents j) (gate_in a) es (gate_in b)
  of_gate [] a b h = ap gate_in h
  of_gate (e ∷ es) a b h = (gate_in h.0, h.1.1, of_gate es h.0 b h.2)

  abbrev exchanged : {es : List Event} (a b : Logged S J × Buffered W) → Exchanged (Happens left contents j) a b es →
      Exchanged (GateHappens contents j) (gate_in a) (gate_in b) es
  exchanged a b x = record { done = x.done; history = of_gate _ a b x.history }

  module _ (stop : Bool) (old new : Registered) (a b : Logged S J × Buffered W) where
    pub gate_ran : (r : Result Status RunFault) → IfOk r (RanIn (Happens left contents j) stop old a new b) →
        IfOk r (RanIn (GateHappens contents j) stop old (gate_in a) new (gate_in b))
    gate_ran (Ok end) ran = record { x = exchanged a b ran.x; answered = ran.answered }
    gate_ran (Err e) ran = tt

    pub gate_cut : (r : Result Status RunFault) → IfErr r (CutIn (Happens left contents j) stop old a new b) →
        IfErr r (CutIn (GateHappens contents j) stop old (gate_in a) new (gate_in b))
    gate_cut (Ok end) cut = tt
    gate_cut (Err e) (In_taking of x answered) = In_taking of (exchanged a b x) answered
    gate_cut (Err e) (runs.Not_sent is x answered) = runs.Not_sent is (exchanged a b x) answered
    gate_cut (Err e) (Past_the_most is r x most answered) = Past_the_most is r (exchanged a b x) most answered
    gate_cut (Err e) (No_text is r w x answered) = No_text is r w (exchanged a b x) answered
    gate_cut (Err e) (In_text is r front rest accepts some x answered) = In_text is r front rest accepts some (exchanged a b x) answered

-- ---- a log is replaced from the same length on

module _ {W J : Type 0} (contents : W → Known) (j : journal.Ghosts J) where
  same_length : (a b : Gate J × Buffered W) (e : Event) → GateHappens contents j a e b → b.0.compacted_from ≡ a.0.compacted_from
  same_length a b (Took fields) h = h.2.untouched.length ∙ ap (λ (c : Compaction). c.compacted_from) h.1.due
  same_length a b Ended h = ap (λ (c : Compaction). c.compacted_from) h.due
  same_length a b (Not_taken e) h = h.2.untouched.length ∙ ap (λ (c : Compaction). c.compacted_from) h.1.due
  same_length a b event.Not_sent h = ap (λ (c : Compaction). c.compacted_from) h.due
  same_length a b (Wrote answer) h = ap (λ (c : Compaction). c.compacted_from) h.2.due ∙ h.1.untouched.length
  same_length a b (Cut front rest accepts) h = ap (λ (c : Compaction). c.compacted_from) h.2.due ∙ h.1.untouched.length
  same_length a b (Compacted Unasked) h = ap (λ (g : Gate J). g.compacted_from) h.0
  same_length a b (Compacted (Given records)) h = h.2.length
  same_length a b (Compacted Lacking) h = h.2.untouched.length

  keeps_length : (es : List Event) (a b : Gate J × Buffered W) → History (GateHappens contents j) a es b →
      b.0.compacted_from ≡ a.0.compacted_from
  keeps_length [] a b h = ap (λ (m : Gate J × Buffered W). m.0.compacted_from) (sym h)
  keeps_length (e ∷ es) a b h = keeps_length es h.0 b h.2 ∙ same_length a h.0 e h.1

  pub run_length : (stop : Bool) (old new : Registered) (a b : Gate J × Buffered W) (r : Result Status RunFault) →
      IfOk r (RanIn (GateHappens contents j) stop old a new b) → IfErr r (CutIn (GateHappens contents j) stop old a new b) →
      b.0.compacted_from ≡ a.0.compacted_from
  run_length stop old new a b (Ok end) ran cut = keeps_length _ a b ran.x.history
  run_length stop old new a b (Err e) ran (In_taking of x answered) = keeps_length _ a b x.history
  run_length stop old new a b (Err e) ran (runs.Not_sent is x answered) = keeps_length _ a b x.history
  run_length stop old new a b (Err e) ran (Past_the_most is r x most answered) = keeps_length _ a b x.history
  run_length stop old new a b (Err e) ran (No_text is r w x answered) = keeps_length _ a b x.history
  run_length stop old new a b (Err e) ran (In_text is r front rest accepts some x answered) = keeps_length _ a b x.history
