-- The records that a run has answered so far.
use Rattle.olr_run.proofs.Common.{list_any-append, flat_map-append, AreReplacement, if◌then◌else◌, SoundOutcomes, Past_the_most}
use Rattle.olr_run.proofs.Common.{AnswersRecord, length-append, records_taken, most_records, StopsAtFault, any_refused, Not_taken}
use Rattle.olr_run.proofs.Common.{Replacement, last_events, cases_Bool, run_status, IsExchange, append-nil, Represents, IsContent}
use Rattle.olr_run.proofs.Common.{Registered, IsOfTaking, AnsweredOn, In_taking, Exchanged, events_of, unwritten, Compacted, ◌&&◌}
use Rattle.olr_run.proofs.Common.{and-false, RunFault, run_more, Exchange, or-false, flat_map, or_parts, Not_sent, No_text, Wrote}
use Rattle.olr_run.proofs.Common.{Unasked, or-true, In_text, History, Outcome, is_err, length, Result, GoesOn, Answer, Status, []}
use Rattle.olr_run.proofs.Common.{RanIn, CutIn, arith, false, subst, State, is_ok, Field, Event, Ended, ◌||◌, Took, Bool, true, ℕ}
use Rattle.olr_run.proofs.Common.{List, ◌++◌, refl, Cut, ◌≡◌, ◌∙◌, ◌+◌, not, ◌∷◌, ◌⊎◌, Err, inl, inr, sym, Ok, ap, ⊤}
use Rattle.olr_input.proofs.SessionLemmas.{history_join}
use Rattle.olr_commands.specs.History.{Run}
use Rattle.olr_run.specs.Runs as runs
use Rattle.olr_run.proofs.RunLemmas.{sound_after, claims_of, none_claimed}
use Rattle.olr_run.specs.declared.statuses.Status.TheVariants as ended
use Rattle.olr_input.specs.declared.ends.RunFault.TheVariants as fault

-- ---- outcomes

-- the status of a run, by whether some record was rejected
abbrev pub status_by : Bool → Bool → Status
status_by stop b = if b then (if stop then ended.Stopped else ended.SomeRefused) else ended.AllAccepted

pub stopped_is : (stop b : Bool) → ended.Stopped ≡ status_by stop b → (stop && b) ≡ true
stopped_is stop b e = grind (arith, cases_Bool)

-- if none of the first ends the run
pub stops_join : (stop : Bool) (os qs : List Outcome) → (stop && any_refused os) ≡ false → StopsAtFault stop os →
    StopsAtFault stop qs → StopsAtFault stop (os ++ qs)
stops_join stop [] qs n h k = k
stops_join true (o ∷ os) qs n h k = grind (arith, or_parts, stops_join true os qs)
stops_join false (o ∷ os) qs n h k = grind (arith, stops_join false os qs)

refused_more : (os : List Outcome) (o : Outcome) (b : Bool) → is_ok o ≡ b →
    any_refused (os ++ o ∷ []) ≡ (any_refused os || not b)
refused_more os (Ok r) b e = list_any-append is_err os (Ok r ∷ []) ∙ ap (λ (x : Bool). any_refused os || not x) e
refused_more os (Err f) b e = list_any-append is_err os (Err f ∷ []) ∙ ap (λ (x : Bool). any_refused os || not x) e

-- the run goes on after these outcomes, and would end with this status
abbrev pub Going : Bool → Status → List Outcome → Type 0
Going stop end os = ((stop && any_refused os) ≡ false) × (end ≡ run_status stop os)

accepted_goes : (stop : Bool) (end : Status) (os : List Outcome) (o : Outcome) → is_ok o ≡ true → Going stop end os →
    Going stop end (os ++ o ∷ [])
accepted_goes stop end os o is g = rw (refused_more os o true is, or-false (any_refused os)) g

refused_goes : (os : List Outcome) (o : Outcome) → is_ok o ≡ false → Going false ended.SomeRefused (os ++ o ∷ [])
refused_goes os o is = rw (refused_more os o false is, or-true (any_refused os)) (refl, refl)

-- ---- the records so far

-- the records of the register were given, if they were asked for
abbrev pub Compacts : {S : Type 0} → (S → Event → S → Type 0) → Registered → S → S → Type 0
Compacts happens register before later =
    (replacement : Replacement) × AreReplacement register replacement × happens before (Compacted replacement) later

pub record SoFar {S : Type 0} (happens : S → Event → S → Type 0) (stop : Bool) (old : Registered) (before : S)
    (now : Registered) (later : S) (end : Status) (n : ℕ) : Type 0 where
  pub done : List Exchange
  pub count : length done ≡ n
  pub history : History happens before (flat_map events_of done) later
  pub last : last_events end ≡ Ended ∷ []
  pub answered : AnsweredOn stop (Going stop end) old done now

-- the states that a register represents have its content
pub represented : (old : Registered) (s : State) → IsContent old.state.content → Represents old.state s →
    IsContent s.content
represented old s sound represents = subst IsContent represents.0 sound

weaker : (stop : Bool) (And Then : List Outcome → Type 0) (old now : Registered) (xs : List Exchange) →
    ((os : List Outcome) → And os → Then os) → AnsweredOn stop And old xs now → AnsweredOn stop Then old xs now
weaker stop And Then old now xs give h s represents =
    let so = h s represents in (so.0, so.1, so.2, so.3, so.4, so.5, give so.2 so.6)

-- the records that were taken have these outcomes
taken_run : (s t : State) (xs : List Exchange) (os : List Outcome) → Run IsExchange s xs os t →
    SoundOutcomes s (records_taken xs) os t
taken_run s t xs [] h = h
taken_run s t [] (o ∷ os) h = absurd h
taken_run s t (x ∷ xs) (o ∷ os) h = (h.0, h.1.0, taken_run h.0 t xs os h.2)

module _ {S : Type 0} (happens : S → Event → S → Type 0) (stop : Bool) (old : Registered) (before : S)
    (base : IsContent old.state.content) where
  -- before the first record
  pub so_far_none : SoFar happens stop old before old before ended.AllAccepted 0
  so_far_none =
      record {
        done = [];
        count = refl;
        history = refl;
        last = refl;
        answered = λ s represents.
            let none = none_claimed s [] (represented old s base represents) in
            (s, represents, [], none, (refl, refl), tt, (and-false stop, refl));
      }

  module _ (now : Registered) (mid : S) (end : Status) (n : ℕ) (a : SoFar happens stop old before now mid end n) where
    -- the history up to here, and these events
    abbrev and_then : (later : S) (es : List Event) → History happens mid es later → Exchanged happens before later es
    and_then later es h =
        record { done = a.done; history = history_join happens before mid later (flat_map events_of a.done) es a.history h }

    answers_now : AnsweredOn stop (GoesOn stop) old a.done now
    answers_now = weaker stop _ _ old now a.done (λ os g. g.0) a.answered

    -- there is no further record
    pub ran_whole : (later : S) → happens mid Ended later → RanIn happens stop old before now later end
    ran_whole later none =
        record {
          x = and_then later (last_events end)
              (subst (λ (es : List Event). History happens mid es later) (sym a.last) (later, none, refl));
          answered = weaker stop _ _ old now a.done (λ os g. g.1) a.answered;
        }

    -- no further record can be taken, or the texts could not be sent before
    pub cut_in_taking : (later : S) (e : RunFault) →
        (happens mid (Not_taken e) later × IsOfTaking e) ⊎ (happens mid Not_sent later × (e ≡ fault.Write))
        → CutIn happens stop old before now later e
    cut_in_taking later e (inl none) = In_taking none.1 (and_then later (Not_taken e ∷ []) (later, none.0, refl)) answers_now
    cut_in_taking later e (inr held) = runs.Not_sent held.1 (and_then later (Not_sent ∷ []) (later, held.0, refl)) answers_now

    -- one record more than the greatest number
    pub cut_past : (later : S) (fields : List Field) → n ≡ most_records → happens mid (Took fields) later →
        CutIn happens stop old before now later fault.TooMany
    cut_past later fields most took =
        Past_the_most refl fields (and_then later (Took fields ∷ []) (later, took, refl)) (a.count ∙ most) answers_now

    -- ---- one record more

    module _ (new : Registered) (taken later : S) (fields : List Field) (took : happens mid (Took fields) taken) where
      abbrev one : Answer → Replacement → Exchange
      one answer replacement = record { fields = fields; answer = answer; replacement = replacement }

      answers_more : (And : List Outcome → Type 0) (r : Result Bool RunFault)
          (reported : AnswersRecord happens now fields new taken later r) (replacement : Replacement)
          → AreReplacement new replacement
          → ((os : List Outcome) (o : Outcome) → is_ok o ≡ reported.accepts → Going stop end os → And (os ++ o ∷ []))
          → AnsweredOn stop And old (a.done ++ one (reported.text, reported.accepts) replacement ∷ []) new
      answers_more And r reported replacement are give s represents =
          let so = a.answered s represents in
          let sound = represented old s base represents in
          let x = one (reported.text, reported.accepts) replacement in
          let t = reported.outcome so.0 so.1 (sound_after s so.0 (records_taken a.done) so.2 sound so.3.headline.run) in
          let run = run_more IsExchange s so.0 t.0 a.done x so.2 t.1 so.4.0 so.4.1 (t.3, t.4, are t.0 t.2) in
          let size : length (so.2 ++ t.1 ∷ []) ≡ length (a.done ++ x ∷ []) =
          omega (arith, length-append so.2 (t.1 ∷ []), length-append a.done (x ∷ []), so.4.0) in (
            t.0,
            t.2,
            so.2 ++ t.1 ∷ [],
            claims_of s (records_taken (a.done ++ x ∷ [])) (so.2 ++ t.1 ∷ []) t.0 sound
                (taken_run s t.0 (a.done ++ x ∷ []) (so.2 ++ t.1 ∷ []) run),
            (size, run),
            stops_join stop so.2 (t.1 ∷ []) so.6.0 so.5 (λ _. refl, tt),
            give so.2 t.1 (ap (λ (w : Answer). w.1) t.4) so.6,
          )

      -- the history with its events
      history_more : (answer : Answer) (replacement : Replacement) (last : S) → happens taken (Wrote answer) later →
          happens later (Compacted replacement) last
          → History happens before (flat_map events_of (a.done ++ one answer replacement ∷ [])) last
      history_more answer replacement last wrote compacted =
          subst (λ (es : List Event). History happens before es last)
          (sym (flat_map-append events_of a.done (one answer replacement ∷ [])))
          (history_join happens before mid last (flat_map events_of a.done) (events_of (one answer replacement)) a.history
          (taken, took, (later, wrote, (last, compacted, refl))))

      -- one that does not end the run
      one_more : (next : Status) (b : Bool) (on : S) → AnswersRecord happens now fields new taken later (Ok b) →
          Compacts happens new later on → last_events next ≡ Ended ∷ []
          → ((os : List Outcome) (o : Outcome) → is_ok o ≡ b → Going stop end os → Going stop next (os ++ o ∷ []))
          → SoFar happens stop old before new on next (n + 1)
      one_more next b on reported d last goes =
          record {
            done = a.done ++ one (reported.text, reported.accepts) d.0 ∷ [];
            count = grind (arith, length-append);
            history = history_more (reported.text, reported.accepts) d.0 on reported.writes.0 d.2;
            last = last;
            answered = answers_more _ (Ok b) reported d.0 d.1 (λ os o is. goes os o (is ∙ sym reported.writes.1));
          }

      pub accepted_so_far : (b : Bool) (on : S) → b ≡ true → AnswersRecord happens now fields new taken later (Ok b) →
          Compacts happens new later on → SoFar happens stop old before new on end (n + 1)
      accepted_so_far b on e reported d =
          one_more end b on reported d a.last (λ os o is. accepted_goes stop end os o (is ∙ e))

      pub refused_so_far : (b : Bool) (on : S) → b ≡ false → stop ≡ false →
          AnswersRecord happens now fields new taken later (Ok b) → Compacts happens new later on
          → SoFar happens stop old before new on ended.SomeRefused (n + 1)
      refused_so_far b on e going reported d =
          one_more ended.SomeRefused b on reported d refl (λ os o is g. rw going (refused_goes os o (is ∙ e)))

      -- the first rejected record stops the run
      pub ran_stopped : (b : Bool) (on : S) → b ≡ false → stop ≡ true →
          AnswersRecord happens now fields new taken later (Ok b) → Compacts happens new later on
          → RanIn happens stop old before new on ended.Stopped
      ran_stopped b on e stops reported d =
          record {
            x = record {
              done = a.done ++ one (reported.text, reported.accepts) d.0 ∷ [];
              history =
                  rw (append-nil (flat_map events_of (a.done ++ one (reported.text, reported.accepts) d.0 ∷ [])))
                  (history_more (reported.text, reported.accepts) d.0 on reported.writes.0 d.2);
            };
            answered =
                answers_more (λ os. ended.Stopped ≡ run_status stop os) (Ok b) reported d.0 d.1 (λ os o is g.
                let some : any_refused (os ++ o ∷ []) ≡ true =
                refused_more os o false (is ∙ sym reported.writes.1 ∙ e) ∙ or-true (any_refused os) in rw (some, stops) refl);
          }

      -- the text of an answer was not made, or not written completely
      pub cut_in_answer : (e : RunFault) → AnswersRecord happens now fields new taken later (Err e) →
          CutIn happens stop old before new later e
      cut_in_answer e reported =
          let more = answers_more (λ os. ⊤) (Err e) reported Unasked (λ t h. tt) (λ os o is g. tt) in
          elim reported.writes [
            | inl none ↦
                No_text none.0 fields (reported.text, reported.accepts)
                (and_then later (Took fields ∷ []) (taken, took, sym none.1)) more
            | inr cut ↦
                In_text cut.5 fields cut.0 cut.1 reported.accepts cut.3
                (and_then later (Took fields ∷ Cut cut.0 cut.1 reported.accepts ∷ []) (taken, took, (later, cut.4, refl)))
                (subst (λ (text : List ℕ).
                AnsweredOn stop (λ os. ⊤) old (a.done ++ unwritten fields (text, reported.accepts) ∷ []) new) cut.2 more)
          ]
