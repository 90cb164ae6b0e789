-- Runs over an input whose records are known, from the history of their session.
use Rattle.olr_run.proofs.Common.{IfErr, IsContent, Exchanged, In_taking, events_of, unwritten, Compacted, and-false}
use Rattle.olr_run.proofs.Common.{append-nil, length-map, map-append, run_longer, Registered, Claims, Appends-nil, Whole}
use Rattle.olr_run.proofs.Common.{append_assoc, outcome_text, SoundOutcome, Not_sent, StopsAtFault, Appends-kept, input_records}
use Rattle.olr_run.proofs.Common.{Appends, Outcome, Records, History, EndedOn, In_text, RunFault, No_text, Exchange, TakesOne}
use Rattle.olr_run.proofs.Common.{Field, texts, Known, Event, Ended, IfSome, length, GoesOn, Answer, HasNone, Unasked, Status}
use Rattle.olr_run.proofs.Common.{Took, Wrote, Keeps, State, RanOn, RanIn, CutIn, Bool, List, ◌++◌, None, subst, arith, false}
use Rattle.olr_run.proofs.Common.{Not_taken, Represents, IsOfTaking, FaultedOn, AnsweredOn, Keeps-refl, HadTooMany, IsExchange}
use Rattle.olr_run.proofs.Common.{Cut, ◌≡◌, ◌≢◌, ◌∙◌, ◌+◌, ℕ, [], ◌∷◌, Some, inl, inr, refl, suc, sym, ap, true, IfOk}
use Rattle.olr_run.proofs.Common.{Past_the_most, length-append, Appends-trans, records_taken, joined_records, csv_on_literals}
use Rattle.olr_input.specs.Sessions.{PlainHappens, FirstLeft, JoinedLeft}
use Rattle.olr_input.specs.declared.sessions.Plain.{Plain}
use Rattle.std.specs.Prelude.{Option, Result, Ok, Err}
use Rattle.std.specs.List.{flat_map}
use Rattle.olr_input.specs.LineRecords.{lines_from}
use Rattle.olr_run.specs.Runs as runs
use Rattle.olr_run.proofs.RunLemmas.{claims_of, none_claimed}
use Rattle.olr_run.proofs.Running.{represented, stopped_is}
use Rattle.olr_run.specs.Output as output
use Rattle.olr_run.specs.declared.statuses.Status.TheVariants as ended
use Rattle.olr_input.specs.declared.ends.RunFault.TheVariants as fault

-- ---- answers

abbrev joined : List Exchange → List ℕ
joined xs = flat_map (λ (x : Exchange). x.answer.0) xs

joined_texts : (s t : State) (xs : List Exchange) (os : List Outcome) → Whole IsExchange s xs os t → joined xs ≡ texts os
joined_texts s t [] [] h = refl
joined_texts s t (x ∷ xs) (o ∷ os) h =
    let first : x.answer.0 ≡ outcome_text o = ap (λ (w : Answer). w.0) (sym h.1.1.1) in
    let more : joined xs ≡ texts os = joined_texts h.1.0 t xs os (omega (arith, h.0), h.1.2) in
    λ i. first i ++ more i
joined_texts s t [] (o ∷ os) h = absurd h.1
joined_texts s t (x ∷ xs) [] h = absurd (omega (arith, h.0))

-- the exchanges before the last one, and the outcome of that
pub last_step : (s t : State) (xs : List Exchange) (x : Exchange) (os : List Outcome) → Whole IsExchange s (xs ++ x ∷ []) os t →
    (before : List Outcome) × (last : Outcome) × (mid : State) × (os ≡ before ++ last ∷ []) × Whole IsExchange s xs before mid
    × IsExchange mid x last t
last_step s t [] x (o ∷ []) h = ([], o, s, refl, (refl, refl), subst (λ (u : State). IsExchange s x o u) h.1.2 h.1.1)
last_step s t (y ∷ xs) x (o ∷ os) h =
    let r = last_step h.1.0 t xs x os (omega (arith, h.0), h.1.2) in
    (o ∷ r.0, r.1, r.2, ap (λ (p : List Outcome). o ∷ p) r.3, (ap suc r.4.0, (h.1.0, h.1.1, r.4.1)), r.5)
last_step s t [] x (o ∷ p ∷ os) h = absurd h.1.2
last_step s t xs x [] h = absurd (omega (arith, h.0, length-append xs (x ∷ [])))

pub more_taken : (xs : List Exchange) (x : Exchange) → records_taken (xs ++ x ∷ []) ≡ records_taken xs ++ x.fields ∷ []
more_taken xs x = map-append (λ (y : Exchange). y.fields) xs (x ∷ [])

pub taken_length : (xs : List Exchange) → length (records_taken xs) ≡ length xs
taken_length xs = length-map xs (λ (x : Exchange). x.fields)

-- ---- records of the input

abbrev pub written_at : {A W : Type 0} → (W → Known) → A × W → Known
written_at contents p = contents p.1

-- what an event shows of the records that are left, and of what is written
abbrev pub Sees : (old new : List (List Field) → Type 0) → Known → Known → Event → Type 0
Sees old new before later (Took fields) = TakesOne old new fields × Keeps before later
Sees old new before later Ended = HasNone old × Keeps before later
Sees old new before later (Not_taken e) = Keeps before later
Sees old new before later Not_sent = Keeps before later
Sees old new before later (Wrote answer) =
    ((rs : List (List Field)) → old rs → new rs) × Appends before later answer.0
Sees old new before later (Cut front rest accepts) = Appends before later front
Sees old new before later (Compacted replacement) = ((rs : List (List Field)) → old rs → new rs) × Keeps before later

pub same_left : {S : Type 0} (left : S → List (List Field) → Type 0) (s t : S) → t ≡ s → (rs : List (List Field)) →
    left s rs → left t rs
same_left {S} left s t is rs h = subst (λ (x : S). left x rs) (sym is) h

module _ {S W : Type 0} (left : S → List (List Field) → Type 0) (failed : S → Bool) (contents : W → Known) where
  abbrev pub OfPlain : Plain S × W → Event → Plain S × W → Type 0
  OfPlain a e b = PlainHappens left failed a.0.source b.0.source (contents a.1) (contents b.1) e

  abbrev pub left_at : Plain S × W → List (List Field) → Type 0
  left_at p = left p.0.source

  pub plain_sees : (a b : Plain S × W) (e : Event) → OfPlain a e b →
      Sees (left_at a) (left_at b) (contents a.1) (contents b.1) e
  plain_sees a b (Took fields) h = h
  plain_sees a b Ended h = h
  plain_sees a b (Not_taken e) h = h.1
  plain_sees a b Not_sent h = h.1
  plain_sees a b (Wrote answer) h = (same_left left a.0.source b.0.source h.0, h.1)
  plain_sees a b (Cut front rest accepts) h = h.1
  plain_sees a b (Compacted Unasked) h = (same_left left a.0.source b.0.source h.0, h.1)
  plain_sees a b (Compacted replacement) h = absurd h

-- what each state that the register represented leads to, where the outcomes are related by Each
abbrev AnsweredBy : (State → List (List Field) → List Outcome → State → Type 0) → Bool → (List Outcome → Type 0) →
    Registered → List (List Field) → List Exchange → Registered → Type 0
AnsweredBy Each stop And old all xs new =
    (s : State) → Represents old.state s → (t : State) × Represents new.state t × (os : List Outcome) × Each s all os t
    × Whole IsExchange s xs os t × StopsAtFault stop os × And os

-- the exchanges of a run that was cut off
abbrev pub exchanges_cut : {S : Type 0} {happens : S → Event → S → Type 0} {stop : Bool} {old new : Registered} {a b : S}
    {e : RunFault} → CutIn happens stop old a new b e → List Exchange
exchanges_cut (In_taking of x answered) = x.done
exchanges_cut (runs.Not_sent is x answered) = x.done
exchanges_cut (Past_the_most is r x most answered) = x.done
exchanges_cut (No_text is r w x answered) = x.done ++ unwritten r w ∷ []
exchanges_cut (In_text is r front rest accepts some x answered) = x.done ++ unwritten r (front ++ rest, accepts) ∷ []

-- from outcomes of the first records, what is wanted of those of all records
abbrev pub Gives : (State → List (List Field) → List Outcome → State → Type 0) → List (List Field) → List Exchange → Type 0
Gives Each all xs =
    (s t : State) (rest : List (List Field)) (os : List Outcome) → all ≡ records_taken xs ++ rest → Claims s all os t →
    Whole IsExchange s xs os t → Each s all os t

-- these records of all were read, and these bytes written
record Through (before : Known) (all rs : List (List Field)) (w : List ℕ) (left : List (List Field) → Type 0)
    (later : Known) : Type 0 where
  rest : List (List Field)
  splits : all ≡ rs ++ rest
  are_left : left rest
  wrote : Appends before later w

not_writing : (e : RunFault) → IsOfTaking e → e ≢ fault.Write
not_writing e h is = grind arith

-- a session whose events are those of a source and of a writer whose bytes are known
module _ {S : Type 0} (left : S → List (List Field) → Type 0) (contents : S → Known)
    (happens : S → Event → S → Type 0)
    (seen : (a b : S) (e : Event) → happens a e b → Sees (left a) (left b) (contents a) (contents b) e) (a : S)
    (all : List (List Field)) where
  abbrev At : List (List Field) → List ℕ → S → Type 0
  At rs w m = Through (contents a) all rs w (left m) (contents m)

  started : left a all → At [] [] a
  started h = record { rest = all; splits = refl; are_left = h; wrote = Appends-nil (contents a) }

  -- one more record was taken
  taken : (rs : List (List Field)) (r : List Field) (w : List ℕ) (m n : S) → At rs w m → happens m (Took r) n →
      At (rs ++ r ∷ []) w n
  taken rs r w m n at h =
      let took = seen m n (Took r) h in
      let one = took.0 at.rest at.are_left in
      record {
        rest = one.0;
        splits = at.splits ∙ ap (λ (xs : List (List Field)). rs ++ xs) one.1 ∙ sym (append_assoc rs (r ∷ []) one.0);
        are_left = one.2;
        wrote = Appends-kept (contents a) (contents m) (contents n) w at.wrote took.1;
      }

  exchanged : (rs : List (List Field)) (w : List ℕ) (xs : List Exchange) (es : List Event) (m b : S) → At rs w m →
      History happens m (flat_map events_of xs ++ es) b
      → (n : S) × At (rs ++ records_taken xs) (w ++ joined xs) n × History happens n es b
  exchanged rs w [] es m b at h = (m, rw (append-nil rs, append-nil w) at, h)
  exchanged rs w (x ∷ xs) es m b at h =
      let took = taken rs x.fields w m h.0 at h.1 in
      let wrote = seen h.0 h.2.0 (Wrote x.answer) h.2.1 in
      let same = seen h.2.0 h.2.2.0 (Compacted x.replacement) h.2.2.1 in
      let on : At (rs ++ x.fields ∷ []) (w ++ x.answer.0) h.2.2.0 =
      record {
        rest = took.rest;
        splits = took.splits;
        are_left = same.0 took.rest (wrote.0 took.rest took.are_left);
        wrote = Appends-kept (contents a) (contents h.2.0) (contents h.2.2.0) (w ++ x.answer.0)
            (Appends-trans (contents a) (contents h.0) (contents h.2.0) w x.answer.0 took.wrote wrote.1) same.1;
      } in
      rw (← append_assoc rs (x.fields ∷ []) (records_taken xs), ← append_assoc w x.answer.0 (joined xs))
      (exchanged (rs ++ x.fields ∷ []) (w ++ x.answer.0) xs es h.2.2.0 b on h.2.2.2)

  -- all records were answered
  whole : (rs : List (List Field)) (w : List ℕ) (m b : S) → At rs w m → happens m Ended b → length all ≡ length rs
  whole rs w m b at h =
      let none = (seen m b Ended h).0 at.rest at.are_left in
      ap length (at.splits ∙ ap (λ (ms : List (List Field)). rs ++ ms) none ∙ append-nil rs)

  module _ (stop : Bool) (old new : Registered) (b : S) (base : IsContent old.state.content)
      (start : At [] [] a) (Each : State → List (List Field) → List Outcome → State → Type 0) where
    -- the claims are those of all records
    of_all : (And : List Outcome → Type 0) (xs : List Exchange) (w : List ℕ) (m : S) → At (records_taken xs) w m →
        Gives Each all xs → AnsweredOn stop And old xs new → AnsweredBy Each stop And old all xs new
    of_all And xs w m at give answered s represents =
        let h = answered s represents in
        let longer = run_longer SoundOutcome s h.0 (records_taken xs) at.rest h.2 h.3.headline.run in
        let claims = claims_of s all h.2 h.0 (represented old s base represents) (rw at.splits longer) in
        (h.0, h.1, h.2, give s h.0 at.rest h.2 at.splits claims h.4, h.4, h.5, h.6)

    -- the end of a run that was not cut off
    ended_in : (end : Status) (xs : List Exchange) (m : S) → At (records_taken xs) (joined xs) m →
        Keeps (contents m) (contents b)
        → ((os : List Outcome) → length os ≡ length xs → end ≡ output.run_status stop os →
        output.AreAnswered stop all os)
        → Gives Each all xs → AnsweredOn stop (λ os. end ≡ output.run_status stop os) old xs new
        → RanOn Each stop old (Some all) (contents a) new (contents b) end
    ended_in end xs m at later all give answered s represents =
        let h = of_all _ xs (joined xs) m at give answered s represents in (
          h.0,
          h.1,
          joined xs,
          Appends-kept (contents a) (contents m) (contents b) (joined xs) at.wrote later,
          record {
            outcomes = h.2;
            each = h.3;
            stops = h.5;
            all = all h.2 h.4.0 h.6;
            wrote = joined_texts s h.0 xs h.2 h.4;
            ended = h.6;
          },
        )

    -- the end of one that was, after these bytes
    cut_in : (e : RunFault) (And : List Outcome → Type 0) (xs : List Exchange) (w front : List ℕ) (m : S) →
        At (records_taken xs) w m → Appends (contents m) (contents b) front → Gives Each all xs →
        AnsweredOn stop And old xs new
        → ((s t : State) (os : List Outcome) → Whole IsExchange s xs os t → And os → output.CutOff stop os (w ++ front) e)
        → FaultedOn Each stop old (Some all) (contents a) new (contents b) e
    cut_in e And xs w front m at more give answered cut s represents =
        let h = of_all And xs w m at give answered s represents in (
          h.0,
          h.1,
          w ++ front,
          Appends-trans (contents a) (contents m) (contents b) w front at.wrote more,
          record { outcomes = h.2; each = h.3; stops = h.5; wrote = cut s h.0 h.2 h.4 h.6 },
        )

    -- the records were taken, and answered, up to the last events
    reached : (es : List Event) (x : Exchanged happens a b es) →
        (n : S) × At (records_taken x.done) (joined x.done) n × History happens n es b
    reached es x = exchanged [] [] x.done es a b start x.history

    -- and one more was taken
    reached_one : (r : List Field) (answer : Answer) (es : List Event) (x : Exchanged happens a b (Took r ∷ es)) →
        (n : S) × At (records_taken (x.done ++ unwritten r answer ∷ [])) (joined x.done) n × History happens n es b
    reached_one r answer es x =
        let n = reached (Took r ∷ es) x in
        let more = taken (records_taken x.done) r (joined x.done) n.0 n.2.0 n.1 n.2.1 in
        (n.2.0, rw (more_taken x.done (unwritten r answer)) more, n.2.2)

    -- before the next answer
    cut_here : (e : RunFault) (last : Event) (x : Exchanged happens a b (last ∷ [])) →
        ((m n : S) → happens m last n → Keeps (contents m) (contents n)) → Gives Each all x.done →
        AnsweredOn stop (GoesOn stop) old x.done new
        → ((os : List Outcome) (w : List ℕ) → GoesOn stop os → w ≡ texts os → output.CutOff stop os w e)
        → FaultedOn Each stop old (Some all) (contents a) new (contents b) e
    cut_here e last x keeps give answered cut =
        let n = reached (last ∷ []) x in
        let later = subst (λ (p : S). Keeps (contents n.0) (contents p)) n.2.2 (keeps n.0 n.2.0 n.2.1) in
        cut_in e _ x.done (joined x.done) [] n.0 n.1
        (Appends-kept (contents n.0) (contents n.0) (contents b) [] (Appends-nil (contents n.0)) later) give answered
        (λ s t os run going. cut os (joined x.done ++ []) going (append-nil (joined x.done) ∙ joined_texts s t x.done os run))

    ran_on : (end : Status) (h : RanIn happens stop old a new b end) → Gives Each all h.x.done →
        RanOn Each stop old (Some all) (contents a) new (contents b) end
    ran_on ended.Stopped h give =
        let n = reached [] h.x in
        ended_in ended.Stopped h.x.done n.0 n.1
        (subst (λ (p : S). Keeps (contents n.0) (contents p)) n.2 (Keeps-refl (contents n.0)))
        (λ os size is. inr (stopped_is stop (output.any_refused os) is)) give h.answered
    ran_on end h give =
        let n = reached (Ended ∷ []) h.x in
        let all = whole (records_taken h.x.done) (joined h.x.done) n.0 n.2.0 n.1 n.2.1 in
        ended_in end h.x.done n.0 n.1
        (subst (λ (p : S). Keeps (contents n.0) (contents p)) n.2.2 (seen n.0 n.2.0 Ended n.2.1).1)
        (λ os size is. inl (size ∙ sym (taken_length h.x.done) ∙ sym all)) give h.answered

    cut_on : (e : RunFault) (h : CutIn happens stop old a new b e) → Gives Each all (exchanges_cut h) →
        FaultedOn Each stop old (Some all) (contents a) new (contents b) e
    cut_on e (In_taking of x answered) give =
        cut_here e (Not_taken e) x (λ m n h. seen m n (Not_taken e) h) give answered
        (λ os w going is. output.Before_next (not_writing e of) going is)
    cut_on e (runs.Not_sent write x answered) give =
        cut_here e Not_sent x (λ m n h. seen m n Not_sent h) give answered (λ os w going is. output.Not_sent write is)
    cut_on e (Past_the_most many r x most answered) give =
        cut_here e (Took r) x (λ m n h. (seen m n (Took r) h).1) give answered
        (λ os w going is. output.Before_next (λ write. let never : fault.TooMany ≡ fault.Write = sym many ∙ write in cc) going is)
    cut_on e (No_text is r w x answered) give =
        let n = reached_one r w [] x in
        cut_in e _ (x.done ++ unwritten r w ∷ []) (joined x.done) [] n.0 n.1
        (subst (λ (p : S). Appends (contents n.0) (contents p) []) n.2 (Appends-nil (contents n.0))) give answered
        (λ s t os run _. let k = last_step s t x.done (unwritten r w) os run in
        output.No_text is k.0 k.1 k.3 (append-nil (joined x.done) ∙ joined_texts s k.2 x.done k.0 k.4))
    cut_on e (In_text is r front rest accepts some x answered) give =
        let last = unwritten r (front ++ rest, accepts) in
        let n = reached_one r (front ++ rest, accepts) (Cut front rest accepts ∷ []) x in
        cut_in e _ (x.done ++ last ∷ []) (joined x.done) front n.0 n.1
        (subst (λ (p : S). Appends (contents n.0) (contents p) front) n.2.2 (seen n.0 n.2.0 (Cut front rest accepts) n.2.1))
        give answered
        (λ s t os run _. let k = last_step s t x.done last os run in
        output.In_last is k.0 k.1 front rest k.3 (ap (λ (w : Answer). w.0) k.5.1) some
        (ap (λ (v : List ℕ). v ++ front) (joined_texts s k.2 x.done k.0 k.4)))

    too_many : (e : RunFault) → CutIn happens stop old a new b e → HadTooMany e (Some all)
    too_many e (In_taking of x answered) is = absurd (subst IsOfTaking is of)
    too_many e (runs.Not_sent write x answered) is = absurd cc
    too_many e (Past_the_most _ r x most answered) is =
        let n = reached (Took r ∷ []) x in
        let t = taken (records_taken x.done) r (joined x.done) n.0 n.2.0 n.1 n.2.1 in
        let size : length all ≡ length (records_taken x.done ++ r ∷ []) + length t.rest =
        ap length t.splits ∙ length-append (records_taken x.done ++ r ∷ []) t.rest in
        grind (arith, length-append, taken_length)
    too_many e (No_text memory r w x answered) is = absurd cc
    too_many e (In_text write r front rest accepts some x answered) is = absurd cc

-- what a run says of the records of its input, if they are known
module _ {S : Type 0} (left : S → List (List Field) → Type 0) (contents : S → Known)
    (happens : S → Event → S → Type 0)
    (seen : (a b : S) (e : Event) → happens a e b → Sees (left a) (left b) (contents a) (contents b) e)
    (stop : Bool) (old new : Registered) (a b : S) where
  pub on_records : (Whole Part : State → List (List Field) → List Outcome → State → Type 0)
      (whole : (all : List (List Field)) (end : Status) (h : RanIn happens stop old a new b end) → Gives Whole all h.x.done)
      (part : (all : List (List Field)) (e : RunFault) (h : CutIn happens stop old a new b e)
      → Gives Part all (exchanges_cut h))
      (records : Records) (r : Result Status RunFault) → IsContent old.state.content → IfSome records (left a)
      → IfOk r (RanIn happens stop old a new b) → IfErr r (CutIn happens stop old a new b)
      → EndedOn Whole Part stop old records (contents a) new (contents b) r
  on_records Whole Part whole part (Some all) (Ok end) base begins h k =
      let start = started left contents happens seen a all begins in
      ran_on left contents happens seen a all stop old new b base start Whole end h (whole all end h)
  on_records Whole Part whole part (Some all) (Err e) base begins h k =
      let start = started left contents happens seen a all begins in (
        cut_on left contents happens seen a all stop old new b base start Part e k (part all e k),
        too_many left contents happens seen a all stop old new b base start Part e k,
      )
  on_records Whole Part whole part None (Ok end) base begins h k = tt
  on_records Whole Part whole part None (Err e) base begins h k = (tt, λ is. tt)

-- a file that isn't there has no records, however it would be read
pub none_left : (single : Bool) → IfSome (input_records single (Some [])) (λ rs. rs ≡ [])
unfolding csv_on_literals lines_from
none_left true = refl
none_left false = refl

-- the records of a file, if there is one, and those of an input are left
pub both_left : {A B : Type 0} (left_of_first : A → List (List Field) → Type 0) (left : B → List (List Field) → Type 0)
    (first : Option A) (second : B) (rs qs : Records) → IfSome rs (FirstLeft left_of_first first) → IfSome qs (left second) →
    IfSome (joined_records rs qs) (JoinedLeft left_of_first left first second)
both_left left_of_first left first second (Some rs) (Some qs) h k = (rs, qs, h, k, refl)
both_left left_of_first left first second (Some rs) None h k = tt
both_left left_of_first left first second None qs h k = tt

-- a run that lacked memory before it began
pub cut_at_first : (stop : Bool) (old : Registered) (before : Known) (records : Records) → IsContent old.state.content →
    EndedOn Claims Claims stop old records before old before (Err fault.Memory)
cut_at_first stop old before None base = (tt, λ many. tt)
cut_at_first stop old before (Some all) base = (
  λ s represents. (
    s,
    represents,
    [],
    Appends-nil before,
    record {
      outcomes = [];
      each = none_claimed s all (represented old s base represents);
      stops = tt;
      wrote = output.Before_next (λ write. let never : fault.Memory ≡ fault.Write = write in cc) (and-false stop) refl;
    },
  ),
  λ many. absurd cc,
)
