-- The log of a run, from the history of its session.
use Rattle.olr_run.proofs.Common.{Past_the_most, length-append, IsReplacement, records_taken, SoundOutcome, append_assoc, Outcome}
use Rattle.olr_run.proofs.Common.{append_known, last_events, Replacement, Appends-nil, append-nil, Registered, IsExchange, IfSome}
use Rattle.olr_run.proofs.Common.{LastsWhole, LogHappens, Keeps-refl, Not_taken, IsContent, Exchanged, In_taking, Cut}
use Rattle.olr_run.proofs.Common.{answer_of, once_sent, events_of, unwritten, Compacted, Untouched, is_closed, Concludes, History}
use Rattle.olr_run.proofs.Common.{Not_sent, RunFault, flat_map, Exchange, Survives, Buffered, In_text, Appends, EndedOn, Records}
use Rattle.olr_run.proofs.Common.{No_text, Unasked, Lacking, pending, written, Waiting, waiting, Claims, length, Change, Passes}
use Rattle.olr_run.proofs.Common.{Status, IfErr, Field, Known, Event, Ended, Wrote, RanIn, CutIn, Keeps, false, subst, arith, ◌≡◌}
use Rattle.olr_run.proofs.Common.{State, Whole, Given, Leads, Began, Lasts, ready, Took, Bool, List, ◌++◌, Some, None, refl, IfOk}
use Rattle.olr_run.proofs.Common.{OnOk, UpTo, Gate, ◌∙◌, ◌∷◌, sym, [], ap, ℕ}
use Rattle.std.specs.Prelude.{Ok, Err, Option, Result}
use Rattle.olr_log.specs.declared.logged.Logged.{Logged}
use Rattle.olr_input.proofs.Writing.{took_nothing}
use Rattle.olr_run.specs.Runs as runs
use Rattle.olr_run.proofs.InputRuns.{Sees, Gives, same_left, exchanges_cut, last_step, more_taken, taken_length, on_records}
use Rattle.olr_run.proofs.Sending.{Then, ended_sent}
use Rattle.olr_run.proofs.Logging.{Going, HoldsBatch, Logs, LogsSome, logs_pass, logs_same, logs_conclude, logs_longer, logs_compact}
use Rattle.olr_run.proofs.Logging.{fresh, survives_only, up_on, up_to_all}
use Rattle.olr_log.specs.declared.journal.Journal as journal
use Rattle.olr_run.specs.declared.statuses.Status.TheVariants as ended
use Rattle.olr_input.specs.declared.ends.RunFault.TheVariants as fault

-- ---- what is written

known_writes : (d e : Known) (sent o p text : List ℕ) → Appends d e sent → o ++ text ≡ sent ++ p →
    Appends (append_known d o) (append_known e p) text
known_writes None e sent o p text a b = tt
known_writes (Some d) None sent o p text a b = absurd a
known_writes (Some d) (Some e) sent o p text a b =
    ap (λ (x : List ℕ). x ++ p) a ∙ append_assoc d sent p ∙ ap (λ (x : List ℕ). d ++ x) (sym b)
    ∙ sym (append_assoc d o text)

module _ {J W : Type 0} {stored : J → List ℕ} {may_leave : J → List ℕ → Type 0} {contents : W → Known} where
  passes_writes : (g h : Gate J) (o p : Buffered W) (text : List ℕ) → Passes stored may_leave contents g o h p text →
      Appends (written contents o) (written contents p) text
  passes_writes g h o p text a = known_writes (contents o.device) (contents p.device) a.sent (pending o) (pending p) text a.device a.bytes

  passes_stores : (g h : Gate J) (o p : Buffered W) → Passes stored may_leave contents g o h p [] →
      Keeps (written contents o) (written contents p)
  passes_stores g h o p a = took_nothing (written contents o) (written contents p) (passes_writes g h o p [] a)

module _ {S W J : Type 0} (left : S → List (List Field) → Type 0) (contents : W → Known) (j : journal.Ghosts J) where
  abbrev pub Happens : Logged S J × Buffered W → Event → Logged S J × Buffered W → Type 0
  Happens a e b = LogHappens left contents j a.0 a.1 b.0 b.1 e

  abbrev pub left_of : Logged S J × Buffered W → List (List Field) → Type 0
  left_of p = left p.0.source

  abbrev pub written_of : Logged S J × Buffered W → Known
  written_of p = written contents p.1

  same_written : (o p : Buffered W) → p ≡ o → Keeps (written contents o) (written contents p)
  same_written o p is =
      subst (λ (x : Buffered W). Keeps (written contents o) (written contents x)) (sym is) (Keeps-refl (written contents o))

  pub log_sees : (a b : Logged S J × Buffered W) (e : Event) → Happens a e b →
      Sees (left_of a) (left_of b) (written_of a) (written_of b) e
  log_sees a b (Took fields) h = (h.0, passes_stores a.0.gate h.1.0 a.1 b.1 h.1.1)
  log_sees a b Ended h = (h.0, passes_stores a.0.gate b.0.gate a.1 b.1 h.1)
  log_sees a b (Not_taken e) h = passes_stores a.0.gate h.1.0 a.1 b.1 h.1.1
  log_sees a b Not_sent h = passes_stores a.0.gate b.0.gate a.1 b.1 h.1
  log_sees a b (Wrote answer) h = (same_left left a.0.source b.0.source h.0, passes_writes h.1.0 b.0.gate a.1 b.1 answer.0 h.1.2)
  log_sees a b (Cut front rest accepts) h = passes_writes h.1.0 b.0.gate a.1 b.1 front h.1.2
  log_sees a b (Compacted Unasked) h = (same_left left a.0.source b.0.source h.0, same_written a.1 b.1 h.1.1)
  log_sees a b (Compacted (Given records)) h = (same_left left a.0.source b.0.source h.0, same_written a.1 b.1 h.1.0)
  log_sees a b (Compacted Lacking) h = (same_left left a.0.source b.0.source h.0, same_written a.1 b.1 h.1.0)

  module _ (base : Known) (s : State) where
    abbrev Log : List (List Field) → List Outcome → State → List ℕ → Logged S J × Buffered W → Type 0
    Log rs os t unwritten m = Logs j.stored j.may_leave contents base s rs os t unwritten m.0.gate m.1

    log_passes : (rs : List (List Field)) (os : List Outcome) (t : State) (m n : Logged S J × Buffered W) →
        Log rs os t [] m → Passes j.stored j.may_leave contents m.0.gate m.1 n.0.gate n.1 [] → Log rs os t [] n
    log_passes rs os t m n a p =
        logs_pass j.stored j.may_leave contents base s rs os t [] [] m.0.gate n.0.gate m.1 n.1 a p

    log_end : (end : Status) (rs : List (List Field)) (os : List Outcome) (t : State) (m n : Logged S J × Buffered W) →
        Log rs os t [] m → History Happens m (last_events end) n → Log rs os t [] n
    log_end ended.Stopped rs os t m n a h = subst (λ (x : Logged S J × Buffered W). Log rs os t [] x) h a
    log_end end rs os t m n a h =
        subst (λ (x : Logged S J × Buffered W). Log rs os t [] x) h.2 (log_passes rs os t m h.0 a h.1.1)

    -- what is sent before a record is taken, or can't be
    log_untouched : (rs : List (List Field)) (os : List Outcome) (t : State) (m n : Logged S J × Buffered W) (g : Gate J) →
        Log rs os t [] m → Passes j.stored j.may_leave contents m.0.gate m.1 g n.1 [] → Untouched g n.0.gate →
        waiting n.0.gate.unstored ≡ waiting g.unstored → Log rs os t [] n
    log_untouched rs os t m n g a passes untouched waits =
        logs_same j.stored j.may_leave contents base s rs os t [] g n.0.gate n.1 untouched waits
        (logs_pass j.stored j.may_leave contents base s rs os t [] [] m.0.gate g m.1 n.1 a passes)

    log_took : (rs : List (List Field)) (os : List Outcome) (t : State) (r : List Field) (m n : Logged S J × Buffered W) →
        Log rs os t [] m → Happens m (Took r) n → Log rs os t [] n
    log_took rs os t r m n a h = log_untouched rs os t m n h.1.0 a h.1.1 h.1.2.untouched h.1.2.waits

    -- a record whose text is written, or only its first bytes
    log_answered : (rs : List (List Field)) (os : List Outcome) (t u : State) (r : List Field) (o : Outcome)
        (front rest : List ℕ) (accepts : Bool) (m k n : Logged S J × Buffered W) (g : Gate J) → length os ≡ length rs →
        Log rs os t [] m → SoundOutcome t r o u → answer_of o ≡ (front ++ rest, accepts) → Happens m (Took r) k →
        Concludes j k.0.gate accepts g → Passes j.stored j.may_leave contents g k.1 n.0.gate n.1 front
        → Log (rs ++ r ∷ []) (os ++ o ∷ []) u rest n
    log_answered rs os t u r o front rest accepts m k n g size a one is h concludes passes =
        logs_pass j.stored j.may_leave contents base s (rs ++ r ∷ []) (os ++ o ∷ []) u front rest g n.0.gate k.1 n.1
        (logs_conclude j.stored j.may_leave contents base s rs os t u r o (front ++ rest) accepts k.0.gate g k.1 size one is
        h.1.2.effect h.1.2.line (log_took rs os t r m k a h) concludes) passes

    -- the records of the content may be given
    log_given : (rs : List (List Field)) (os : List Outcome) (t : State) (d : Replacement) (m n : Logged S J × Buffered W) →
        Log rs os t [] m → IsContent t.content → IsReplacement t d → Happens m (Compacted d) n → Log rs os t [] n
    log_given rs os t Unasked m n a sound is h =
        subst (λ (x : Gate J × Buffered W). Logs j.stored j.may_leave contents base s rs os t [] x.0 x.1)
        (λ k. (sym h.1.0 k, sym h.1.1 k)) a
    log_given rs os t (Given records) m n a sound is h =
        subst (λ (x : Buffered W). Logs j.stored j.may_leave contents base s rs os t [] n.0.gate x) (sym h.1.0)
        (logs_compact j contents base s rs os t records m.0.gate n.0.gate m.1 a sound is.0 is.1 h.1.2)
    log_given rs os t Lacking m n a sound is h =
        subst (λ (x : Buffered W). Logs j.stored j.may_leave contents base s rs os t [] n.0.gate x) (sym h.1.0)
        (logs_same j.stored j.may_leave contents base s rs os t [] m.0.gate n.0.gate m.1 h.1.2.untouched
        (ap waiting h.1.2.unstored) a)

    log_exchanged : (xs : List Exchange) (es : List Event) (m b : Logged S J × Buffered W) (rs : List (List Field))
        (dos : List Outcome) (t u : State) (os : List Outcome) → length dos ≡ length rs → Log rs dos t [] m →
        Whole IsExchange t xs os u → History Happens m (flat_map events_of xs ++ es) b
        → (n : Logged S J × Buffered W) × Log (rs ++ records_taken xs) (dos ++ os) u [] n × History Happens n es b
    log_exchanged [] es m b rs dos t u [] size a run h =
        (m, rw (append-nil rs, append-nil dos) (subst (λ (x : State). Log rs dos x [] m) run.1 a), h)
    log_exchanged (x ∷ xs) es m b rs dos t u (o ∷ os) size a run h =
        let one = run.1.1 in
        let is : answer_of o ≡ (x.answer.0 ++ [], x.answer.1) = one.1 ∙ (λ i. (sym (append-nil x.answer.0) i, x.answer.1)) in
        let wrote = h.2.1.1 in
        let now =
        log_answered rs dos t run.1.0 x.fields o x.answer.0 [] x.answer.1 m h.0 h.2.0 wrote.0 size a one.0 is h.1 wrote.1
        wrote.2 in
        let grown : length (dos ++ o ∷ []) ≡ length (rs ++ x.fields ∷ []) = grind (arith, length-append) in
        let on =
        log_given (rs ++ x.fields ∷ []) (dos ++ o ∷ []) run.1.0 x.replacement h.2.0 h.2.2.0 now one.0.1 one.2 h.2.2.1 in
        rw (← append_assoc rs (x.fields ∷ []) (records_taken xs), ← append_assoc dos (o ∷ []) os)
        (log_exchanged xs es h.2.2.0 b (rs ++ x.fields ∷ []) (dos ++ o ∷ []) run.1.0 u os grown on
        (omega (arith, run.0), run.1.2) h.2.2.2)
    log_exchanged [] es m b rs dos t u (o ∷ os) size a run h = absurd run.1
    log_exchanged (x ∷ xs) es m b rs dos t u [] size a run h = absurd (omega (arith, run.0))

  -- ---- whole runs

  module _ (a b : Logged S J × Buffered W) where
    abbrev Reaches : State → List (List Field) → List Outcome → State → List ℕ → Logged S J × Buffered W → Type 0
    Reaches s rs os t unwritten m = Logs j.stored j.may_leave contents (contents a.1.device) s rs os t unwritten m.0.gate m.1

    -- what is known of the log at the end, if it led to the content at the start
    abbrev Entire : State → List (List Field) → List Outcome → State → Type 0
    Entire s rs os t = Claims s rs os t × (Reaches s [] [] s [] a → Reaches s rs os t [] b)

    abbrev Part : State → List (List Field) → List Outcome → State → Type 0
    Part s rs os t =
        Claims s rs os t
        × (Reaches s [] [] s [] a → LogsSome j.stored j.may_leave contents (contents a.1.device) s rs os b.0.gate b.1)

  module _ (stop : Bool) (old new : Registered) (a b : Logged S J × Buffered W) (all : List (List Field)) where
    abbrev Now : State → List (List Field) → List Outcome → State → List ℕ → Logged S J × Buffered W → Type 0
    Now s rs os t unwritten m = Reaches a b s rs os t unwritten m

    reached : (es : List Event) (x : Exchanged Happens a b es) (s t : State) (os : List Outcome) →
        Whole IsExchange s x.done os t → Now s [] [] s [] a
        → (n : Logged S J × Buffered W) × Now s (records_taken x.done) os t [] n × History Happens n es b
    reached es x s t os run l = log_exchanged (contents a.1.device) s x.done es a b [] [] s t os refl l run x.history

    with_rest : (s t : State) (rs rest : List (List Field)) (os : List Outcome) (unwritten : List ℕ) → all ≡ rs ++ rest →
        Now s rs os t unwritten b → Now s all os t unwritten b
    with_rest s t rs rest os unwritten is l =
        rw is (logs_longer j.stored j.may_leave contents (contents a.1.device) s rs rest os t unwritten b.0.gate b.1 l)

    gives_whole : (end : Status) (h : RanIn Happens stop old a new b end) → Gives (Entire a b) all h.x.done
    gives_whole end h s t rest os is claims run = (
      claims,
      λ l.
          let n = reached (last_events end) h.x s t os run l in
          with_rest s t (records_taken h.x.done) rest os [] is
          (log_end (contents a.1.device) s end (records_taken h.x.done) os t n.0 b n.1 n.2),
    )

    some_logs : (s u : State) (rs rest : List (List Field)) (os first late : List Outcome) (unwritten : List ℕ)
        (m : Logged S J × Buffered W) → all ≡ rs ++ rest → os ≡ first ++ late → m ≡ b → Now s rs first u unwritten m →
        LogsSome j.stored j.may_leave contents (contents a.1.device) s all os b.0.gate b.1
    some_logs s u rs rest os first late unwritten m is splits same l =
        record {
          first = first;
          later = late;
          splits = splits;
          state = u;
          unwritten = unwritten;
          logs = with_rest s u rs rest first unwritten is
              (subst (λ (x : Logged S J × Buffered W). Now s rs first u unwritten x) same l);
        }

    one_event : (e : Event) (x : Exchanged Happens a b (e ∷ [])) (s t : State) (rest : List (List Field)) (os : List Outcome) →
        all ≡ records_taken x.done ++ rest → Whole IsExchange s x.done os t →
        ((m n : Logged S J × Buffered W) → Now s (records_taken x.done) os t [] m → Happens m e n
        → Now s (records_taken x.done) os t [] n)
        → Now s [] [] s [] a → LogsSome j.stored j.may_leave contents (contents a.1.device) s all os b.0.gate b.1
    one_event e x s t rest os is run goes l =
        let n = reached (e ∷ []) x s t os run l in
        some_logs s t (records_taken x.done) rest os os [] [] n.2.0 is (sym (append-nil os)) n.2.2 (goes n.0 n.2.0 n.1 n.2.1)

    gives_part : (e : RunFault) (h : CutIn Happens stop old a new b e) → Gives (Part a b) all (exchanges_cut h)
    gives_part e (In_taking of x answered) s t rest os is claims run = (
      claims,
      one_event (Not_taken e) x s t rest os is run (λ m n now h.
          log_untouched (contents a.1.device) s (records_taken x.done) os t m n h.1.0 now h.1.1 h.1.2.untouched h.1.2.waits),
    )
    gives_part e (runs.Not_sent write x answered) s t rest os is claims run = (
      claims,
      one_event Not_sent x s t rest os is run
          (λ m n now h. log_passes (contents a.1.device) s (records_taken x.done) os t m n now h.1),
    )
    gives_part e (Past_the_most many r x most answered) s t rest os is claims run =
        (claims, one_event (Took r) x s t rest os is run (log_took (contents a.1.device) s (records_taken x.done) os t r))
    gives_part e (No_text memory r w x answered) s t rest os is claims run = (
      claims,
      λ l.
          let k = last_step s t x.done (unwritten r w) os run in
          let n = reached (Took r ∷ []) x s k.2 k.0 k.4 l in
          some_logs s k.2 (records_taken x.done) (r ∷ rest) os k.0 (k.1 ∷ []) [] n.2.0
          (is ∙ ap (λ (rs : List (List Field)). rs ++ rest) (more_taken x.done (unwritten r w))
          ∙ append_assoc (records_taken x.done) (r ∷ []) rest) k.3 n.2.2
          (log_took (contents a.1.device) s (records_taken x.done) k.0 k.2 r n.0 n.2.0 n.1 n.2.1),
    )
    gives_part e (In_text write r front late accepts some x answered) s t rest os is claims run = (
      claims,
      λ l.
          let last = unwritten r (front ++ late, accepts) in
          let k = last_step s t x.done last os run in
          let n = reached (Took r ∷ Cut front late accepts ∷ []) x s k.2 k.0 k.4 l in
          let cut = n.2.2.1.1 in
          some_logs s t (records_taken x.done ++ r ∷ []) rest os os [] late n.2.2.0
          (is ∙ ap (λ (rs : List (List Field)). rs ++ rest) (more_taken x.done last)) (sym (append-nil os)) n.2.2.2
          (subst (λ (p : List Outcome). Now s (records_taken x.done ++ r ∷ []) p t late n.2.2.0) (sym k.3)
          (log_answered (contents a.1.device) s (records_taken x.done) k.0 k.2 t r k.1 front late accepts n.0 n.2.0 n.2.2.0
          cut.0 (k.4.0 ∙ sym (taken_length x.done)) n.1 k.5.0 k.5.1 n.2.1 cut.1 cut.2)),
    )

-- ---- from the start to the end

module _ {J W : Type 0} (stored : J → List ℕ) (may_leave : J → List ℕ → Type 0) (contents : W → Known) (s : State)
    (j : J) (o : Buffered W) (k : Began stored may_leave contents s j o) where
  pub logs_start : (g : Gate J) → g.journal ≡ j → waiting g.unstored ≡ record { ready = []; batch = [] } →
      Logs stored may_leave contents (contents o.device) s [] [] s [] g o
  logs_start g is none =
      record {
        run = refl;
        sent = [];
        device = Appends-nil (contents o.device);
        bytes = sym (append-nil (pending o) ∙ k.none_pending);
        survives = subst (λ (x : J). Survives s [] [] (may_leave x) []) (sym is)
            (survives_only stored may_leave contents (contents o.device) s [] [] [] j s.content k.only k.leads up);
        going = λ _.
            subst (λ (x : J × Waiting). Going stored may_leave contents s [] [] s [] x.0 x.1.ready x.1.batch)
            (λ n. (sym is n, sym none n))
            (fresh stored may_leave contents (contents o.device) s [] [] s [] j [] [] k.only k.leads refl
            (subst (λ (b : Option (List Change)). HoldsBatch s.content b []) (sym k.closed_batch) refl) up);
      }
    where
      up : UpTo s [] [] s.content []
      up = up_to_all s s [] [] [] [] refl refl

module _ {S W J : Type 0} (left : S → List (List Field) → Type 0) (contents : W → Known) (j : journal.Ghosts J)
    (a b : Logged S J × Buffered W) (log : J) (i : Gate J) (q : Buffered W) (is : a.0.gate.journal ≡ log)
    (none : waiting a.0.gate.unstored ≡ record { ready = []; batch = [] })
    (sends : Passes j.stored j.may_leave contents b.0.gate b.1 i q []) where
  abbrev Start : State → Type 0
  Start s = Began j.stored j.may_leave contents s log a.1

  starts : (s : State) → Start s → Reaches left contents j a b s [] [] s [] a
  starts s k = logs_start j.stored j.may_leave contents s log a.1 k a.0.gate is none

  passed : (s t : State) (rs : List (List Field)) (os : List Outcome) (unwritten : List ℕ) →
      Reaches left contents j a b s rs os t unwritten b
      → Logs j.stored j.may_leave contents (contents a.1.device) s rs os t unwritten i q
  passed s t rs os unwritten l =
      logs_pass j.stored j.may_leave contents (contents a.1.device) s rs os t [] unwritten b.0.gate i b.1 q l sends

  -- a run whose answers were sent at the end
  whole_lasts : ready i ≡ [] → is_closed i ≡ false → (s : State) (rs : List (List Field)) (os : List Outcome) (t : State) →
      Entire left contents j a b s rs os t → LastsWhole j.stored j.may_leave contents log a.1 i q s rs os t
  whole_lasts stored_all still s rs os t w = (
    w.0,
    λ k. let l = passed s t rs os [] (w.1 (starts s k)) in let go = l.going still in (
      l.sent,
      l.device,
      l.survives,
      up_to_all s t rs os l.sent (pending q) l.run (l.bytes ∙ append-nil (l.sent ++ pending q)),
      subst (λ (x : List ℕ). Leads x t.content)
          (ap (λ (x : List ℕ). j.stored i.journal ++ x) stored_all ∙ append-nil (j.stored i.journal)) go.all,
      go.only,
    ),
  )

  part_lasts : (s : State) (rs : List (List Field)) (os : List Outcome) (t : State) → Part left contents j a b s rs os t →
      Lasts j.stored j.may_leave contents log a.1 (j.may_leave i.journal) q s rs os t
  part_lasts s rs os t w = (
    w.0,
    λ k.
        let some = w.1 (starts s k) in
        let l = passed s some.state rs some.first some.unwritten some.logs in (
          l.sent,
          l.device,
          λ text m. let c = l.survives text m in
              (c.0, c.1, up_on s rs rs [] os some.first some.later c.0 l.sent (sym (append-nil rs)) some.splits c.2),
        ),
  )

  unsent_lasts : (s : State) (rs : List (List Field)) (os : List Outcome) (t : State) → Entire left contents j a b s rs os t →
      Lasts j.stored j.may_leave contents log a.1 (j.may_leave i.journal) q s rs os t
  unsent_lasts s rs os t w = (w.0, λ k. let l = passed s t rs os [] (w.1 (starts s k)) in (l.sent, l.device, l.survives))

  -- the end of a run, once its answers were sent, or could not be
  pub lasting : {A : Type 0} (stop : Bool) (old new : Registered) (source : S) (r : Result Status RunFault)
      (s : Result A RunFault) → a.0.source ≡ source → OnOk s ((ready i ≡ []) × (is_closed i ≡ false)) →
      IfErr s (λ e. e ≡ fault.Write) → IsContent old.state.content → IfOk r (RanIn (Happens left contents j) stop old a new b)
      → IfErr r (CutIn (Happens left contents j) stop old a new b) → (records : Records) → IfSome records (left source)
      → EndedOn (LastsWhole j.stored j.may_leave contents log a.1 i q) (Lasts j.stored j.may_leave contents log a.1 (j.may_leave i.journal) q) stop
      old records (written contents a.1) new (written contents q) (once_sent r s)
  lasting stop old new source r s of all unsent base ran cut records begins =
      let run =
      on_records (left_of left contents j) (written_of left contents j) (Happens left contents j) (log_sees left contents j)
      stop old new a b (Entire left contents j a b) (Part left contents j a b)
      (gives_whole left contents j stop old new a b) (gives_part left contents j stop old new a b) records r base
      (subst (λ (x : S). IfSome records (left x)) (sym of) begins) ran cut in
      ended_sent (Entire left contents j a b) (Part left contents j a b)
      (LastsWhole j.stored j.may_leave contents log a.1 i q) (Lasts j.stored j.may_leave contents log a.1 (j.may_leave i.journal) q) stop old
      (written contents a.1) new (written contents b.1) (written contents q) (passes_stores b.0.gate i b.1 q sends) records r s
      (on_sent s all) unsent_lasts part_lasts unsent run
    where
      on_sent : {A : Type 0} (s : Result A RunFault) → OnOk s ((ready i ≡ []) × (is_closed i ≡ false)) →
          OnOk s (Then (Entire left contents j a b) (LastsWhole j.stored j.may_leave contents log a.1 i q))
      on_sent (Ok done) h = whole_lasts h.0 h.1
      on_sent (Err e) h = tt
