-- A run is determined by what it reads, reports out of memory only where that may be, and rebuilds a dumped content; a run
-- that is cut off, and the next one from what is left of its log.
use Rattle.olr_run.proofs.Common.{◌&&◌, cases_Bool, AreAnswered, append-nil, SoundOutcome, records_of, outcome_text, Registered}
use Rattle.olr_run.proofs.Common.{is_err, IsFalse, ByState, read, Appends, Claims, texts, In_last, EndedOn, Known, or_parts}
use Rattle.olr_run.proofs.Common.{Outcome, Outcomes, IsRefusal, may_lack, both_ways, run_join, Represents, RunFault, Field}
use Rattle.olr_run.proofs.Common.{lacks_memory, CommandOutcome, RecordOutcome, AllHadMemory, append_assoc, SoundOutcomes}
use Rattle.std.proofs.Common.{◌≡◌, [], ◌∷◌, Ok, Err, sym, ◌∙◌, inl, inr, ◌⊎◌, map, ℕ, take, Some, None, ap, suc, ◌+◌, Bool}
use Rattle.std.proofs.Common.{false, List, refl, subst, arith, IsTrue, length, Result, true, ◌++◌, Option, length-append}
use Rattle.olr_commands.specs.State.{State, Command, HasCoords, IsState, Memory, Fault, step, Change, Content, IsContent, Abort}
use Rattle.olr_records.specs.Records.{Read, HoldsList}
use Rattle.olr_run.specs.Output.{StopsAtFault, any_refused, CutOff, Before_next, No_text, Not_sent}
use Rattle.olr_laws.proofs.CommandLemmas.{one_outcome, outcome_keeps}
use Rattle.olr_records.proofs.ReadLemmas.{coords_read}
use Rattle.olr_commands.specs.Reply.{Lacks}
use Rattle.std.specs.Prelude.{IsOkAnd}
use Rattle.olr_run.proofs.Dumping.{step_fault}
use Rattle.olr_commands.specs.Dump.{steps_then, steps}
use Rattle.olr_laws.specs.RunLaws.{RunLaws}
use Rattle.olr_commands.proofs.HistoryLemmas.{start_sound}
use Rattle.olr_commands.proofs.StateLemmas.{steps_keep}
use Rattle.olr_log.specs.Logs.{stored_of, left_of, is_native_of}
use Rattle.olr_log.specs.declared.log_file.LogFile.{LogFile}
use Rattle.olr_run.specs.LogEnds.{BeginsWith}
use Rattle.olr_run.specs.Logs.{Lasts}
use Rattle.olr_run.specs.Logged.{Accepted, closed, Leads}
use Rattle.olr_commands.specs.History.{Run}
use Rattle.std.proofs.lemmas.List.Concat.{flat_map-append}
use Rattle.olr_run.specs.Ends.{FromLog, Not_begun, Begun}
use Rattle.olr_run.specs.declared.statuses.Status.{Status}
use Rattle.olr_run.proofs.RunLemmas.{claims_of, sound_after}
use Rattle.olr_input.specs.Buffers.{written}
use Rattle.olr_log.specs.Journals.{Only}
use Rattle.olr_input.specs.declared.buffered.Buffered.{Buffered}
use Rattle.olr_laws.specs.LogLaws.{dropping, dropped, NextContinues, HasBegun, IsHonest, TwoRuns}
use Rattle.olr_log.specs.declared.folder.Folder as folder
use Rattle.sqlite_disk.specs.declared.Disk as disk
use Rattle.olr_spec.proofs.LawOf.{LawOf}

command_keeps : (s t : State) (r : Read Command) (o : Outcome) → ((c : Command) → r ≡ Ok c → HasCoords c) → IsState s →
    CommandOutcome s r o t → IsState t
command_keeps s t (Ok c) o h i p = outcome_keeps s t c o i (h c refl) p
command_keeps s t (Err f) o h i p = subst IsState (sym p.1) i

record_keeps : (s t : State) (fields : List Field) (o : Outcome) → IsState s → RecordOutcome s fields o t → IsState t
record_keeps s t fields o i h = grind (arith, command_keeps, coords_read)

pub outcomes_keep : LawOf (λ (l : RunLaws). l.outcomes_keep)
outcomes_keep s t rs [] i p = subst IsState p i
outcomes_keep s t [] (o ∷ os) i p = absurd p
outcomes_keep s t (r ∷ rs) (o ∷ os) i p = outcomes_keep p.0 t rs os (record_keeps s p.0 r o i p.1) p.2

-- ---- one run

one_command : (s t u : State) (r : Read Command) (o q : Outcome) → ((c : Command) → r ≡ Ok c → HasCoords c) →
    IsState s → IsFalse (lacks_memory o) → IsFalse (lacks_memory q)
    → CommandOutcome s r o t → CommandOutcome s r q u → (o ≡ q) × (t ≡ u)
one_command s t u (Ok c) o q h i n m p g = one_outcome s t u c o q i (h c refl) n m p g
one_command s t u (Err f) o q h i n m p g = (p.0 ∙ sym g.0, p.1 ∙ sym g.1)

one_record : (s t u : State) (fields : List Field) (o q : Outcome) → IsState s → IsFalse (lacks_memory o) →
    IsFalse (lacks_memory q)
    → RecordOutcome s fields o t → RecordOutcome s fields q u → (o ≡ q) × (t ≡ u)
one_record s t u fields o q i n m h k = grind (arith, one_command, coords_read, both_ways)

-- the remaining records after an outcome that does not end the run
all_rest : (stop : Bool) (r : List Field) (rs : List (List Field)) (o : Outcome) (os : List Outcome) →
    (stop && is_err o) ≡ false → AreAnswered stop (r ∷ rs) (o ∷ os) → AreAnswered stop rs os
all_rest stop r rs o os e h = grind (arith, cases_Bool stop)

none_left : (stop : Bool) (r : List Field) (rs : List (List Field)) → AreAnswered stop (r ∷ rs) [] → ⊥
none_left stop r rs h = grind (arith, cases_Bool)

one_list : (stop : Bool) (s t u : State) (rs : List (List Field)) (os qs : List Outcome) → IsState s → AllHadMemory os →
    AllHadMemory qs → AreAnswered stop rs os → AreAnswered stop rs qs
    → StopsAtFault stop os → StopsAtFault stop qs → Outcomes s rs os t → Outcomes s rs qs u → (os ≡ qs) × (t ≡ u)
one_list stop s t u [] [] [] i n m a b c d p q = (refl, sym p ∙ q)
one_list stop s t u [] [] (o ∷ qs) i n m a b c d p q = absurd q
one_list stop s t u [] (o ∷ os) qs i n m a b c d p q = absurd p
one_list stop s t u (r ∷ rs) [] qs i n m a b c d p q = absurd (none_left stop r rs a)
one_list stop s t u (r ∷ rs) (o ∷ os) [] i n m a b c d p q = absurd (none_left stop r rs b)
one_list stop s t u (r ∷ rs) (o ∷ os) (k ∷ qs) i n m a b c d p q =
    grind (
      arith,
      or_parts,
      one_record,
      cases_Bool,
      record_keeps,
      all_rest,
      one_list stop p.0 t u rs os qs (record_keeps s p.0 r o i p.1),
    )

pub one_run : LawOf (λ (l : RunLaws). l.one_run)
one_run stop s t u rs w v end stand i p q n m = grind (arith, one_list)

-- ---- of a record

refused : (s : State) (c : Command) → IsRefusal s c Memory → IsTrue (may_lack s c)
refused s c (ByState e) = grind (arith, step_fault)
refused s c (Lacks is may) = may

of_command : (s t : State) (r : Read Command) → CommandOutcome s r (Err Memory) t →
    IsOkAnd r (λ c. HoldsList c ⊎ IsTrue (may_lack s c))
of_command s t (Ok c) h = inr (refused s c h.0)
of_command s t (Err f) h = grind arith

of_reading : (s : State) (r : Read Command) → IsOkAnd r HoldsList → IsOkAnd r (λ c. HoldsList c ⊎ IsTrue (may_lack s c))
of_reading s (Ok c) h = inl h
of_reading s (Err f) h = h

pub memory_lacks : LawOf (λ (l : RunLaws). l.memory_lacks)
memory_lacks s t fields h = grind (arith, of_command, of_reading)

-- ---- a run over the text of a dump

then_ok : (r : Result State Fault) (f : State → Result State Fault) (u : State) → steps_then r f ≡ Ok u →
    (v : State) × (r ≡ Ok v) × (f v ≡ Ok u)
then_ok (Ok v) f u is = (v, refl, is)
then_ok (Err fault) f u is = absurd cc

refused_not : (s v : State) (c : Command) (f : Fault) → step s c ≡ Ok v → IsFalse (lacks_memory (Err f)) →
    IsRefusal s c f → ⊥
refused_not s v c f is had (ByState e) = grind arith
refused_not s v c f is had (Lacks memory may) = grind arith

command_goes : (s t v : State) (r : Read Command) (c : Command) (o : Outcome) → r ≡ Ok c → step s c ≡ Ok v →
    IsFalse (lacks_memory o) → CommandOutcome s r o t → (is_err o ≡ false) × (t ≡ v)
command_goes s t v r c (Ok reply) e is had p = grind arith
command_goes s t v r c (Err f) e is had p = grind (arith, refused_not)

record_goes : (s t v : State) (fields : List Field) (c : Command) (o : Outcome) → read fields ≡ Ok c →
    step s c ≡ Ok v → IsFalse (lacks_memory o) → RecordOutcome s fields o t → (is_err o ≡ false) × (t ≡ v)
record_goes s t v fields c o e is had h = grind (arith, command_goes, both_ways)

all_go : (s u t : State) (cs : List Command) (rs : List (List Field)) (os : List Outcome) →
    map read rs ≡ map (λ c. Ok c) cs → steps s cs ≡ Ok u → AllHadMemory os → Outcomes s rs os t →
    IsFalse (any_refused os) × (length os ≡ length rs → t ≡ u)
all_go s u t [] [] [] e is had run = grind arith
all_go s u t (c ∷ cs) [] [] e is had run = absurd cc
all_go s u t cs (r ∷ rs) [] e is had run = grind arith
all_go s u t cs [] (o ∷ os) e is had run = absurd run
all_go s u t [] (r ∷ rs) (o ∷ os) e is had run = absurd cc
all_go s u t (c ∷ cs) (r ∷ rs) (o ∷ os) e is had run =
    let p = then_ok (step s c) (λ v. steps v cs) u is in
    grind (arith, or_parts, record_goes s run.0 p.0 r c o, all_go run.0 u t cs rs os)

-- a run over all records ends with the state that they lead to
ended : (stop : Bool) (rs : List (List Field)) (os : List Outcome) → IsFalse (any_refused os) →
    AreAnswered stop rs os → length os ≡ length rs
ended stop rs os none h = grind arith

pub dumps_reload : LawOf (λ (l : RunLaws). l.dumps_reload)
dumps_reload text n c stop t w end b p had = grind (arith, all_go, ended)

-- ---- runs with a log

-- ---- one run

-- of the records that have outcomes
run_front : {A : Type 0} (P : State → A → Outcome → State → Type 0) (s t : State) (xs : List A) (os : List Outcome) →
    Run P s xs os t → (length os ≡ length (take (length os) xs)) × Run P s (take (length os) xs) os t
run_front P s t xs [] h = (refl, h)
run_front P s t [] (o ∷ os) h = absurd h
run_front P s t (x ∷ xs) (o ∷ os) h =
    let more = run_front P h.0 t xs os h.2 in (ap suc more.0, (h.0, h.1, more.1))

-- an open batch is dropped
batch_dropped : (s : State) (batch : Option (List Change)) → s.batch ≡ batch → IsContent s.content →
    SoundOutcomes s (dropping batch) (dropped batch) (closed s.content)
batch_dropped s None none sound = λ i. record { content = s.content; batch = none i }
batch_dropped s (Some xs) some sound =
    let aborts : step s Abort ≡ Ok (closed s.content) = rw some refl in (closed s.content, (inl (aborts, refl), sound), refl)

both_long : (batch : Option (List Change)) → length (dropped batch) ≡ length (dropping batch)
both_long None = refl
both_long (Some xs) = refl

pub next_continues : NextContinues
next_continues s t rs qs os next c sent sound u second =
    let b = u.state.batch in
    let front = run_front SoundOutcome s u.state rs u.first u.run in
    let mid = sound_after s u.state rs u.first sound u.run in
    let begins : Claims (closed u.state.content) qs next t =
    subst (λ (x : Content). Claims (closed x) qs next t) (sym u.content) second in
    let records = take (length u.first) rs in
    let one =
    run_join SoundOutcome s u.state (closed u.state.content) records (dropping b) u.first (dropped b) front.0 front.1
    (batch_dropped u.state b refl mid) in
    let size : length (u.first ++ dropped b) ≡ length (records ++ dropping b) =
    length-append u.first (dropped b) ∙ (λ i. front.0 i + both_long b i) ∙ sym (length-append records (dropping b)) in
    let claims = claims_of s (records ++ dropping b ++ qs) (u.first ++ dropped b ++ next) t sound
    (run_join SoundOutcome s (closed u.state.content) t (records ++ dropping b) qs (u.first ++ dropped b) next size one
    begins.headline.run) in
    record { first = u.first; middle = u.state; run = u.run; unsent = u.unsent; texts_are = u.texts_are; claims = claims }

-- ---- a content to which records lead is sound

accepted_sound : (rs : List (List Field)) (s t : State) → IsState s → Accepted s rs t → IsState t
accepted_sound [] s t sound a = subst IsState a sound
accepted_sound (r ∷ rs) s t sound a =
    accepted_sound rs a.3 t (steps_keep s a.3 a.0 sound (coords_read r a.0 a.1) a.4) a.5

begins_sound : (kind : Bool) (text : List ℕ) (c : Content) → BeginsWith kind text c → IsContent c
begins_sound true text c l = (accepted_sound l.records _ _ start_sound l.accepted).content
begins_sound false text c l = (accepted_sound (records_of text) _ _ start_sound l).content

-- ---- what was written

texts_more : (os before : List Outcome) (last : Outcome) → os ≡ before ++ last ∷ [] → texts os ≡ texts before ++ texts (last ∷ [])
texts_more os before last are = ap texts are ∙ flat_map-append outcome_text before (last ∷ [])

whole : (os : List Outcome) (w : List ℕ) → w ≡ texts os → texts os ≡ w ++ []
whole os w is = sym is ∙ sym (append-nil w)

cut_front : (stop : Bool) (os : List Outcome) (w : List ℕ) (e : RunFault) → CutOff stop os w e →
    (rest : List ℕ) × (texts os ≡ w ++ rest)
cut_front stop os w e (Before_next not_write none is) = ([], whole os w is)
cut_front stop os w e (No_text memory before last are is) =
    (texts (last ∷ []), texts_more os before last are ∙ ap (λ (x : List ℕ). x ++ texts (last ∷ [])) (sym is))
cut_front stop os w e (In_last write before last front back are text some is) = (
  back ++ [],
  texts_more os before last are
      ∙ ap (λ (x : List ℕ). texts before ++ x) (ap (λ (x : List ℕ). x ++ []) text ∙ append_assoc front back [])
      ∙ sym (append_assoc (texts before) front (back ++ [])) ∙ ap (λ (x : List ℕ). x ++ (back ++ [])) (sym is),
)
cut_front stop os w e (Not_sent write is) = ([], whole os w is)

-- of a run, whole or cut off: its outcomes, and what was written of their texts
record WrittenOutcomes (Each : State → List (List Field) → List Outcome → State → Type 0) (s : State) (rs : List (List Field))
    (before later : Known) : Type 0 where
  state : State
  outcomes : List Outcome
  each : Each s rs outcomes state
  wrote : List ℕ
  rest : List ℕ
  written_is : Appends before later wrote
  texts_are : texts outcomes ≡ wrote ++ rest

outcomes_of : (Each : State → List (List Field) → List Outcome → State → Type 0) (stop : Bool) (old : Registered)
    (rs : List (List Field)) (before : Known) (new : Registered) (later : Known) (end : Result Status RunFault) →
    EndedOn Each Each stop old (Some rs) before new later end → (s : State) → Represents old.state s →
    WrittenOutcomes Each s rs before later
outcomes_of Each stop old rs before new later (Ok end) run s represents =
    let r = run s represents in
    let all = r.4.outcomes in
    let same = whole all r.2 r.4.wrote in
    record { state = r.0; outcomes = all; each = r.4.each; wrote = r.2; rest = []; written_is = r.3; texts_are = same }
outcomes_of Each stop old rs before new later (Err e) run s represents =
    let r = run.0 s represents in
    let all = r.4.outcomes in
    let cut = cut_front stop all r.2 e r.4.wrote in
    record { state = r.0; outcomes = all; each = r.4.each; wrote = r.2; rest = cut.0; written_is = r.3; texts_are = cut.1 }

-- ---- two runs

module _ {D F : Type 0} (d : disk.Ghosts D) (f : folder.Ghosts F D) {W : Type 0} (contents : W → Known) where
  -- a run from a log that led to a content, and the log from which it began
  ran : (log last : LogFile D F d f) (least : ℕ) (stop : Bool) (rs : List (List Field)) (o p : Buffered W) (code : ℕ)
      (one : FromLog contents log last least stop (Some rs) o p code) → HasBegun one → IsHonest one → (c : Content) →
      BeginsWith (is_native_of log) (stored_of log) c → (start : LogFile D F d f) × Leads (stored_of start) c
      × (Only (stored_of log) (left_of log) → Only (stored_of start) (left_of start))
      × WrittenOutcomes (Lasts stored_of left_of contents start o (left_of last) p) (closed c) rs (written contents o) (written contents p)
  ran log last least stop rs o p code (Not_begun same rejected oversized status gone) began honest c says = absurd began
  ran log last least stop rs o p code (Begun read start old new begins end run g through after status) began honest c says =
      let b = begins.leads honest.0 honest.1 c says in
      let Each = Lasts stored_of left_of contents start o (left_of last) p in
      (start, b.1, begins.only, outcomes_of Each stop old rs (written contents o) new (written contents p) end run (closed c) b.0)

  pub two_runs : TwoRuns d f contents
  two_runs log last least stop rs o p code one began honest c says only none next end most again qs u v status two begun true_too own left =
      let r = ran log last least stop rs o p code one began honest c says in
      let l = r.3.each.1 (record { closed_batch = refl; only = r.2 only; leads = r.1; none_pending = none }) in
      let s = l.2 (stored_of next) left in
      let next_says : BeginsWith (is_native_of next) (stored_of next) s.0 =
      subst (λ (b : Bool). BeginsWith b (stored_of next) s.0) (sym own) s.1 in
      let a = (ran next end most again qs u v status two begun true_too s.0 next_says).3 in (
        l.0,
        l.1,
        a.outcomes,
        a.state,
        next_continues (closed c) a.state rs qs r.3.outcomes a.outcomes s.0 l.0 (begins_sound (is_native_of log) (stored_of log) c says)
            s.2 a.each.0,
        a.wrote,
        a.rest,
        a.written_is,
        a.texts_are,
      )
