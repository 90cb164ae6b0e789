-- The log of a run, record by record.
use Rattle.olr_run.proofs.Common.{Outcome, Field, read, outcome_text, SoundOutcome, SoundOutcomes, texts, run_longer, run_more}
use Rattle.olr_run.proofs.Common.{append-nil, append_assoc, Known, CommandOutcome, ◌≡◌, ◌∙◌, ℕ, Bool, true, false, List, []}
use Rattle.olr_run.proofs.Common.{◌∷◌, ◌++◌, length, Option, Some, None, Ok, Err, inl, inr, refl, sym, ap, subst, if◌then◌else◌}
use Rattle.olr_run.proofs.Common.{is_ok, is_some, concat, join_with_byte, Appends-trans, flat_map-append, Content, Change}
use Rattle.olr_run.proofs.Common.{Command, Make, Begin, Commit, Abort, State, Fault, after, step_in, start_state, IsContent}
use Rattle.olr_run.proofs.Common.{Ends, ends, Effect, fields_line, Reply, Read, closed, Leads, LeadsFrom, UpTo, Survives}
use Rattle.olr_run.proofs.Common.{answer_of, pending, is_closed, ready, Untouched, Passes, dump_lines, IsFront, Only, is_empty}
use Rattle.olr_run.proofs.Common.{Waiting, effect_of, has_line, Concludes, Answer, Appends, waiting, next_line, Buffered, Gate}
use Rattle.olr_log.specs.Gates.{batch, Storing, None_sent, None_ready, All_stored, Cut_off, Replacement, Replaced}
use Rattle.olr_log.specs.Gates.{Left_as_it_was, Compacts}
use Rattle.olr_log.specs.StoredLines.{stored_line, line_if, line_of, concluded}
use Rattle.olr_run.proofs.Accepting.{leads_join, one_leads}
use Rattle.olr_records.proofs.ReadLemmas.{effect_for}
use Rattle.olr_run.proofs.Plain.{effect_is}
use Rattle.olr_run.proofs.Restoring.{holding, make_closed, make_held}
use Rattle.olr_run.proofs.Dumped.{dump_leads}
use Rattle.olr_log.specs.declared.journal.Journal as journal

-- ---- what is known of the log of a run at any moment

-- the lines of an open batch make its changes
abbrev pub HoldsBatch : Content → Option (List Change) → List ℕ → Type 0
HoldsBatch c None text = text ≡ []
HoldsBatch c (Some xs) text = (is_empty text ≡ false) × LeadsFrom (closed c) text (holding c xs)

module _ {J W : Type 0} (stored : J → List ℕ) (may_leave : J → List ℕ → Type 0) (contents : W → Known) where
  -- with its lines that are ready the log leads to the content now, and with any whole front of them to an earlier one
  pub record Going (s : State) (rs : List (List Field)) (os : List Outcome) (t : State) (sent : List ℕ) (j : J)
      (lines inner : List ℕ) : Type 0 where
    pub only : Only (stored j) (may_leave j)
    pub fronts : (front : List ℕ) → IsFront lines front → (c : Content) × Leads (stored j ++ front) c
        × UpTo s rs os c sent
    pub all : Leads (stored j ++ lines) t.content
    pub batches : HoldsBatch t.content t.batch inner

  -- the outcomes lead from s to t; of their texts, some bytes were sent, the next ones are held back, and the last ones
  -- are not written yet
  pub record Logs (base : Known) (s : State) (rs : List (List Field)) (os : List Outcome) (t : State)
      (unwritten : List ℕ) (g : Gate J) (o : Buffered W) : Type 0 where
    pub run : SoundOutcomes s rs os t
    pub sent : List ℕ
    pub device : Appends base (contents o.device) sent
    pub bytes : texts os ≡ (sent ++ pending o) ++ unwritten
    pub survives : Survives s rs os (may_leave g.journal) sent
    pub going : is_closed g ≡ false → Going s rs os t sent g.journal (ready g) (batch g)

  -- the same, without the last outcomes
  pub record LogsSome (base : Known) (s : State) (rs : List (List Field)) (os : List Outcome) (g : Gate J)
      (o : Buffered W) : Type 0 where
    pub first : List Outcome
    pub later : List Outcome
    pub splits : os ≡ first ++ later
    pub state : State
    pub unwritten : List ℕ
    pub logs : Logs base s rs first state unwritten g o

-- ---- one command

abbrev Follows : List ℕ → State → Waiting → Type 0
Follows k t w = Leads (k ++ w.ready) t.content × HoldsBatch t.content t.batch w.batch

-- what a log makes of the line of an accepted command
abbrev concluded_as : Command → List Field → Waiting → Waiting
concluded_as c r w = concluded (effect_for c) (line_if (has_line (effect_for c)) (fields_line r)) w

line_some : (x y : List ℕ) → is_empty (x ++ (y ++ 10 ∷ [])) ≡ false
line_some [] [] = refl
line_some [] (b ∷ y) = refl
line_some (b ∷ x) y = refl

module _ (k : List ℕ) (w : Waiting) (r : List Field) where
  leads_more : (c d : Content) (y : List ℕ) → Leads (k ++ w.ready) c → LeadsFrom (closed c) y (closed d) →
      Leads (k ++ (w.ready ++ y)) d
  leads_more c d y l more =
      subst (λ (x : List ℕ). Leads x d) (append_assoc k w.ready y)
      (leads_join start_state (closed c) (closed d) (k ++ w.ready) y l more)

  ends_in : (c : Content) (b : Option (List Change)) (x : Command) (t : State) → read r ≡ Ok x → step_in c b x ≡ Ok t →
      Follows k (record { content = c; batch = b }) w → Ends (λ s. Follows k s (concluded_as x r w)) c b x
  ends_in c None (Make x) t e is h = λ d ok.
      rw h.1
      (leads_more c d (fields_line r) h.0 (one_leads (closed c) (closed d) r (Make x) e tt (make_closed c d x ok)), refl)
  ends_in c (Some xs) (Make x) t e is h = λ d ok room.
      let more = holding c (xs ++ x ∷ []) in
      rw h.1.0 (
        h.0,
        (
          line_some w.batch (join_with_byte 44 r),
          leads_join (closed c) (holding c xs) more w.batch (fields_line r) h.1.1
              (one_leads (holding c xs) more r (Make x) e tt (make_held c xs d x room ok)),
        ),
      )
  ends_in c None Begin t e is h =
      rw h.1 (h.0, (line_some [] (join_with_byte 44 r), one_leads (closed c) (holding c []) r Begin e tt refl))
  ends_in c (Some xs) Begin t e is h = absurd cc
  ends_in c None (Commit n) t e is h = absurd cc
  ends_in c (Some xs) (Commit n) t e is h =
      let made_all = closed (after c xs) in
      let here : t ≡ made_all = ends (λ s. s ≡ made_all) (holding c xs) t (Commit n) is refl in (
        leads_more c (after c xs) (w.batch ++ fields_line r) h.0
            (leads_join (closed c) (holding c xs) made_all w.batch (fields_line r) h.1.1
            (one_leads (holding c xs) made_all r (Commit n) e tt (is ∙ ap (λ (s : State). Ok s) here))),
        refl,
      )
  ends_in c None Abort t e is h = (h.0, refl)
  ends_in c (Some xs) Abort t e is h = (h.0, refl)
  ends_in c None x t e is h = h
  ends_in c (Some xs) x t e is h = h

-- ---- one outcome

refused_same : (t u : State) (q : Read Command) (f : Fault) → CommandOutcome t q (Err f) u → u ≡ t
refused_same t u (Ok c) f h = h.1
refused_same t u (Err e) f h = h.1

-- what waits after an answer
abbrev answered : List Field → Bool → Waiting → Waiting
answered r accepts w = if accepts then concluded (effect_of r) (stored_line r) w else w

concluded_is : (r : List Field) (c : Command) (w : Waiting) → read r ≡ Ok c → concluded (effect_of r) (stored_line r) w ≡ concluded_as c r w
concluded_is r c w e = ap (λ (f : Effect). concluded f (line_if (has_line f) (line_of r)) w) (effect_is r c e)

by_reply : (k : List ℕ) (w : Waiting) (t u : State) (r : List Field) (q : Read Command) (reply : Reply) → read r ≡ q →
    CommandOutcome t q (Ok reply) u → Follows k t w → Follows k u (answered r true w)
by_reply k w t u r (Ok c) reply e h f =
    subst (λ (v : Waiting). Follows k u v) (sym (concluded_is r c w e))
    (ends (λ s. Follows k s (concluded_as c r w)) t u c h.0 (ends_in k w r t.content t.batch c u e h.0 f))
by_reply k w t u r (Err g) reply e h f = absurd (let never = h.0 in cc)

follows_outcome : (k : List ℕ) (w : Waiting) (t u : State) (r : List Field) (o : Outcome) → Follows k t w →
    SoundOutcome t r o u → Follows k u (answered r (is_ok o) w)
follows_outcome k w t u r (Ok reply) f (inl h, sound) = by_reply k w t u r (read r) reply refl h f
follows_outcome k w t u r (Ok reply) f (inr h, sound) = absurd (let never = h.1 in cc)
follows_outcome k w t u r (Err g) f (inl h, sound) =
    subst (λ (x : State). Follows k x w) (sym (refused_same t u (read r) g h)) f
follows_outcome k w t u r (Err g) f (inr h, sound) = subst (λ (x : State). Follows k x w) (sym h.2) f

-- ---- the outcomes so far

-- with more records and outcomes
pub up_on : (s : State) (qs rs more : List (List Field)) (os first late : List Outcome) (c : Content) (sent : List ℕ) →
    qs ≡ rs ++ more → os ≡ first ++ late → UpTo s rs first c sent → UpTo s qs os c sent
up_on s qs rs more os first late c sent all is u =
    record {
      first = u.first;
      later = u.later ++ late;
      splits = is ∙ ap (λ (x : List Outcome). x ++ late) u.splits ∙ append_assoc u.first u.later late;
      state = u.state;
      run = rw all (run_longer SoundOutcome s u.state rs more u.first u.run);
      content = u.content;
      unsent = u.unsent;
      texts_are = u.texts_are;
    }

pub up_to_all : (s t : State) (rs : List (List Field)) (os : List Outcome) (sent unsent : List ℕ) → SoundOutcomes s rs os t →
    texts os ≡ sent ++ unsent → UpTo s rs os t.content sent
up_to_all s t rs os sent unsent run e =
    record {
      first = os;
      later = [];
      splits = sym (append-nil os);
      state = t;
      run = run;
      content = refl;
      unsent = unsent;
      texts_are = e;
    }

pub no_front : (text front : List ℕ) → text ≡ [] → IsFront text front → front ≡ []
no_front text [] e f = refl
no_front text (b ∷ front) e f = absurd (let never : b ∷ front ++ f.rest ≡ [] = sym f.splits ∙ e in cc)

regroup : (x y z w b p : List ℕ) → y ++ z ≡ b ++ p → (x ++ y) ++ (z ++ w) ≡ ((x ++ b) ++ p) ++ w
regroup x y z w b p e =
    append_assoc x y (z ++ w) ∙ ap (λ (l : List ℕ). x ++ l) (sym (append_assoc y z w) ∙ ap (λ (l : List ℕ). l ++ w) e
    ∙ append_assoc b p w)
    ∙ sym (append_assoc x b (p ++ w)) ∙ sym (append_assoc (x ++ b) p w)

module _ {J W : Type 0} (stored : J → List ℕ) (may_leave : J → List ℕ → Type 0) (contents : W → Known) (base : Known)
    (s : State) where
  abbrev Log : List (List Field) → List Outcome → State → List ℕ → Gate J → Buffered W → Type 0
  Log rs os t unwritten g o = Logs stored may_leave contents base s rs os t unwritten g o

  abbrev Goes : List (List Field) → List Outcome → State → List ℕ → J → List ℕ → List ℕ → Type 0
  Goes rs os t sent j lines inner = Going stored may_leave contents s rs os t sent j lines inner

  -- all that was ready is stored
  pub fresh : (rs : List (List Field)) (os : List Outcome) (t : State) (sent : List ℕ) (j : J) (lines inner : List ℕ) →
      Only (stored j) (may_leave j) → Leads (stored j) t.content → lines ≡ [] → HoldsBatch t.content t.batch inner →
      UpTo s rs os t.content sent → Goes rs os t sent j lines inner
  fresh rs os t sent j lines inner only leads none batches up =
      record {
        only = only;
        fronts = λ front f. (
          t.content,
          subst (λ (x : List ℕ). Leads x t.content)
              (sym (ap (λ (x : List ℕ). stored j ++ x) (no_front lines front none f) ∙ append-nil (stored j))) leads,
          up,
        );
        all = subst (λ (x : List ℕ). Leads x t.content)
            (sym (ap (λ (x : List ℕ). stored j ++ x) none ∙ append-nil (stored j))) leads;
        batches = batches;
      }

  pub survives_only : (rs : List (List Field)) (os : List Outcome) (sent : List ℕ) (j : J) (c : Content) →
      Only (stored j) (may_leave j) → Leads (stored j) c → UpTo s rs os c sent → Survives s rs os (may_leave j) sent
  survives_only rs os sent j c only leads up = λ text m.
      (c, subst (λ (x : List ℕ). Leads x c) (sym (only text m)) leads, up)

  open_before : (g h : Gate J) → (is_closed g ≡ true → is_closed h ≡ true) → is_closed h ≡ false → is_closed g ≡ false
  open_before g h c e = by_closed (is_closed g) refl
    where
      by_closed : (b : Bool) → is_closed g ≡ b → is_closed g ≡ false
      by_closed true is = absurd (let never : true ≡ false = sym (c is) ∙ e in cc)
      by_closed false is = is

  -- ---- what passes the gate

  module _ (rs : List (List Field)) (os : List Outcome) (t : State) (text rest : List ℕ) (g h : Gate J) (o p : Buffered W)
      (a : Log rs os t (text ++ rest) g o) (b : Passes stored may_leave contents g o h p text) where
    bytes_now : texts os ≡ ((a.sent ++ b.sent) ++ pending p) ++ rest
    bytes_now = a.bytes ∙ regroup a.sent (pending o) text rest b.sent (pending p) b.bytes

    up_now : UpTo s rs os t.content (a.sent ++ b.sent)
    up_now =
        up_to_all s t rs os (a.sent ++ b.sent) (pending p ++ rest) a.run
        (bytes_now ∙ append_assoc (a.sent ++ b.sent) (pending p) rest)

    batch_now : HoldsBatch t.content t.batch (batch g) → HoldsBatch t.content t.batch (batch h)
    batch_now k = subst (HoldsBatch t.content t.batch) (sym b.others.batches) k

    with_log : Survives s rs os (may_leave h.journal) (a.sent ++ b.sent) →
        (is_closed h ≡ false → Goes rs os t (a.sent ++ b.sent) h.journal (ready h) (batch h)) → Log rs os t rest h p
    with_log lives goes =
        record {
          run = a.run;
          sent = a.sent ++ b.sent;
          device = Appends-trans base (contents o.device) (contents p.device) a.sent b.sent a.device b.device;
          bytes = bytes_now;
          survives = lives;
          going = goes;
        }

    -- the log leads to all outcomes, and nothing waits
    with_all : Only (stored h.journal) (may_leave h.journal) → Leads (stored h.journal) t.content → ready h ≡ [] →
        HoldsBatch t.content t.batch (batch g) → Log rs os t rest h p
    with_all only leads none inner =
        with_log (survives_only rs os (a.sent ++ b.sent) h.journal t.content only leads up_now)
        (λ _. fresh rs os t (a.sent ++ b.sent) h.journal (ready h) (batch h) only leads none (batch_now inner) up_now)

    none_more : b.sent ≡ [] → a.sent ≡ a.sent ++ b.sent
    none_more e = sym (ap (λ (x : List ℕ). a.sent ++ x) e ∙ append-nil a.sent)

    by_keeping : Storing stored may_leave g h b.sent → Log rs os t rest h p
    by_keeping (None_sent j r e c) =
        with_log
        (subst (Survives s rs os (may_leave h.journal)) (none_more e)
        (subst (λ (x : J). Survives s rs os (may_leave x) a.sent) (sym j) a.survives))
        (λ open_now. subst (λ (x : List ℕ × J × List ℕ × List ℕ). Goes rs os t x.0 x.1 x.2 x.3)
        (λ n. (none_more e n, sym j n, sym r n, sym b.others.batches n)) (a.going (open_before g h c open_now)))
    by_keeping (None_ready o j n m) =
        let k = a.going o in
        with_all (subst (λ (x : J). Only (stored x) (may_leave x)) (sym j) k.only)
        (subst (λ (x : J). Leads (stored x) t.content) (sym j)
        (subst (λ (x : List ℕ). Leads x t.content)
        (ap (λ (x : List ℕ). stored g.journal ++ x) n ∙ append-nil (stored g.journal)) k.all)) m k.batches
    by_keeping (All_stored o e only m) =
        let k = a.going o in
        with_all only (subst (λ (x : List ℕ). Leads x t.content) (sym e) k.all) m k.batches
    by_keeping (Cut_off o may some e c) =
        let k = a.going o in
        let lives : Survives s rs os (may_leave h.journal) a.sent =
        λ text m. elim (may text m) [
          | inl before ↦ a.survives text before
          | inr cut ↦ let f = k.fronts cut.0 cut.1 in
              (f.0, subst (λ (x : List ℕ). Leads x f.0) (sym cut.2) f.1, f.2)
        ] in
        with_log (subst (Survives s rs os (may_leave h.journal)) (none_more e) lives)
        (λ open_now. absurd (let never : true ≡ false = sym c ∙ open_now in cc))

    pub logs_pass : Log rs os t rest h p
    logs_pass = by_keeping b.storing

  -- nothing happened to the log
  pub logs_same : (rs : List (List Field)) (os : List Outcome) (t : State) (unwritten : List ℕ) (g h : Gate J)
      (o : Buffered W) → Untouched g h → waiting h.unstored ≡ waiting g.unstored → Log rs os t unwritten g o →
      Log rs os t unwritten h o
  logs_same rs os t unwritten g h o u w a =
      record {
        run = a.run;
        sent = a.sent;
        device = a.device;
        bytes = a.bytes;
        survives = subst (λ (x : J). Survives s rs os (may_leave x) a.sent) (sym u.journal) a.survives;
        going = λ open_now.
            subst (λ (x : J × Waiting). Goes rs os t a.sent x.0 x.1.ready x.1.batch)
            (λ n. (sym u.journal n, sym w n)) (a.going (ap is_some (sym u.fault) ∙ open_now));
      }

  -- with more records, of which none was taken
  pub logs_longer : (rs more : List (List Field)) (os : List Outcome) (t : State) (unwritten : List ℕ) (g : Gate J)
      (o : Buffered W) → Log rs os t unwritten g o → Log (rs ++ more) os t unwritten g o
  logs_longer rs more os t unwritten g o a =
      record {
        run = run_longer SoundOutcome s t rs more os a.run;
        sent = a.sent;
        device = a.device;
        bytes = a.bytes;
        survives = λ text l. let b = a.survives text l in (b.0, b.1, longer b.0 b.2);
        going = λ still. let k = a.going still in
            record {
              only = k.only;
              fronts = λ front f. let b = k.fronts front f in (b.0, b.1, longer b.0 b.2);
              all = k.all;
              batches = k.batches;
            };
      }
    where
      longer : (c : Content) → UpTo s rs os c a.sent → UpTo s (rs ++ more) os c a.sent
      longer c u = up_on s (rs ++ more) rs more os os [] c a.sent refl (sym (append-nil os)) u

  -- ---- one record more

  module _ (rs : List (List Field)) (os : List Outcome) (t u : State) (r : List Field) (oc : Outcome) (text : List ℕ)
      (accepts : Bool) (g h : Gate J) (o : Buffered W) (size : length os ≡ length rs) (one : SoundOutcome t r oc u)
      (is : answer_of oc ≡ (text, accepts)) (effect : g.unstored.effect ≡ effect_of r) (line : next_line g.unstored ≡ stored_line r)
      (a : Log rs os t [] g o) {jn : journal.Ghosts J} (e : Concludes jn g accepts h) where
    run_now : SoundOutcomes s (rs ++ r ∷ []) (os ++ oc ∷ []) u
    run_now = run_more SoundOutcome s t u rs r os oc size a.run one

    texts_now : texts (os ++ oc ∷ []) ≡ (a.sent ++ pending o) ++ text
    texts_now =
        flat_map-append outcome_text os (oc ∷ [])
        ∙ (λ i. (a.bytes ∙ append-nil (a.sent ++ pending o)) i ++ (append-nil (outcome_text oc) ∙ ap (λ (x : Answer). x.0) is) i)

    up_next : (c : Content) → UpTo s rs os c a.sent → UpTo s (rs ++ r ∷ []) (os ++ oc ∷ []) c a.sent
    up_next c = up_on s (rs ++ r ∷ []) rs (r ∷ []) (os ++ oc ∷ []) os (oc ∷ []) c a.sent refl refl

    up_last : UpTo s (rs ++ r ∷ []) (os ++ oc ∷ []) u.content a.sent
    up_last =
        up_to_all s u (rs ++ r ∷ []) (os ++ oc ∷ []) a.sent (pending o ++ text) run_now
        (texts_now ∙ append_assoc a.sent (pending o) text)

    waits_as : waiting h.unstored ≡ answered r (is_ok oc) (waiting g.unstored)
    waits_as =
        e.concluded.waits
        ∙ (λ i. if (sym is i).1 then concluded (effect i) (line i) (waiting g.unstored) else waiting g.unstored)

    goes_now : is_closed h ≡ false → Goes (rs ++ r ∷ []) (os ++ oc ∷ []) u a.sent h.journal (ready h) (batch h)
    goes_now open_now =
        let k = a.going (ap is_some (sym e.untouched.fault) ∙ open_now) in
        let f = follows_outcome (stored g.journal) (waiting g.unstored) t u r oc (k.all, k.batches) one in
        let now : Follows (stored h.journal) u (waiting h.unstored) =
        subst (λ (x : J × Waiting). Follows (stored x.0) u x.1) (λ n. (sym e.untouched.journal n, sym waits_as n)) f in
        record {
          only = subst (λ (x : J). Only (stored x) (may_leave x)) (sym e.untouched.journal) k.only;
          fronts = λ front is_front. elim (e.concluded.fronts front is_front) [
            | inl before ↦ let b = k.fronts front before in
                (b.0, subst (λ (x : J). Leads (stored x ++ front) b.0) (sym e.untouched.journal) b.1, up_next b.0 b.2)
            | inr whole ↦ (u.content, subst (λ (x : List ℕ). Leads (stored h.journal ++ x) u.content) (sym whole) now.0, up_last)
          ];
          all = now.0;
          batches = now.1;
        }

    pub logs_conclude : Log (rs ++ r ∷ []) (os ++ oc ∷ []) u text h o
    logs_conclude =
        record {
          run = run_now;
          sent = a.sent;
          device = a.device;
          bytes = texts_now;
          survives = λ left m.
              let b = a.survives left (subst (λ (x : J). may_leave x left) e.untouched.journal m) in
              (b.0, b.1, up_next b.0 b.2);
          going = goes_now;
        }

-- ---- when the log is replaced

module _ {J W : Type 0} (j : journal.Ghosts J) (contents : W → Known) (base : Known) (s : State) where
  -- the records of the content are stored in the place of the log
  pub logs_compact : (rs : List (List Field)) (os : List Outcome) (t : State) (records : List ℕ) (g h : Gate J)
      (o : Buffered W) → Logs j.stored j.may_leave contents base s rs os t [] g o → IsContent t.content → t.batch ≡ None →
      records ≡ concat (dump_lines t.content) → Compacts j g records h → Logs j.stored j.may_leave contents base s rs os t [] h o
  logs_compact rs os t records g h o a sound none is b =
      record {
        run = a.run;
        sent = a.sent;
        device = a.device;
        bytes = a.bytes;
        survives = λ text left. elim (b.cut text left) [
          | inl before ↦ a.survives text before
          | inr new ↦ (t.content, subst (λ (x : List ℕ). Leads x t.content) (sym new.0) (leads_now new.1), up_now)
        ];
        going = λ still. let c = b.going still in by_replacement c.0 c.1;
      }
    where
      leads_now : is_closed g ≡ false → Leads records t.content
      leads_now going_on =
          subst (λ (x : List ℕ). Leads x t.content) (sym is)
          (let all = (a.going going_on).all in dump_leads all.records t.content all.accepted sound)

      up_now : UpTo s rs os t.content a.sent
      up_now = up_to_all s t rs os a.sent (pending o) a.run (a.bytes ∙ append-nil (a.sent ++ pending o))

      by_replacement : is_closed g ≡ false → Replacement j g records h →
          Going j.stored j.may_leave contents s rs os t a.sent h.journal (ready h) (batch h)
      by_replacement going_on (Replaced no_batch same only waits) =
          let k = a.going going_on in
          fresh j.stored j.may_leave contents base s rs os t a.sent h.journal (ready h) (batch h) (only k.only)
          (subst (λ (x : List ℕ). Leads x t.content) (sym same) (leads_now going_on))
          (ap (λ (w : Waiting). w.ready) waits)
          (subst (λ (b : Option (List Change)). HoldsBatch t.content b (batch h)) (sym none)
          (ap (λ (w : Waiting). w.batch) waits)) up_now
      by_replacement going_on (Left_as_it_was why same only waits) =
          let k = a.going going_on in
          subst (λ (w : Waiting). Going j.stored j.may_leave contents s rs os t a.sent h.journal w.ready w.batch) (sym waits)
          (record {
            only = only k.only;
            fronts = λ front f. subst (λ (x : List ℕ). (c : Content) × Leads (x ++ front) c × UpTo s rs os c a.sent)
                (sym same) (k.fronts front f);
            all = subst (λ (x : List ℕ). Leads (x ++ ready g) t.content) (sym same) k.all;
            batches = k.batches;
          })
