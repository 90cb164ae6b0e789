-- A run from a log in a file, from the contracts of its parts.
use Rattle.olr_run.proofs.Common.{Outcome, Field, Known, Records, RunFault, Registered, Represents, is_ok, EndedOn, ◌≡◌, ◌∙◌}
use Rattle.olr_run.proofs.Common.{◌⊎◌, ℕ, Bool, true, false, List, inl, inr, refl, sym, subst, OnOk, Content, IsContent, State}
use Rattle.olr_run.proofs.Common.{concat, dump_lines, Keeps-refl, AreRecordsOf, Begins, BeginsWith, Unbegun, closed}
use Rattle.olr_run.proofs.Common.{Leads, Survives, UpTo, Lasts, LastsWhole, LeftAfter, HasContentOf, IsContentOf}
use Rattle.olr_run.proofs.Common.{records_of, written, Only, Buffered, Status, Gate}
use Rattle.std.specs.Prelude.{Result, Ok, Err, IsTrue}
use Rattle.olr_log.specs.Logs.{stored_of, left_of, is_native_of, is_clean}
use Rattle.olr_log.specs.declared.log_file.LogFile.{LogFile}
use Rattle.sqlite_disk.specs.declared.Disk as disk
use Rattle.olr_log.specs.declared.folder.Folder as folder
use Rattle.olr_run.proofs.Dumped.{dump_leads}
use Rattle.olr_run.proofs.LogRecords.{is_content, same_content}
use Rattle.olr_run.proofs.Running.{represented}
use Rattle.olr_run.proofs.Sending.{Then, faulted_sent, ran_sent}

pub on_true : {A E : Type 0} (r : Result A E) (P : Type 0) → OnOk r P → is_ok r ≡ true → P
on_true (Ok a) P h e = h
on_true (Err e) P h is = absurd (let never = is in cc)

module _ {D F : Type 0} {d : disk.Ghosts D} {f : folder.Ghosts F D} where
  -- ---- the start

  pub begins_from : (log read start : LogFile D F d f) (register : Registered) → IsContent register.state.content →
      is_native_of read ≡ is_native_of log → stored_of read ≡ stored_of log → ((t : List ℕ) → left_of read t → left_of log t)
      → (is_clean read ≡ true → HasContentOf (stored_of log) register)
      → (is_native_of read ≡ true → is_clean start ≡ true → (stored_of start ≡ stored_of read) ⊎ AreRecordsOf register (stored_of start))
      → (is_native_of read ≡ false → AreRecordsOf register (stored_of start))
      → (Only (stored_of read) (left_of read) → Only (stored_of start) (left_of start)) → Begins log read start register
  begins_from log read start register sound kind same less content stored compacted durable =
      record {
        same = same;
        less = less;
        content = content;
        leads = by_kind (is_native_of log) kind;
        only = λ before. durable (λ t left. before t (less t left) ∙ sym same);
      }
    where
      rewritten : (c : Content) → Represents register.state (closed c) → (IsContent c → Leads (concat (dump_lines c)) c)
          → AreRecordsOf register (stored_of start) → Leads (stored_of start) c
      rewritten c represents led records =
          subst (λ (x : List ℕ). Leads x c) (sym (records c represents)) (led (represented register (closed c) sound represents))

      same_register : is_clean read ≡ true → (c : Content) → IsContentOf (stored_of log) c → Represents register.state (closed c)
      same_register clean c l =
          let there = content clean in
          subst (λ (x : Content). Represents register.state (closed x)) (same_content (stored_of log) there.0 c there.1 l) there.2

      by_kind : (b : Bool) → is_native_of read ≡ b → is_clean read ≡ true → is_clean start ≡ true → (c : Content) →
          BeginsWith b (stored_of log) c → Represents register.state (closed c) × Leads (stored_of start) c
      by_kind true is clean now c l =
          let represents = same_register clean c (is_content (stored_of log) c l) in (
            represents,
            elim (stored is now) [
              | inl still ↦ subst (λ (x : List ℕ). Leads x c) (sym (still ∙ same)) l
              | inr records ↦ rewritten c represents (dump_leads l.records c l.accepted) records
            ],
          )
      by_kind false is clean now c l =
          let represents = same_register clean c l in
          (represents, rewritten c represents (dump_leads (records_of (stored_of log)) c l) (compacted is))

  -- a log that may have been replaced before the start failed
  pub unbegun_after : (log read last : LogFile D F d f) (rejected oversized : Bool) (register : Registered) → stored_of read ≡ stored_of log →
      ((t : List ℕ) → left_of read t → left_of log t)
      → (is_clean read ≡ true → HasContentOf (stored_of log) register)
      → ((t : List ℕ) → left_of last t → left_of read t ⊎ (t ≡ stored_of read) ⊎ AreRecordsOf register t)
      → (rejected ≡ false) × (oversized ≡ false) → Unbegun log last rejected oversized
  unbegun_after log read last rejected oversized register same less content cut fails = (
    read,
    same,
    λ t left. elim (cut t left) [
      | inl before ↦ inl (less t before)
      | inr new ↦ inr (elim new [
        | inl stored ↦ inl (stored ∙ same)
        | inr records ↦ inr (λ clean. let k = content clean in (k.0, k.1, records k.0 k.2))
      ])
    ],
    λ is. absurd (let never : true ≡ false = sym is ∙ fails.0 in cc),
    λ is. absurd (let never : true ≡ false = sym is ∙ fails.1 in cc),
  )

  -- ---- the end

  module _ {W : Type 0} (contents : W → Known) (start last : LogFile D F d f) (o p : Buffered W)
      (g : Gate (LogFile D F d f)) (r : Result Status RunFault) (after : LeftAfter g r last) where
    -- what is left of the log at the end was left before, or it is all that is stored, if the run was not cut off
    closed_survives : (s : State) (rs : List (List Field)) (os : List Outcome) (sent : List ℕ) →
        Survives s rs os (left_of g.journal) sent
        → (IsTrue (is_ok r) → (c : Content) × Leads (stored_of g.journal) c × UpTo s rs os c sent)
        → Survives s rs os (left_of last) sent
    closed_survives s rs os sent before whole text left = elim (after text left) [
      | inl still ↦ before text still
      | inr all ↦ subst (λ (x : List ℕ). (c : Content) × Leads x c × UpTo s rs os c sent) (sym all.1) (whole all.0)
    ]

    whole_closed : Then (LastsWhole stored_of left_of contents start o g p) (Lasts stored_of left_of contents start o (left_of last) p)
    whole_closed s rs os t a =
        (a.0, λ k. let b = a.1 k in (b.0, b.1, closed_survives s rs os b.0 b.2 (λ _. (t.content, b.4, b.3))))

    cut_closed : (e : RunFault) → r ≡ Err e → Then (Lasts stored_of left_of contents start o (left_of g.journal) p) (Lasts stored_of left_of contents start o (left_of last) p)
    cut_closed e is s rs os t a = (
      a.0,
      λ k. let b = a.1 k in
          (b.0, b.1, closed_survives s rs os b.0 b.2 (λ ok. absurd (let never = rw is at ok in cc))),
    )

  pub closed_run : {W : Type 0} (contents : W → Known) (start last : LogFile D F d f) (o p : Buffered W)
      (g : Gate (LogFile D F d f)) (r : Result Status RunFault) → LeftAfter g r last →
      (stop : Bool) (old new : Registered) (records : Records) →
      EndedOn (LastsWhole stored_of left_of contents start o g p) (Lasts stored_of left_of contents start o (left_of g.journal) p) stop old
      records (written contents o) new (written contents p) r
      → EndedOn (Lasts stored_of left_of contents start o (left_of last) p) (Lasts stored_of left_of contents start o (left_of last) p) stop old records (written contents o)
      new (written contents p) r
  closed_run contents start last o p g (Ok end) after stop old new records run =
      ran_sent _ _ (whole_closed contents start last o p g (Ok end) after) stop old (written contents o) new
      (written contents p) (written contents p) (Keeps-refl (written contents p)) records end run
  closed_run contents start last o p g (Err e) after stop old new records run = (
    faulted_sent _ _ (cut_closed contents start last o p g (Err e) after e refl) stop old (written contents o) new
        (written contents p) (written contents p) (Keeps-refl (written contents p)) records e run.0,
    run.1,
  )
