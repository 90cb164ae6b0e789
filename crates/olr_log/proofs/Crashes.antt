-- What a crash leaves of a log while it is changed.
use Rattle.olr_log.proofs.Common.{◌≡◌, ◌⊎◌, inl, inr, ℕ, true, false, List, Option, None, Some, sym, ◌∙◌, ap, subst, refl}
use Rattle.olr_log.proofs.Common.{Follows, Only, Ghosts, text_of, stored_of, LeavesText, OnlyReads, Stands, stored_in}
use Rattle.olr_log.proofs.Common.{is_broken_in, State, Foreign, Opened, Ready, Broken}
use Rattle.olr_log.specs.Outcomes.{MayLeave}
use Rattle.olr_log.specs.declared.log_file.LogFile.{LogFile}
use Rattle.olr_log.specs.declared.folder.Folder as folder
use Rattle.olr_log.proofs.NativeTexts.{text_is, foreign_text}

module _ {D : Type 0} (d : Ghosts D) where
  abbrev pub Leaves : D → List ℕ → Type 0
  Leaves = LeavesText d.is_clean d.may_leave

  -- what is known of each file that follows, by a step, from one that was written
  pub leaves_next : (step : List ℕ → List ℕ → Type 0) (P : List ℕ → Type 0) (before after : D) → Only (d.seen before) (d.may_leave before)
      → Follows step (d.may_leave before) (d.may_leave after) → ((d.is_clean after ≡ true) → (c : List ℕ) → step (d.seen before) c → P (text_of c))
      → (text : List ℕ) → Leaves after text → P text
  leaves_next step P before after durable crash known text leaves =
      let from = crash leaves.file leaves.left in
      subst P leaves.is (known leaves.clean leaves.file (subst (λ (x : List ℕ). step x leaves.file) (durable from.0 from.1) from.2))

  -- the text with which the next run begins is what a log stores
  pub text_is_stored : (disk : D) (state : State) → Stands d disk state → is_broken_in state ≡ false → d.is_clean disk ≡ true → text_of (d.seen disk) ≡ stored_in state (d.seen disk)
  text_is_stored disk (Foreign len) has alive clean = foreign_text (d.seen disk) (has.is clean)
  text_is_stored disk (Opened n last len) has alive clean = text_is n (d.seen disk) (has.0.is clean).text
  text_is_stored disk (Ready n len) has alive clean = text_is n (d.seen disk) (has.0.is clean).text
  text_is_stored disk Broken has alive clean = absurd (cc alive)

  all_written : (disk : D) (state : State) → Stands d disk state → is_broken_in state ≡ false → Only (d.seen disk) (d.may_leave disk)
  all_written disk (Foreign len) has alive = has.durable
  all_written disk (Opened n last len) has alive = has.0.durable
  all_written disk (Ready n len) has alive = has.0.durable
  all_written disk Broken has alive = absurd (cc alive)

  -- and a crash leaves no other
  pub leaves_stored : (disk : D) (state : State) → Stands d disk state → is_broken_in state ≡ false → Only (stored_in state (d.seen disk)) (Leaves disk)
  leaves_stored disk state stands alive text leaves =
      sym leaves.is ∙ ap text_of (all_written disk state stands alive leaves.file leaves.left) ∙ text_is_stored disk state stands alive leaves.clean

  module _ (may_lead : ℕ → Type 0) (disk : D) (rival : Option D) where
    -- the name leads to the file that is at hand
    pub led_here : ((n : ℕ) → may_lead n → n ≡ d.key_of disk) → rival ≡ None → (text : List ℕ) → MayLeave d may_lead disk rival text → Leaves disk text
    unfolding MayLeave
    led_here led alone text (inl here) = here.1
    led_here led alone text (inr (inl beside)) = let never : Some beside.0 ≡ None = sym beside.1 ∙ alone in absurd (cc never)
    led_here led alone text (inr (inr elsewhere)) = absurd (elsewhere.2 (led elsewhere.0 elsewhere.1))

    pub only_stored : (state : State) → Stands d disk state → is_broken_in state ≡ false → ((n : ℕ) → may_lead n → n ≡ d.key_of disk) → rival ≡ None
        → Only (stored_in state (d.seen disk)) (MayLeave d may_lead disk rival)
    only_stored state stands alive led alone text left = leaves_stored disk state stands alive text (led_here led alone text left)

    -- where the name leads nowhere new, a crash leaves nothing new
    pub led_less : (before : ℕ → Type 0) → ((n : ℕ) → may_lead n → before n) → (text : List ℕ) → MayLeave d may_lead disk rival text → MayLeave d before disk rival text
    unfolding MayLeave
    led_less before less text (inl here) = inl (less (d.key_of disk) here.0, here.1)
    led_less before less text (inr (inl beside)) = inr (inl (beside.0, beside.1, less (d.key_of beside.0) beside.2, beside.3))
    led_less before less text (inr (inr elsewhere)) = inr (inr (elsewhere.0, less elsewhere.0 elsewhere.1, elsewhere.2, elsewhere.3))

    -- where it may lead to a new file, a crash leaves what it did, or the text of that file
    pub led_either : (before : ℕ → Type 0) (other : D) → ((n : ℕ) → before n → n ≡ d.key_of disk) → ((n : ℕ) × before n)
        → ((n : ℕ) → may_lead n → before n ⊎ (n ≡ d.key_of other)) → (text : List ℕ)
        → MayLeave d may_lead disk (Some other) text → MayLeave d before disk rival text ⊎ Leaves other text
    unfolding MayLeave
    led_either before other led some either text (inl here) = inl (inl (subst before (led some.0 some.1) some.1, here.1))
    led_either before other led some either text (inr (inl beside)) = let is = beside.1 in let same : beside.0 ≡ other = cc is in inr (subst (λ (x : D). Leaves x text) same beside.3)
    led_either before other led some either text (inr (inr elsewhere)) = elim (either elsewhere.0 elsewhere.1) [
      | inl was ↦ absurd (elsewhere.2 (led elsewhere.0 was))
      | inr new ↦ absurd (elsewhere.3 other refl new)
    ]

  -- what only reads leave, a crash left before
  pub led_read : (may_lead : ℕ → Type 0) (old new : D) (rival : Option D) → OnlyReads d old new → (text : List ℕ) → MayLeave d may_lead new rival text → MayLeave d may_lead old rival text
  unfolding MayLeave
  led_read may_lead old new rival reads text (inl here) =
      let was = here.1 in
      inl (subst may_lead reads.key here.0, record { clean = reads.clean was.clean; file = was.file; left = reads.less was.file was.left; is = was.is })
  led_read may_lead old new rival reads text (inr (inl beside)) = inr (inl beside)
  led_read may_lead old new rival reads text (inr (inr elsewhere)) = inr (inr (elsewhere.0, elsewhere.1, λ is. elsewhere.2 (is ∙ sym reads.key), elsewhere.3))

module _ {D F : Type 0} {d : Ghosts D} {f : folder.Ghosts F D} (log : LogFile D F d f) where
  -- what is known of a log by its state
  pub stands_as : (state : State) → log.state ≡ state → Stands d log.disk state
  stands_as state is = subst (λ (s : State). Stands d log.disk s) is log.stands

  -- a crash leaves its file, or the one that has become of it
  pub file_leaves : (now : D) → d.key_of now ≡ d.key_of log.disk → is_broken_in log.state ≡ false → (text : List ℕ) → MayLeave d (f.may_lead log.folder) now log.rival text → Leaves d now text
  file_leaves now key alive = led_here d (f.may_lead log.folder) now log.rival (λ n leads. log.led alive n leads ∙ sym key) (log.alone alive)

  -- where that has the text that is stored, the next run begins with it
  pub left_stored : (now : D) (state : State) → d.key_of now ≡ d.key_of log.disk → log.state ≡ state → is_broken_in state ≡ false →
      Only (stored_in state (d.seen log.disk)) (Leaves d now) → (text : List ℕ) →
      MayLeave d (f.may_lead log.folder) now log.rival text → text ≡ stored_of log
  left_stored now state key is alive known text left =
      known text (file_leaves now key (ap is_broken_in is ∙ alive) text left)
      ∙ sym (ap (λ (s : State). stored_in s (d.seen log.disk)) is)
