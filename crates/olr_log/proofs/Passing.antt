-- What passes a gate, one part after another.
use Rattle.olr_log.proofs.Common.{◌≡◌, ◌∙◌, ◌≤◌, ◌<◌, ◌+◌, ℕ, Bool, true, false, List, [], ◌++◌, length, take, drop, refl}
use Rattle.olr_log.proofs.Common.{sym, ap, subst, Ok, Err, arith, length-drop, Appends-nil, Appends-trans, take-add}
use Rattle.olr_log.proofs.Common.{both_ways, append-nil, append_assoc, take-append-drop, is_closed, Storing, AllOrFront, IfOk}
use Rattle.olr_log.proofs.Common.{IfErr, OnErr, Result, RunFault, MayHaveStored, Known, Buffered, Gate, Write, Appends}
use Rattle.olr_log.specs.Journals.{Only}
use Rattle.olr_input.specs.Buffers.{pending, Sends}
use Rattle.olr_log.specs.Gates.{ready, None_sent, None_ready, All_stored, Cut_off, SameBatch, Passes, PassesSome, compaction}
use Rattle.olr_input.proofs.Writing.{rest_from, rest_is}

still_open : (b c : Bool) → (b ≡ true → c ≡ true) → c ≡ false → b ≡ false
still_open true c h e = absurd (let never : true ≡ false = sym (h refl) ∙ e in cc)
still_open false c h e = refl

module _ {J : Type 0} (stored : J → List ℕ) (may_leave : J → List ℕ → Type 0) where
  storing_trans : (g h i : Gate J) (x y : List ℕ) → Storing stored may_leave g h x → Storing stored may_leave h i y →
      Storing stored may_leave g i (x ++ y)
  storing_trans g h i x y (None_sent j r s c) (None_sent k q t d) =
      None_sent (k ∙ j) (q ∙ r) (λ n. s n ++ t n) (λ closed. d (c closed))
  storing_trans g h i x y (None_sent j r s c) (None_ready o k a b) =
      None_ready (still_open (is_closed g) (is_closed h) c o) (k ∙ j) (sym r ∙ a) b
  storing_trans g h i x y (None_sent j r s c) (All_stored o k only b) =
      All_stored (still_open (is_closed g) (is_closed h) c o) (k ∙ (λ n. stored (j n) ++ r n)) only b
  storing_trans g h i x y (None_sent j r s c) (Cut_off o may some t d) =
      Cut_off (still_open (is_closed g) (is_closed h) c o)
      (subst (λ (a : J). MayHaveStored stored may_leave a (ready g) i.journal) j
      (subst (λ (a : List ℕ). MayHaveStored stored may_leave h.journal a i.journal) r may))
      (λ none. some (r ∙ none)) (λ n. s n ++ t n) d
  storing_trans g h i x y (None_ready o j a b) (None_sent k q t d) = None_ready o (k ∙ j) a (q ∙ b)
  storing_trans g h i x y (None_ready o j a b) (None_ready p k c d) = None_ready o (k ∙ j) a d
  storing_trans g h i x y (None_ready o j a b) (All_stored p k only d) =
      All_stored o (k ∙ (λ n. stored (j n) ++ (b ∙ sym a) n)) only d
  storing_trans g h i x y (None_ready o j a b) (Cut_off p may some t d) = absurd (some b)
  storing_trans g h i x y (All_stored o k only b) (None_sent j q t d) =
      All_stored o (ap stored j ∙ k) (subst (λ (a : J). Only (stored a) (may_leave a)) (sym j) only) (q ∙ b)
  storing_trans g h i x y (All_stored o k only b) (None_ready p j c d) =
      All_stored o (ap stored j ∙ k) (subst (λ (a : J). Only (stored a) (may_leave a)) (sym j) only) d
  storing_trans g h i x y (All_stored o k only b) (All_stored p l also d) =
      All_stored o (l ∙ ap (λ (a : List ℕ). stored h.journal ++ a) b ∙ append-nil (stored h.journal) ∙ k) also d
  storing_trans g h i x y (All_stored o k only b) (Cut_off p may some t d) = absurd (some b)
  storing_trans g h i x y (Cut_off o may some s c) (None_sent j q t d) =
      Cut_off o (subst (λ (a : J). MayHaveStored stored may_leave g.journal (ready g) a) (sym j) may) some
      (λ n. s n ++ t n) (d c)
  storing_trans g h i x y (Cut_off o may some s c) (None_ready p j a b) = absurd (both_ways (is_closed h) p c)
  storing_trans g h i x y (Cut_off o may some s c) (All_stored p k only b) = absurd (both_ways (is_closed h) p c)
  storing_trans g h i x y (Cut_off o may some s c) (Cut_off p may2 some2 t d) = absurd (both_ways (is_closed h) p c)

  same_trans : (g h i : Gate J) → SameBatch g h → SameBatch h i → SameBatch g i
  same_trans g h i a b =
      record { batches = b.batches ∙ a.batches; line = b.line ∙ a.line; effects = b.effects ∙ a.effects }

  -- the first n bytes of a text passed
  pub record Passed {W : Type 0} (contents : W → Known) (g : Gate J) (o : Buffered W) (h : Gate J) (p : Buffered W)
      (text : List ℕ) (n : ℕ) : Type 0 where
    pub within : n ≤ length text
    pub front : Passes stored may_leave contents g o h p (take n text)

module _ {J W : Type 0} {stored : J → List ℕ} {may_leave : J → List ℕ → Type 0} {contents : W → Known} where
  passes_trans : {g h i : Gate J} {o p q : Buffered W} {x y : List ℕ} → Passes stored may_leave contents g o h p x →
      Passes stored may_leave contents h p i q y → Passes stored may_leave contents g o i q (x ++ y)
  passes_trans {g} {h} {i} {o} {p} {q} {x} {y} a b =
      record {
        sent = a.sent ++ b.sent;
        storing = storing_trans stored may_leave g h i a.sent b.sent a.storing b.storing;
        others = same_trans stored may_leave g h i a.others b.others;
        due = b.due ∙ a.due;
        device = Appends-trans (contents o.device) (contents p.device) (contents q.device) a.sent b.sent a.device b.device;
        bytes = sym (append_assoc (pending o) x y) ∙ ap (λ (l : List ℕ). l ++ y) a.bytes
            ∙ append_assoc a.sent (pending p) y ∙ ap (λ (l : List ℕ). a.sent ++ l) b.bytes
            ∙ sym (append_assoc a.sent b.sent (pending q));
      }

  -- bytes are held back
  passes_held : {g : Gate J} {o p : Buffered W} {x : List ℕ} → p.device ≡ o.device → pending p ≡ pending o ++ x →
      Passes stored may_leave contents g o g p x
  passes_held {g} {o} {p} {x} d e =
      record {
        sent = [];
        storing = None_sent refl refl refl (λ c. c);
        others = record { batches = refl; line = refl; effects = refl };
        due = refl;
        device = subst (λ (w : W). Appends (contents o.device) (contents w) []) (sym d) (Appends-nil (contents o.device));
        bytes = sym e;
      }

  pub passes_none : {g : Gate J} {o p : Buffered W} → p.device ≡ o.device → pending p ≡ pending o →
      Passes stored may_leave contents g o g p []
  passes_none {g} {o} d e = passes_held d (e ∙ sym (append-nil (pending o)))

  -- what is held back is sent
  pub passes_sent : {g h : Gate J} {o p : Buffered W} → ((sent : List ℕ) → Storing stored may_leave g h sent) →
      SameBatch g h → compaction h ≡ compaction g → Sends (contents o.device) (pending o) (contents p.device) (pending p)
      → Passes stored may_leave contents g o h p []
  passes_sent {g} {h} {o} keeps same due s =
      record { sent = s.0; storing = keeps s.0; others = same; due = due; device = s.1; bytes = append-nil (pending o) ∙ s.2 }

  -- or can't be
  pub passes_stored : {g h : Gate J} {o : Buffered W} → Storing stored may_leave g h [] → SameBatch g h →
      compaction h ≡ compaction g → Passes stored may_leave contents g o h o []
  passes_stored {g} {h} {o} keeps same due =
      record {
        sent = [];
        storing = keeps;
        others = same;
        due = due;
        device = Appends-nil (contents o.device);
        bytes = append-nil (pending o);
      }

  pub passed_more : {g h i : Gate J} {o p q : Buffered W} {text : List ℕ} {n : ℕ} (k : ℕ) →
      Passed stored may_leave contents g o h p text n → k ≤ length (rest_from text n) →
      Passes stored may_leave contents h p i q (take k (rest_from text n)) →
      Passed stored may_leave contents g o i q text (n + k)
  passed_more {g} {h} {i} {o} {p} {q} {text} {n} k a l b =
      record {
        within = (let f = a.within in grind (arith, rest_is, length-drop));
        front = rw take-add
            (passes_trans a.front
            (subst (λ (r : List ℕ). Passes stored may_leave contents h p i q (take k r)) (rest_is text n) b));
      }

  pub passed_front : {g h i : Gate J} {o p q : Buffered W} {text : List ℕ} {n : ℕ} →
      Passed stored may_leave contents g o h p text n → n < length text → Passes stored may_leave contents h p i q [] →
      AllOrFront (Passes stored may_leave contents g o i q) text (Err Write)
  passed_front {g} {h} {i} {o} {p} {q} {text} {n} a more b = (
    take n text,
    drop n text,
    sym (take-append-drop n text),
    (λ none. let size = length-drop n text in let nothing : length (drop n text) ≡ 0 = ap length none in omega arith),
    subst (λ (t : List ℕ). Passes stored may_leave contents g o i q t) (append-nil (take n text)) (passes_trans a.front b),
    refl,
  )

  -- a second try, after what was held back is sent
  pub some_after : {g h : Gate J} {n p : Buffered W} (o q : Buffered W) (k : ℕ) (text : List ℕ) (r : Result ℕ RunFault) →
      n.device ≡ o.device → pending n ≡ pending o ++ take k text → k ≤ 0 → Passes stored may_leave contents g n h p []
      → q.device ≡ p.device → IfOk r (λ i. i ≤ length text) → IfOk r (λ i. pending q ≡ pending p ++ take i text)
      → OnErr r (pending q ≡ pending p) → IfErr r (λ e. e ≡ Write) → PassesSome stored may_leave contents g o h q text r
  some_after {g} {h} {n} {p} o q k text r d e none sent f bound more nothing fault = by_result r bound more nothing fault
    where
      first : Passes stored may_leave contents g o g n []
      first =
          let zero_is : k ≡ 0 = omega arith in
          passes_none d (e ∙ ap (λ (j : ℕ). pending o ++ take j text) zero_is ∙ append-nil (pending o))

      by_result : (r : Result ℕ RunFault) → IfOk r (λ i. i ≤ length text) → IfOk r (λ i. pending q ≡ pending p ++ take i text) →
          OnErr r (pending q ≡ pending p) → IfErr r (λ e. e ≡ Write) → PassesSome stored may_leave contents g o h q text r
      by_result (Ok i) b m x y = (b, passes_trans first (passes_trans sent (passes_held f m)))
      by_result (Err z) b m x y = (passes_trans first (passes_trans sent (passes_none f x)), y)
