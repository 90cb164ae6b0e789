-- The table of labels and the list of the slots with labels, as either changes.
use Rattle.olr_search.proofs.Common.{Contains-append_cases, Contains-append_right, Contains-append_left, get_or_read_under, length}
use Rattle.olr_search.proofs.Common.{get_or-set_other, get_or-set_same, Contains-here, AreAllReached, Contains-one, get_or_past, ℕ}
use Rattle.olr_search.proofs.Common.{UNREACHED, NotesOnce, LowLabels, queue_len, Contains, cases_eq, label_in, get_or, Queued, ◌≡◌}
use Rattle.olr_search.proofs.Common.{subst, arith, List, ◌++◌, ◌≢◌, ◌<◌, ◌≤◌, ◌∷◌, sym, ◌∙◌, inl, inr, set, ◌⊎◌, [], ap}
use Rattle.olr_search.specs.declared.queue.Queue.{Queue}

-- a label that is read from the table, of length n
pub read_label : (table : List ℕ) (p n x : ℕ) → x ≡ get_or table p x → p < n → n ≡ length table → x ≡ label_in table p
read_label table p n x is lt long = get_or_read_under table p n x UNREACHED is lt long

-- a longer list has the slots of the shorter one
pub noted_more : (table : List ℕ) (old new : List ℕ) (label : ℕ) (r : ℕ) → NotesOnce old new label r →
    AreAllReached table old → AreAllReached table new
noted_more table old new label r (inl h) noted p none =
    noted p (λ x c. none x (subst (λ (xs : List ℕ). Contains xs x) (sym h.0) c))
noted_more table old new label r (inr h) noted p none =
    noted p (λ x c. none x (subst (λ (xs : List ℕ). Contains xs x) (sym h.0)
    (Contains-append_left old (r ∷ []) x c)))

not_there : (table : List ℕ) (old new : List ℕ) (r : ℕ) (label p : ℕ) → NotesOnce old new label r →
    ((x : ℕ) → Contains new x → x ≢ p) → p ≡ r → label ≡ UNREACHED → ⊥
not_there table old new r label p (inl h) none is no_label = absurd (omega arith)
not_there table old new r label p (inr h) none is no_label =
    none r (subst (λ (xs : List ℕ). Contains xs r) (sym h.0) (Contains-append_right old (r ∷ []) r (Contains-here r [])))
    (sym is)

-- a label is written in a slot of the list
pub noted_put : (table : List ℕ) (old new : List ℕ) (r : ℕ) (d label : ℕ) → label ≡ label_in table r →
    NotesOnce old new label r → AreAllReached table old → AreAllReached (set table r d) new
noted_put table old new r d label is_label once noted p none =
    let was : label_in table p ≡ UNREACHED = noted_more table old new label r once noted p none in
    elim (cases_eq p r) [
      | inr ne ↦ get_or-set_other table r p d UNREACHED ne ∙ was
      | inl is ↦ absurd (not_there table old new r label p once none is (is_label ∙ ap (label_in table) (sym is) ∙ was))
    ]

-- one slot less, whose label is removed
noted_without : (table : List ℕ) (front : List ℕ) (r : ℕ) (p : ℕ) → AreAllReached table (front ++ r ∷ []) →
    p ≢ r → ((x : ℕ) → Contains front x → x ≢ p) → label_in table p ≡ UNREACHED
noted_without table front r p noted ne none = noted p (λ x c same. elim (Contains-append_cases front (r ∷ []) x c) [
  | inl h ↦ none x h same
  | inr h ↦ ne (sym same ∙ Contains-one r x h)
])

pub noted_less : (table : List ℕ) (front : List ℕ) (r : ℕ) → r < length table →
    AreAllReached table (front ++ r ∷ []) → AreAllReached (set table r UNREACHED) front
noted_less table front r lt noted p none = elim (cases_eq p r) [
  | inl is ↦ ap (λ (k : ℕ). get_or (set table r UNREACHED) k UNREACHED) is
      ∙ get_or-set_same table r UNREACHED UNREACHED lt
  | inr ne ↦ get_or-set_other table r p UNREACHED UNREACHED ne ∙ noted_without table front r p noted ne none
]

pub noted_past : (table : List ℕ) (front : List ℕ) (r : ℕ) → length table ≤ r →
    AreAllReached table (front ++ r ∷ []) → AreAllReached table front
noted_past table front r past noted p none = elim (cases_eq p r) [
  | inl is ↦ ap (label_in table) is ∙ get_or_past table r UNREACHED past
  | inr ne ↦ noted_without table front r p noted ne none
]

-- ---- what is queued

pub none_queued : (q : Queue) → queue_len q ≡ 0 → (d p : ℕ) → ¬ Queued q d p
none_queued q none d p w = omega (arith, w.there.1, q.heap.data.ok.0)

-- a lesser label is written in slot r, which is queued at that length
pub low_put : (table : List ℕ) (old new : Queue) (r d : ℕ) → r < length table → d < label_in table r →
    ((e p : ℕ) → Queued new e p → Queued old e p ⊎ ((e ≡ d) × (p ≡ r))) → LowLabels table old →
    LowLabels (set table r d) new
low_put table old new r d lt less added low e p w =
    grind (arith, cases_eq p r, added e p w, low e p, get_or-set_same, get_or-set_other)
