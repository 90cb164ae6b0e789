-- The records of the register are stored, or may be.
use Rattle.olr_run.proofs.Common.{◌∙◌, sym, subst, AreRecordsOf, Registered, Given, ◌≡◌, ◌⊎◌, ℕ, List, inl, inr, closed}
use Rattle.olr_run.proofs.Common.{AreReplacement}
use Rattle.olr_run.proofs.starts.put_records.Goals as goal

records_of_replacement : (r : Registered) (text : List ℕ) → AreReplacement r (Given text) → AreRecordsOf r text
records_of_replacement r text a c represents = (a (closed c) represents).1

-- what a log may leave once it is to be replaced
records_may_be : (before later : List ℕ → Type 0) (r : Registered) (given text : List ℕ) → given ≡ text →
    AreReplacement r (Given text) → ((t : List ℕ) → later t → before t ⊎ (t ≡ given)) → (t : List ℕ) → later t →
    before t ⊎ AreRecordsOf r t
records_may_be before later r given text same are cut t left = elim (cut t left) [
  | inl old ↦ inl old
  | inr new ↦ inr (subst (AreRecordsOf r) (sym (new ∙ same)) (records_of_replacement r text are))
]

pub returns-in-Ok-replace-clause-stored : goal.returns-in-Ok-replace-clause-stored
returns-in-Ok-replace-clause-stored g c = λ is.
    let stored = rw is at c.in-Ok-replace.ensures.stored in
    subst (AreRecordsOf c.args.register.now) (sym (stored ∙ c.as_slice-2.ensures.value))
    (records_of_replacement c.args.register.now c.in-Ok.text.items c.in-Ok.ensures.records)

pub returns-in-Ok-replace-clause-cut : goal.returns-in-Ok-replace-clause-cut
returns-in-Ok-replace-clause-cut g c =
    records_may_be _ _ c.args.register.now c.as_slice-2.result.now c.in-Ok.text.items c.as_slice-2.ensures.value c.in-Ok.ensures.records c.replace.ensures.cut

pub returns-clause-cut : goal.returns-clause-cut
returns-clause-cut g c =
    records_may_be _ _ c.args.register.now c.as_slice-2.result.now c.in-Ok.text.items c.as_slice-2.ensures.value c.in-Ok.ensures.records c.replace.ensures.cut
