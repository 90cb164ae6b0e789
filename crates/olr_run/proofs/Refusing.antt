-- A log that is rejected leads to no content.
use Rattle.olr_run.proofs.Common.{Field, records_of, ◌≡◌, ◌∙◌, ◌≤◌, ℕ, Bool, true, false, List, length, Option, Some, None, Ok}
use Rattle.olr_run.proofs.Common.{Err, refl, sym, subst, arith, eqb-true, ◌==◌, nat_le, nat_tests, Change, Command, Content}
use Rattle.olr_run.proofs.Common.{Make, Begin, Commit, Memory, State, Fault, after, full, step, with_change, with_held, ends}
use Rattle.olr_run.proofs.Common.{IsChange, closed, InPlace, LeadsNowhere, Loads, Refuses}
use Rattle.olr_run.proofs.Common.{RefusesRecord, Loader, left_of, HasNone, TakesOne, InMemory}
use Rattle.olr_register.specs.BatchChanges.{ByContent, Lacks, MayReport}
use Rattle.olr_register.specs.Built as built
use Rattle.olr_run.proofs.Restoring.{Loading, holding}

-- ---- one command

not_made : (c d : Content) (x : Change) (f : Fault) → MayReport (with_change c x) f → (f ≡ Memory → ⊥) →
    with_change c x ≡ Ok d → ⊥
not_made c d x f (ByContent e) other ok = let never : Err f ≡ Ok d = sym e ∙ ok in absurd cc
not_made c d x f (Lacks is first) other ok = other is

-- a change that is accepted is made
accepted : (c : Content) (b : Option (List Change)) (x : Change) (t : State) →
    step (record { content = c; batch = b }) (Make x) ≡ Ok t → (d : Content) × (with_change (with_held c b) x ≡ Ok d)
accepted c None x t e = ends (λ _. (d : Content) × (with_change c x ≡ Ok d)) (closed c) t (Make x) e (λ d ok. (d, ok))
accepted c (Some xs) x t e =
    ends (λ _. (d : Content) × (with_change (after c xs) x ≡ Ok d)) (holding c xs) t (Make x) e (λ d ok room. (d, ok))

pub change_never : (l : Loader) (c : Command) (f : Fault) → IsChange c → built.Refuses l.building c f → (f ≡ Memory → ⊥) →
    Refuses l c
change_never l c f change refused other s a t ok =
    let one = accepted s.content s.batch change.0 t (subst (λ (k : Command). step s k ≡ Ok t) change.1 ok) in
    not_made l.building one.0 change.0 f (refused change.0 change.1) other
    (subst (λ (d : Content). with_change d change.0 ≡ Ok one.0) (sym a.content) one.1)

-- in a full batch, in an open one, and in none
full_batch : (l : Loader) (x : Change) → l.in_batch ≡ true → full ≤ l.count → Refuses l (Make x)
full_batch l x inside most s a t ok = by_batches s.content s.batch a.place ok
  where
    by_batches : (c : Content) (b : Option (List Change)) → InPlace l b → step (record { content = c; batch = b }) (Make x) ≡ Ok t → ⊥
    by_batches c None h e = absurd (let never : true ≡ false = sym inside ∙ h in cc)
    by_batches c (Some ys) h e =
        let over : nat_le full (length ys) ≡ true = (let is = h.1 in grind (arith, nat_tests, is, most)) in
        absurd (let never = rw over at e in cc)

pub change_full : (l : Loader) (c : Command) → IsChange c → l.in_batch ≡ true → full ≤ l.count → Refuses l c
change_full l c change inside most = subst (Refuses l) (sym change.1) (full_batch l change.0 inside most)

pub begin_inside : (l : Loader) → l.in_batch ≡ true → Refuses l Begin
begin_inside l inside s a t ok = by_batches s.content s.batch a.place ok
  where
    by_batches : (c : Content) (b : Option (List Change)) → InPlace l b → step (record { content = c; batch = b }) Begin ≡ Ok t → ⊥
    by_batches c None h e = absurd (let never : true ≡ false = sym inside ∙ h in cc)
    by_batches c (Some ys) h e = absurd cc

pub commit_outside : (l : Loader) (n : ℕ) → l.in_batch ≡ false → Refuses l (Commit n)
commit_outside l n outside s a t ok = by_batches s.content s.batch a.place ok
  where
    by_batches : (c : Content) (b : Option (List Change)) → InPlace l b → step (record { content = c; batch = b }) (Commit n) ≡ Ok t → ⊥
    by_batches c None h e = absurd cc
    by_batches c (Some ys) h e = absurd (let never : true ≡ false = sym h.0 ∙ outside in cc)

pub commit_differs : (l : Loader) (n : ℕ) → l.in_batch ≡ true → (n ≡ l.count → ⊥) → Refuses l (Commit n)
commit_differs l n inside other s a t ok = by_batches s.content s.batch a.place ok
  where
    by_count : (ys : List Change) (c : Content) (b : Bool) → (length ys == n) ≡ b → l.count ≡ length ys →
        step (holding c ys) (Commit n) ≡ Ok t → ⊥
    by_count ys c true f is e = other (sym (is ∙ eqb-true (length ys) n f))
    by_count ys c false f is e = absurd (let never = rw f at e in cc)

    by_batches : (c : Content) (b : Option (List Change)) → InPlace l b → step (record { content = c; batch = b }) (Commit n) ≡ Ok t → ⊥
    by_batches c None h e = absurd (let never : true ≡ false = sym inside ∙ h in cc)
    by_batches c (Some ys) h e = by_count ys c (length ys == n) refl h.1 e

-- ---- the records of a text

-- a record was taken that no state accepts
pub none_leads : (text : List ℕ) (m n : InMemory) (l : Loader) (taken : ℕ) (fields : List Field) → Loading (records_of text) m l taken →
    TakesOne (left_of m) (left_of n) fields → RefusesRecord l fields → LeadsNowhere text
none_leads text m n l taken fields a took refuses c leads =
    let next = took a.rest a.are_left in
    let first = rw next.1 at (a.splits (closed c) leads) in
    refuses first.0 first.1 first.2 a.state a.loads first.3 first.4

-- all were taken, and a batch is open
pub open_leads : (text : List ℕ) (m : InMemory) (l : Loader) (taken : ℕ) → Loading (records_of text) m l taken → HasNone (left_of m) →
    ((s : State) → Loads l s → (c : Content) → s ≡ closed c → ⊥) → LeadsNowhere text
open_leads text m l taken a none refused c leads =
    refused a.state a.loads c (rw (none a.rest a.are_left) at (a.splits (closed c) leads))

pub outside_closed : (l : Loader) → l.in_batch ≡ true → (s : State) → Loads l s → (c : Content) → s ≡ closed c → ⊥
outside_closed l inside s a c is = absurd (let never : true ≡ false = sym inside ∙ subst (λ (u : State). InPlace l u.batch) is a.place in cc)
