-- The end of a run once its answers were sent, or could not be, with what is known of its outcomes from more.
use Rattle.olr_run.proofs.Common.{Field, Keeps, Known, LeadsOn, Outcome, Records, RanOn, FaultedOn, Registered, EndedOn, IfErr}
use Rattle.olr_run.proofs.Common.{RunFault, exit_code, once_sent, OnOk, ◌≡◌, ◌≤◌, ℕ, Bool, List, None, Some, Result}
use Rattle.olr_run.proofs.Common.{Ok, Err, arith, Appends-kept, State, Faulted, Ran, Status}
use Rattle.olr_run.specs.Output as output
use Rattle.olr_input.specs.declared.ends.RunFault.TheVariants as fault

-- what is known of the outcomes gives more
abbrev pub Then : (State → List (List Field) → List Outcome → State → Type 0) →
    (State → List (List Field) → List Outcome → State → Type 0) → Type 0
Then Before After =
    (s : State) (rs : List (List Field)) (os : List Outcome) (t : State) → Before s rs os t → After s rs os t

module _ (Before After : State → List (List Field) → List Outcome → State → Type 0)
    (f : Then Before After) (stop : Bool) (old : Registered) (before : Known) (new : Registered) (mid later : Known) (stored : Keeps mid later) where
  -- nothing more was written
  sent : (Then Now : State → List (List Field) → State → List ℕ → Type 0)
      → ((s : State) (rs : List (List Field)) (t : State) (w : List ℕ) → Then s rs t w → Now s rs t w) → (records : Records)
      → LeadsOn Then old records before new mid → LeadsOn Now old records before new later
  sent Then Now more None h = tt
  sent Then Now more (Some rs) h = λ s represents.
      let r = h s represents in (r.0, r.1, r.2, Appends-kept before mid later r.2 r.3 stored, more s rs r.0 r.2 r.4)

  pub ran_sent : (records : Records) (end : Status) → RanOn Before stop old records before new mid end →
      RanOn After stop old records before new later end
  ran_sent records end h =
      sent (λ s rs t w. Ran Before stop s rs t w end) (λ s rs t w. Ran After stop s rs t w end)
      (λ s rs t w r. record {
        outcomes = r.outcomes;
        each = f s rs r.outcomes t r.each;
        stops = r.stops;
        all = r.all;
        wrote = r.wrote;
        ended = r.ended;
      }) records h

  pub faulted_sent : (records : Records) (e : RunFault) → FaultedOn Before stop old records before new mid e →
      FaultedOn After stop old records before new later e
  faulted_sent records e h =
      sent (λ s rs t w. Faulted Before stop s rs t w e) (λ s rs t w. Faulted After stop s rs t w e)
      (λ s rs t w r. record { outcomes = r.outcomes; each = f s rs r.outcomes t r.each; stops = r.stops; wrote = r.wrote })
      records h

  pub ran_unsent : (records : Records) (end : Status) (e : RunFault) → e ≡ fault.Write →
      RanOn Before stop old records before new mid end → FaultedOn After stop old records before new later e
  ran_unsent records end e write h =
      sent (λ s rs t w. Ran Before stop s rs t w end) (λ s rs t w. Faulted After stop s rs t w e)
      (λ s rs t w r. record {
        outcomes = r.outcomes;
        each = f s rs r.outcomes t r.each;
        stops = r.stops;
        wrote = output.Not_sent write r.wrote;
      }) records h

-- ---- by whether the answers could be sent

module _ (Whole Part WholeSent PartSent : State → List (List Field) → List Outcome → State → Type 0) (stop : Bool)
    (old : Registered) (before : Known) (new : Registered) (mid later : Known) (stored : Keeps mid later) (records : Records)
    {A : Type 0} where
  pub ended_sent : (r : Result Status RunFault) (s : Result A RunFault) → OnOk s (Then Whole WholeSent) → Then Whole PartSent →
      Then Part PartSent → IfErr s (λ e. e ≡ fault.Write) → EndedOn Whole Part stop old records before new mid r →
      EndedOn WholeSent PartSent stop old records before new later (once_sent r s)
  ended_sent (Ok end) (Ok done) whole unsent part write run =
      ran_sent Whole WholeSent whole stop old before new mid later stored records end run
  ended_sent (Ok end) (Err e) whole unsent part write run =
      (ran_unsent Whole PartSent unsent stop old before new mid later stored records end e write run, λ many. absurd cc)
  ended_sent (Err e) s whole unsent part write run =
      (faulted_sent Part PartSent part stop old before new mid later stored records e run.0, run.1)

module _ {A : Type 0} where
  pub held_sent : (P : Type 0) (r : Result Status RunFault) (s : Result A RunFault) → OnOk s P → OnOk (once_sent r s) P
  held_sent P (Ok end) (Ok done) h = h
  held_sent P (Ok end) (Err e) h = tt
  held_sent P (Err e) s h = tt

  pub on_ok : (P : Type 0) (s : Result A RunFault) → P → OnOk s P
  on_ok P (Ok done) h = h
  on_ok P (Err e) h = tt

-- a status of 0 or 1 is that of a run that was not cut off
pub on_low : (P : Type 0) (r : Result Status RunFault) → exit_code r ≤ 1 → OnOk r P → P
on_low P (Ok end) low h = h
on_low P (Err fault.Read) low h = absurd (omega (arith, low))
on_low P (Err fault.Write) low h = absurd (omega (arith, low))
on_low P (Err fault.TooMany) low h = absurd (omega (arith, low))
on_low P (Err fault.Memory) low h = absurd (omega (arith, low))
