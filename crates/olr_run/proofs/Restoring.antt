-- The records of a log, whose changes are made as they come.
use Rattle.olr_run.proofs.Common.{Represents, Registered, ◌≡◌, ◌∙◌, ◌+◌, ◌<◌, ℕ, true, false, List, [], ◌∷◌, ◌++◌}
use Rattle.olr_run.proofs.Common.{length, Option, Some, None, Ok, refl, sym, ap, subst, arith, length-append, eq-eqb, ◌==◌, Err}
use Rattle.olr_run.proofs.Common.{nat_le, nat_tests, Content, Change, Command, Make, Begin, Commit, State, with_change, after}
use Rattle.olr_run.proofs.Common.{step, full, start_state, next_ok, after_push, Accepted, IsLogged, closed, Changes, IsChange}
use Rattle.olr_run.proofs.Common.{HasContentOf, Loads, Loaded, LoadsRecord, Loader, Field, records_of}
use Rattle.olr_run.proofs.Common.{left_of, HasNone, TakesOne, InMemory, OnOk, IfErr, Result, Refuses, is_rejection}
use Rattle.olr_run.specs.declared.loader.RestoreFault.{RestoreFault}
use Rattle.olr_run.proofs.Accepting.{accepted_next}

-- a state whose batch holds these changes
abbrev pub holding : Content → List Change → State
holding c xs = record { content = c; batch = Some xs }

-- ---- what an accepted command leads to

pub make_closed : (c d : Content) (x : Change) → with_change c x ≡ Ok d → step (closed c) (Make x) ≡ Ok (closed d)
make_closed c d x e = rw e refl

pub make_held : (c : Content) (ys : List Change) (d : Content) (x : Change) → nat_le full (length ys) ≡ false →
    with_change (after c ys) x ≡ Ok d → step (holding c ys) (Make x) ≡ Ok (holding c (ys ++ x ∷ []))
make_held c ys d x f e = rw (f, e) refl

-- ---- the records of a log

-- a change is made, and held by the batch of the log if one is open
module _ (l n : Loader) (x : Change) (in_batch : n.in_batch ≡ l.in_batch)
    (made : with_change l.building x ≡ Ok n.building) where
  made_from : (c : Content) → l.building ≡ c → with_change c x ≡ Ok n.building
  made_from c is = subst (λ (d : Content). with_change d x ≡ Ok n.building) is made

  loads_made : (c : Content) (b : Option (List Change)) → Loads l (record { content = c; batch = b }) →
      (l.in_batch ≡ true → n.count ≡ l.count + 1) → (l.in_batch ≡ true → l.count < full)
      → (t : State) × (step (record { content = c; batch = b }) (Make x) ≡ Ok t) × Loads n t
  loads_made c None a count room = (
    closed n.building,
    make_closed c n.building x (made_from c a.content),
    record { content = refl; place = in_batch ∙ a.place },
  )
  loads_made c (Some ys) a count room =
      let change = made_from (after c ys) a.content in
      let free : nat_le full (length ys) ≡ false = (let less = room a.place.0 in grind (arith, nat_tests, a.place.1)) in
      let more : n.count ≡ length (ys ++ x ∷ []) =
      count a.place.0 ∙ ap (λ (k : ℕ). k + 1) a.place.1 ∙ sym (length-append ys (x ∷ [])) in (
        holding c (ys ++ x ∷ []),
        make_held c ys n.building x free change,
        record {
          content = sym (after_push c ys x ∙ next_ok (after c ys) n.building x change);
          place = (in_batch ∙ a.place.0, more);
        },
      )

-- a change that a command makes
pub loaded_change : (l n : Loader) (c : Command) → IsChange c → Changes l.building c n.building → n.in_batch ≡ l.in_batch →
    (l.in_batch ≡ true → n.count ≡ l.count + 1) → (l.in_batch ≡ true → l.count < full) → Loaded l c n
loaded_change l n c change made in_batch count room s a =
    subst (λ (d : Command). (t : State) × (step s d ≡ Ok t) × Loads n t) (sym change.1)
    (loads_made l n change.0 in_batch (made change.0 change.1) s.content s.batch a count room)

-- a batch of the log begins and ends
pub loads_begun : (l n : Loader) (c : Content) (b : Option (List Change)) → Loads l (record { content = c; batch = b }) →
    n.building ≡ l.building → l.in_batch ≡ false → n.in_batch ≡ true → n.count ≡ 0
    → (t : State) × (step (record { content = c; batch = b }) Begin ≡ Ok t) × Loads n t
loads_begun l n c None a building outside inside count =
    (holding c [], refl, record { content = building ∙ a.content; place = (inside, count) })
loads_begun l n c (Some xs) a building outside inside count =
    absurd (let never : true ≡ false = sym a.place.0 ∙ outside in cc)

pub loads_committed : (l n : Loader) (k : ℕ) (c : Content) (b : Option (List Change)) →
    Loads l (record { content = c; batch = b }) → n.building ≡ l.building → l.in_batch ≡ true → k ≡ l.count
    → n.in_batch ≡ false → (t : State) × (step (record { content = c; batch = b }) (Commit k) ≡ Ok t) × Loads n t
loads_committed l n k c None a building inside count outside =
    absurd (let never : true ≡ false = sym inside ∙ a.place in cc)
loads_committed l n k c (Some xs) a building inside count outside =
    let same : (length xs == k) ≡ true = eq-eqb (length xs) k (sym (count ∙ a.place.1)) in
    (closed (after c xs), rw same refl, record { content = building ∙ a.content; place = outside })

-- the end of the log
pub loads_finished : (l : Loader) (new : Registered) (s : State) → Loads l s → l.in_batch ≡ false →
    new.state ≡ record { content = l.building; batch = None } → (c : Content) × (s ≡ closed c) × Represents new.state (closed c)
loads_finished l new s a outside stored = by_batches s.content s.batch a
  where
    by_batches : (c : Content) (b : Option (List Change)) → Loads l (record { content = c; batch = b })
        → (d : Content) × (record { content = c; batch = b } ≡ closed d) × Represents new.state (closed d)
    by_batches c None h = (c, refl, rw stored (h.content, tt))
    by_batches c (Some xs) h = absurd (let never : true ≡ false = sym h.place.0 ∙ outside in cc)

-- ---- the records of a text

-- of all records those that are left are accepted after those that were taken, which led the loader to a state
pub record Loading (all : List (List Field)) (m : InMemory) (l : Loader) (taken : ℕ) : Type 0 where
  pub rest : List (List Field)
  pub sum : length all ≡ taken + length rest
  pub are_left : left_of m rest
  pub state : State
  pub loads : Loads l state
  pub joins : (t : State) → Accepted state rest t → Accepted start_state all t
  pub splits : (t : State) → Accepted start_state all t → Accepted state rest t

pub loading_start : (all : List (List Field)) (m : InMemory) (l : Loader) → left_of m all → Loads l start_state →
    Loading all m l 0
loading_start all m l are_left loads =
    record { rest = all; sum = omega arith; are_left = are_left; state = start_state; loads = loads; joins = λ t a. a; splits = λ t a. a }

pub loading_more : (all : List (List Field)) (m n : InMemory) (l k : Loader) (taken : ℕ) (fields : List Field) → Loading all m l taken →
    TakesOne (left_of m) (left_of n) fields → LoadsRecord l fields k → Loading all n k (taken + 1)
loading_more all m n l k taken fields a took (c, is, stored, loads) =
    let next = took a.rest a.are_left in
    let one = loads a.state a.loads in
    let size = ap length next.1 in
    record {
      rest = next.0;
      sum = omega (arith, a.sum, size);
      are_left = next.2;
      state = one.0;
      loads = one.2;
      joins = λ t b. a.joins t (rw next.1 (c, is, stored, one.0, one.1, b));
      splits = λ t b. accepted_next a.state one.0 t fields next.0 c is one.1 (rw next.1 at (a.splits t b));
    }

pub loading_many : (all : List (List Field)) (m n : InMemory) (l : Loader) (taken : ℕ) (fields : List Field) → Loading all m l taken →
    TakesOne (left_of m) (left_of n) fields → taken < length all
loading_many all m n l taken fields a took = let size = ap length (took a.rest a.are_left).1 in omega (arith, a.sum, size)

pub loading_end : (text : List ℕ) (m : InMemory) (l : Loader) (new : Registered) (taken : ℕ) → Loading (records_of text) m l taken →
    HasNone (left_of m)
    → ((s : State) → Loads l s → (c : Content) × (s ≡ closed c) × Represents new.state (closed c)) → HasContentOf text new
loading_end text m l new taken a none finished =
    let f = finished a.state a.loads in (f.0, a.joins (closed f.0) (rw (none a.rest a.are_left) f.1), f.2)

-- what is said of a command that is k is said of k
pub logged_result : (l n : Loader) (c k : Command) (r : Result (Unit {0}) RestoreFault) → c ≡ k → IsLogged k →
    OnOk r (Loaded l k n) → OnOk r (IsLogged c × Loaded l c n)
logged_result l n c k (Ok done) e stored h =
    (subst IsLogged (sym e) stored, subst (λ (d : Command). Loaded l d n) (sym e) h)
logged_result l n c k (Err f) e stored h = tt

pub refused_result : (l : Loader) (c k : Command) (r : Result (Unit {0}) RestoreFault) → c ≡ k →
    IfErr r (λ e. is_rejection e ≡ true → Refuses l k) → IfErr r (λ e. is_rejection e ≡ true → IsLogged c → Refuses l c)
refused_result l c k (Ok done) e h = tt
refused_result l c k (Err f) e h = λ is stored. subst (Refuses l) (sym e) (h is)
