-- Commands that are rejected while a batch is open, and questions that are answered if none is.
use Rattle.olr_register.proofs.Common.{◌≡◌, true, false, List, [], Option, Some, None, is_some, Result, Ok, Err, refl, IsErrAnd}
use Rattle.olr_register.proofs.Common.{none_of, map_of, Content, Change, Command, step, IsOutcome, ByState, reply_of}
use Rattle.olr_register.proofs.Common.{command_fault_of, Reply, CommandFault, items, content_on, sym, Registered, Answered}
use Rattle.olr_register.proofs.Common.{IsStateRight, changes_made_in, Inside, IsRefusal, RegisterState, Open}
use Rattle.olr_register.proofs.Outcomes.{answered_refused, answered_uncounted, Keeps}
use Rattle.olr_register.proofs.States.{state, register_of, of_parts, in_states, right_as}

-- what is true of a register with no batch open
pub shut_right : (r : Inside) → false ≡ is_some r.batch →
    IsStateRight r.margin r.roads (items r.paths) r.batch r.searches.bounds → IsStateRight r.margin r.roads (items r.paths) None r.searches.bounds
shut_right r shut = right_as r (none_of r.batch (sym shut))

module _ (r : Inside) {x : Registered} (view : of_parts r.margin r.roads (items r.paths) r.batch r.work ≡ x) where
  pub open_refused : {q : Command} {f : CommandFault} → true ≡ is_some r.batch →
      ((d : Content) (xs : List Change) → step (state d (Some xs)) q ≡ Err (command_fault_of f)) → Answered x q (Err f) x
  open_refused {q} {f} some returned = rw (← view) (by r.batch some) where
    with_batch : Option Open → Registered
    with_batch o = of_parts r.margin r.roads (items r.paths) o r.work

    by : (o : Option Open) → true ≡ is_some o → Answered (with_batch o) q (Err f) (with_batch o)
    by None some = absurd cc
    by (Some b) some =
        answered_refused (with_batch (Some b)) (with_batch (Some b)) q (Err f) f refl refl
        (λ xs i. ByState (returned _ xs))

  module _ (shut : false ≡ is_some r.batch) where
    abbrev c : Content
    c = content_on r.margin (map_of r.roads) (items r.paths)

    pub shut_refused : {q : Command} {a : Result Reply CommandFault} (f : CommandFault) → IsErrAnd a (λ g. g ≡ f) →
        IsRefusal (state c None) q (command_fault_of f) → Answered x q a x
    shut_refused {q} {a} f failed why =
        rw (← view, none_of r.batch (sym shut)) (answered_refused _ _ q a f refl failed why)

    pub shut_answered : {q : Command} {a : Reply} → changes_made_in None q ≡ [] →
        IsOutcome (state c None) q (Ok (reply_of a)) (state c None) → Answered x q (Ok a) x
    shut_answered {q} {a} none outcome =
        let k : RegisterState = record { content = c; batch = None } in
        rw (← view, none_of r.batch (sym shut)) (answered_uncounted (register_of c None r.work) k q a
        (in_states k (Keeps k q a) (none, (state c None, (refl, tt), outcome))))
