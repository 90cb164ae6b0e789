use Rattle.olr_register.proofs.Common.{Some, None, refl, sym, Abort, items, ByState, content_on, batch_of, map_before}
use Rattle.olr_register.proofs.Common.{RegisterState}
use Rattle.olr_register.proofs.States.{state, register_moved, in_states, right_as}
use Rattle.olr_register.proofs.Outcomes.{answered_refused, answered_uncounted, Keeps}
use Rattle.olr_commands.specs.declared.reply.Reply.TheVariants as reply
use Rattle.olr_register.proofs.register.Register.abort.Goals as goal

pub undo_edits-requires : goal.undo_edits-requires
undo_edits-requires c =
    let s = c.self.inside in
    let right = right_as s (sym c.in-Some.ensures.value) c.self.invariant in
    record { undo = right.register.held.undo; edits = right.register.held.edits }

pub invariant_of-self-2 : goal.invariant_of-self-2
invariant_of-self-2 c =
    let s = c.self.inside in
    let right = right_as s (sym c.in-Some.ensures.value) c.self.invariant in
    rw c.take.ensures.after (record {
      register =
          register_moved s.margin s.roads c.undo_edits.new.roads (items s.paths) (Some c.in-Some.batch) None
          c.undo_edits.ensures.map tt tt right.register;
      bounded = c.undo_edits.ensures.bounded (items s.paths) right.bounded;
    })

pub returns : goal.returns
returns c =
    let s = c.self.inside in
    let k : RegisterState = record { content = content_on s.margin (map_before s.roads c.in-Some.batch.log) (items s.paths); batch = None } in
    rw (← c.self.view_is, ← c.in-Some.ensures.value, c.take.ensures.after, c.undo_edits.ensures.map)
    (answered_uncounted _ k Abort (reply.Paths c.new.result) (in_states (record k { batch = Some (batch_of s.roads (items s.paths) c.in-Some.batch) })
    (Keeps k Abort (reply.Paths c.new.result)) (λ xs i. (
      refl,
      (
        state k.content None,
        (refl, tt),
        (refl, rw c.new.ensures.items),
      ),
    ))))

pub returns-in_default : goal.returns-in_default
returns-in_default c =
    rw (← c.self.view_is, ← c.in_default.ensures.value, c.take.ensures.after) (answered_refused _ _ Abort _ _ refl refl (ByState refl))
