use Rattle.olr_register.proofs.Common.{Some, refl, map_before, Content, ByState, items, content_on, batch_of, Preview}
use Rattle.olr_register.proofs.Common.{No_memory, RegisterState, Lacks_memory}
use Rattle.olr_register.proofs.BatchSteps.{renewed_content, renewed_reply}
use Rattle.olr_register.proofs.Touched.{can_renew_batch}
use Rattle.olr_register.proofs.Outcomes.{answered_uncounted, answered_refused, Keeps}
use Rattle.olr_register.proofs.States.{state, in_states, right_as}
use Rattle.olr_commands.specs.declared.reply.Reply.TheVariants as reply
use Rattle.olr_register.proofs.register.Register.preview.Goals as goal

pub returns-in_default : goal.returns-in_default
returns-in_default c =
    rw (← c.self.view_is, c.in_default.is) (answered_refused _ _ Preview _ _ refl refl (ByState refl))

pub preview-requires : goal.preview-requires
preview-requires c = can_renew_batch (right_as c.self.inside c.in-Some.is c.self.invariant)

pub invariant_of-self : goal.invariant_of-self
invariant_of-self c = record {
  register = c.self.invariant.register;
  bounded = c.preview.ensures.bounded _ _ (right_as c.self.inside c.in-Some.is c.self.invariant).bounded;
}

pub invariant_of-self-2 : goal.invariant_of-self-2
invariant_of-self-2 c = record {
  register = c.self.invariant.register;
  bounded = c.preview.ensures.bounded _ _ (right_as c.self.inside c.in-Some.is c.self.invariant).bounded;
}

pub returns-in_err-previewed : goal.returns-in_err-previewed
returns-in_err-previewed c =
    rw (← c.self.view_is, c.in-Some.is)
    (answered_refused _ _ Preview _ No_memory refl c.from_residual.ensures.1 (λ xs i. Lacks_memory refl refl))

pub returns : goal.returns
returns c =
    let s = c.self.inside in
    let is = items s.paths in
    let b = c.in-Some.batch in
    let right = right_as s c.in-Some.is c.self.invariant in
    let old : Content = content_on s.margin (map_before s.roads b.log) is in
    let e = c.in_ok-previewed.ensures.renewed in
    let n = c.in_ok-previewed.previewed in
    let r = reply.Paths n.entries in
    let k : RegisterState = record { content = old; batch = Some (batch_of s.roads is b) } in
    rw (← c.self.view_is, c.in-Some.is) (answered_uncounted _ k Preview r (in_states k (Keeps k Preview r) (λ xs i. (
      refl,
      (
        state old (Some xs),
        (refl, i),
        (
          refl,
          rw (renewed_content s.roads is b e.0 n e.1 old xs i) (renewed_reply s.roads is b e.0 n e.1 s.margin right.register),
        ),
      ),
    ))))
