use Rattle.olr_register.proofs.Common.{◌≡◌, true, false, Some, None, Ok, length, refl, ap, ◌∙◌, ne_eqb, map_of, map_before}
use Rattle.olr_register.proofs.Common.{Content, Commit, ByState, may_want, items, under_overlay, nodes_of, lines_of, Registered}
use Rattle.olr_register.proofs.Common.{content_on, batch_of, raised_work, No_memory, Lacks_memory}
use Rattle.olr_register.proofs.BatchSteps.{right_count, renewed_content, renewed_reply}
use Rattle.olr_register.proofs.Counting.{counted_held, rise_on}
use Rattle.olr_register.proofs.Touched.{can_commit, can_renew_batch}
use Rattle.olr_register.proofs.Outcomes.{answered_counted, answered_refused, Accepts}
use Rattle.olr_register.proofs.Renewed.{reencoded_encoded}
use Rattle.olr_register.proofs.States.{state, of_parts, in_states, right_as}
use Rattle.olr_commands.specs.declared.reply.Reply.TheVariants as reply
use Rattle.olr_register.proofs.register.Register.commit.Goals as goal

pub returns-in_default : goal.returns-in_default
returns-in_default c =
    rw (← c.self.view_is, c.in_default.is) (answered_refused _ _ (Commit c.args.count) _ _ refl refl (ByState refl))

pub returns-then-batch-count : goal.returns-then-batch-count
returns-then-batch-count c =
    rw (← c.self.view_is, c.in-Some.is) (answered_refused _ _ (Commit c.args.count) _ _ refl refl
    (λ xs i. ByState (rw (ne_eqb (length xs) c.args.count (λ h. c.if-batch-count.true (i.count ∙ h))))))

pub renew-requires : goal.renew-requires
renew-requires c = can_renew_batch (right_as c.self.inside c.in-Some.is c.self.invariant)

pub invariant_of-self-2 : goal.invariant_of-self-2
invariant_of-self-2 c =
    let s = c.self.inside in
    let right = right_as s c.in-Some.is c.self.invariant in
    let e = c.in_ok-renewed.ensures in
    rw c.take.ensures.after (record {
      register = record {
        content = rw e.renewed.named right.register.held.sound;
        encoded = reencoded_encoded _ (map_of s.roads) _ _ e.renewed.reencoded;
        held = tt;
        margin = tt;
      };
      bounded = e.bounded;
    })

pub returns : goal.returns
returns c =
    let s = c.self.inside in
    let is = items s.paths in
    let js = items c.renew.new.paths in
    let b = c.in-Some.batch in
    let M = map_of s.roads in
    let e = c.in_ok-renewed.ensures in
    let right = right_as s c.in-Some.is c.self.invariant in
    let old : Content = content_on s.margin (map_before s.roads b.log) is in
    let new : Content = content_on b.margin M js in
    let count = e.renewed.counted old.map (can_commit s.margin s.roads is b right.register).before in
    let n = c.in_ok-renewed.renewed in
    let r = reply.Paths n.entries in
    let later : Registered = of_parts b.margin s.roads js None (raised_work s.work n.work) in
    rw (← c.self.view_is, c.in-Some.is, c.take.ensures.after, c.plus-self-inside.ensures) (answered_counted _ later (Commit c.args.count) r count.0
    (in_states (record { content = old; batch = Some (batch_of s.roads is b) })
    (Accepts later (Commit c.args.count) r count.0) (λ xs i. (
      (
        state new None,
        (refl, tt),
        (
          right_count old (batch_of s.roads is b) xs i c.if-batch-count.false
              ∙ ap (λ (d : Content). Ok (state d None)) (renewed_content s.roads is b js n e.renewed old xs i),
          renewed_reply s.roads is b js n e.renewed s.margin right.register,
        ),
      ),
      rw e.renewed.named (counted_held old xs (nodes_of b.touched) (lines_of b.touched) i.nodes i.lines b.margin b.all right.register.margin
          (under_overlay is b.overlay) count.0 count.1 i.given),
    )))
    (rise_on s.work n.work count.0 count.2) (λ off. let no : true ≡ false = off in absurd cc))

pub returns-in_err-renewed : goal.returns-in_err-renewed
returns-in_err-renewed c =
    let e = c.in_err-renewed.ensures in
    rw (← c.self.view_is, c.in-Some.is, e.err)
    (answered_refused _ _ (Commit c.args.count) _ No_memory refl c.from_residual.ensures.1
    (λ xs i. Lacks_memory refl (ap may_want (right_count _ _ xs i c.if-batch-count.false))))
