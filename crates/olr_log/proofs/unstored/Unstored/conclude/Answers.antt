use Rattle.olr_log.proofs.Common.{inl, inr, rules}
use Rattle.olr_log.proofs.Parts.{ended, stays, unchanged, opens, closes, closed_fronts}
use Rattle.olr_log.proofs.unstored.Unstored.conclude.Goals as goal

pub keep-requires : goal.keep-requires
keep-requires c = (stays c.args.self.now.right).lines

pub keep-requires-in-Nothing : goal.keep-requires-in-Nothing
keep-requires-in-Nothing c = (stays c.args.self.now.right).lines

pub keep-requires-in-Begin : goal.keep-requires-in-Begin
keep-requires-in-Begin c = (opens c.args.self.now.right c.len-len.result (search rules) (inl c.in-Begin.is)).lines

pub keep-requires-in-Change : goal.keep-requires-in-Change
keep-requires-in-Change c =
    (opens c.args.self.now.right c.len-len.result (search rules) (inr (c.in-Change.is, c.if-self.true))).lines

pub keep-requires-in-Change-2 : goal.keep-requires-in-Change-2
keep-requires-in-Change-2 c =
    (closes c.args.self.now.right c.len-len.result (search rules) (inr (c.in-Change-2.is, c.if-self.false))).lines

pub keep-requires-in-Commit : goal.keep-requires-in-Commit
keep-requires-in-Commit c = (closes c.args.self.now.right c.len-len.result (search rules) (inl c.in-Commit.is)).lines

pub returns-then-not-accepted-clause-waiting : goal.returns-then-not-accepted-clause-waiting
returns-then-not-accepted-clause-waiting c =
    rw c.if-not-accepted.true (ended (stays c.args.self.now.right) c.keep.ensures.lines c.keep.ensures.lengths)

pub returns-in-Nothing-clause-waiting : goal.returns-in-Nothing-clause-waiting
returns-in-Nothing-clause-waiting c =
    let k = c.keep-in-Nothing.ensures in
    rw c.if-not-accepted.false (ended (unchanged c.args.self.now.right c.in-Nothing.is) k.lines k.lengths)

pub returns-in-Begin-clause-waiting : goal.returns-in-Begin-clause-waiting
returns-in-Begin-clause-waiting c =
    let k = c.keep-in-Begin.ensures in
    let ends = opens c.args.self.now.right c.len-len.result (search rules) (inl c.in-Begin.is) in
    rw c.if-not-accepted.false (ended ends k.lines k.lengths)

pub returns-in-Change-clause-waiting : goal.returns-in-Change-clause-waiting
returns-in-Change-clause-waiting c =
    let k = c.keep-in-Change.ensures in
    let ends = opens c.args.self.now.right c.len-len.result (search rules) (inr (c.in-Change.is, c.if-self.true)) in
    rw c.if-not-accepted.false (ended ends k.lines k.lengths)

pub returns-in-Change-2-clause-waiting : goal.returns-in-Change-2-clause-waiting
returns-in-Change-2-clause-waiting c =
    let k = c.keep-in-Change-2.ensures in
    let ends = closes c.args.self.now.right c.len-len.result (search rules) (inr (c.in-Change-2.is, c.if-self.false)) in
    rw c.if-not-accepted.false (ended ends k.lines k.lengths)

pub returns-in-Change-2-clause-fronts : goal.returns-in-Change-2-clause-fronts
returns-in-Change-2-clause-fronts c =
    let k = c.keep-in-Change-2.ensures in
    closed_fronts c.args.self.now.right c.len-len.result (search rules) (inr (c.in-Change-2.is, c.if-self.false)) k.lines
    k.lengths.0

pub returns-in-Commit-clause-waiting : goal.returns-in-Commit-clause-waiting
returns-in-Commit-clause-waiting c =
    let k = c.keep-in-Commit.ensures in
    let ends = closes c.args.self.now.right c.len-len.result (search rules) (inl c.in-Commit.is) in
    rw c.if-not-accepted.false (ended ends k.lines k.lengths)

pub returns-in-Commit-clause-fronts : goal.returns-in-Commit-clause-fronts
returns-in-Commit-clause-fronts c =
    let k = c.keep-in-Commit.ensures in
    closed_fronts c.args.self.now.right c.len-len.result (search rules) (inl c.in-Commit.is) k.lines k.lengths.0
