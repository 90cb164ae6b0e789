use Rattle.olr_log.proofs.Common.{arith, ◌≡◌, ◌∙◌, ◌++◌, true, rules, fields_of, has_line, is_clean, line_of, word_effect, join_with_byte}
use Rattle.olr_log.proofs.StoredLines.{line_for}
use Rattle.olr_log.proofs.Parts.{added_lines, ended, stays, taken_next, taken_waits}
use Rattle.std.proofs.lemmas.Grind.{common_steps}
use Rattle.olr_log.proofs.unstored.Unstored.take.Goals as goal

pub keep-requires : goal.keep-requires
keep-requires c = (stays c.args.self.now.right).lines

pub invariant_of-self-then-branch : goal.invariant_of-self-then-branch
invariant_of-self-then-branch c =
    let u = c.keep.new.self in
    let fs = fields_of c.args.row.now.fields in
    let effect = c.effect-effect.result in
    let is : word_effect fs ≡ effect = search rules in
    let stored : has_line effect ≡ true = search rules in
    let clean : is_clean (join_with_byte 44 fs) ≡ true = search rules in
    let items : c.add_line.new.text.items ≡ u.lines.items ++ line_of fs = search rules in
    let line = line_for effect fs is stored clean in
    let none = taken_next c.args.self.now.right u.lines.items u.held c.keep.ensures.lines c.keep.ensures.lengths.1 in
    record { right = rw items (added_lines u.right effect (line_of fs) none line) }

pub returns-then-not-has_line-clause-waiting : goal.returns-then-not-has_line-clause-waiting
returns-then-not-has_line-clause-waiting c =
    ended (stays c.args.self.now.right) c.keep.ensures.lines c.keep.ensures.lengths

pub returns-in_err-add_line-clause-waiting : goal.returns-in_err-add_line-clause-waiting
returns-in_err-add_line-clause-waiting c =
    ended (stays c.args.self.now.right) (c.in_err-add_line.ensures.nothing ∙ c.keep.ensures.lines) c.keep.ensures.lengths

pub returns-then-branch-clause-waiting : goal.returns-then-branch-clause-waiting
returns-then-branch-clause-waiting c =
    let u = c.keep.new.self in
    taken_waits c.args.self.now.right _ u.lines.items c.add_line.new.text.items u.ready u.held c.in_ok-add_line.ensures.line
    c.keep.ensures.lines c.keep.ensures.lengths

pub returns-else-branch-clause-waiting : goal.returns-else-branch-clause-waiting
returns-else-branch-clause-waiting c =
    let u = c.keep.new.self in
    taken_waits c.args.self.now.right _ u.lines.items c.add_line.new.text.items u.ready u.held c.in_ok-add_line.ensures.line
    c.keep.ensures.lines c.keep.ensures.lengths

pub returns-then-branch-clause-line : goal.returns-then-branch-clause-line
returns-then-branch-clause-line c = grind (arith, common_steps)
