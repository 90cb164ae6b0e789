use Rattle.olr_log.proofs.Common.{rules, refl, ◌∙◌}
use Rattle.olr_log.proofs.Scans.{scanned_return, scanned_over, scanned_byte, scanned_line, front_more, front_same}
use Rattle.olr_log.proofs.scan.Scan.take_one.Goals as goal

pub returns-then-byte-eq13-clause-text : goal.returns-then-byte-eq13-clause-text
returns-then-byte-eq13-clause-text c text known =
    scanned_return c.args.self.now _ text known refl c.args.byte c.if-byte-eq13.true refl refl refl

pub returns-then-self-clause-text : goal.returns-then-self-clause-text
returns-then-self-clause-text c text known =
    scanned_over c.args.self.now _ text known refl c.args.byte refl refl refl c.if-self.true c.if-byte-eq13.false

pub returns-in_ok-push-clause-text : goal.returns-in_ok-push-clause-text
returns-in_ok-push-clause-text c text known =
    scanned_byte c.args.self.now _ text known refl c.args.byte refl refl refl c.if-self.false refl c.if-byte-ne10.true c.if-byte-eq13.false
    (λ line front. front_more line c.args.self.now.begun.items c.args.byte front (search rules) ∙ search rules)

pub returns-else-len-lt-MOST_BEGUN-clause-text : goal.returns-else-len-lt-MOST_BEGUN-clause-text
returns-else-len-lt-MOST_BEGUN-clause-text c text known =
    scanned_byte c.args.self.now _ text known refl c.args.byte refl refl refl c.if-self.false refl c.if-byte-ne10.true c.if-byte-eq13.false
    (λ line front. front_same line c.args.self.now.begun.items c.args.byte front (search rules))

pub returns-clause-text : goal.returns-clause-text
returns-clause-text c text known =
    scanned_line c.args.self.now _ text known refl c.args.byte (search rules) refl refl c.if-self.false (search rules) c.clear.ensures.items (search rules)
