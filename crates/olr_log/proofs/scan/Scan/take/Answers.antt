use Rattle.olr_log.proofs.Common.{arith, List, ℕ, ◌++◌, take, sym, ◌∙◌, ap, subst, append_assoc, Scanned, take_all, take_more}
use Rattle.olr_log.proofs.scan.Scan.take.Goals as goal

pub loop-byte-preserved : goal.loop-byte-preserved
loop-byte-preserved c =
    let so_far = take c.loop-byte.byte-index c.args.bytes.now in
    let one_more = sym (take_more c.args.bytes.now c.loop-byte.byte-index 0 c.loop-byte-test.true) in
    record {
      at = omega (arith, c.in_ok-take_one.ensures.at, c.loop-byte.invariant.at);
      text = λ text known. subst (λ (t : List ℕ). Scanned c.take_one.new.self t)
          (append_assoc text so_far _ ∙ ap (λ (t : List ℕ). text ++ t) one_more)
          (c.in_ok-take_one.ensures.text (text ++ so_far) (c.loop-byte.invariant.text text known));
    }

pub returns-clause-text : goal.returns-clause-text
returns-clause-text c text known = subst (λ (t : List ℕ). Scanned c.loop-byte.self (text ++ t))
    (take_all c.loop-byte.byte-index c.args.bytes.now c.loop-byte-test.false) (c.loop-byte.invariant.text text known)
