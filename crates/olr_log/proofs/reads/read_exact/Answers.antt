use Rattle.olr_log.proofs.Common.{rules, ◌≡◌, ◌<◌, ℕ, length, take, drop, sym, ◌∙◌, ap, with_items_is, places}
use Rattle.olr_log.proofs.Padding.{bytes_at}
use Rattle.olr_log.proofs.reads.read_exact.Goals as goal

pub returns-clause-len : goal.returns-clause-len
returns-clause-len g c = search (rules, places)

pub returns-clause-bytes : goal.returns-clause-bytes
returns-clause-bytes g c clean =
    let read = c.read_at.new.buf in
    let seen = g.D.Disk.seen c.args.disk.now in
    let size : length read ≡ c.args.n = search rules in
    let some : 0 < length c.deref_mut.result.now = search rules in
    with_items_is c.in_ok-bytes.bytes read (search (rules, places))
    ∙ sym (bytes_at seen read c.args.at (c.in_ok-read_at.ensures.read clean some)) ∙ ap (λ (j : ℕ). take j (drop c.args.at seen)) size
