use Rattle.olr_log.proofs.Common.{◌≡◌, ◌+◌, ℕ, List, ◌++◌, length, take, drop, sym, ◌∙◌, ap, subst, Scanned}
use Rattle.olr_log.proofs.Reading.{block_behind}
use Rattle.olr_log.proofs.reads.scan_next.Goals as goal

pub returns-clause-text : goal.returns-clause-text
returns-clause-text g c known clean =
    let seen = g.D.Disk.seen c.args.disk.now in
    let text = drop 1 seen in
    let at = c.args.scan.now.at in
    let size : length c.deref.result.now ≡ c.args.n = ap length c.deref.ensures.value ∙ c.in_ok-block.ensures.len in
    let read = c.deref.ensures.value ∙ c.in_ok-block.ensures.bytes clean in
    subst (λ (x : List ℕ). Scanned c.take.new.self x) (ap (λ (x : List ℕ). take at text ++ x) read
    ∙ sym (ap (λ (n : ℕ). take n text) (c.in_ok-take.ensures.at ∙ ap (λ (n : ℕ). at + n) size)
    ∙ block_behind seen at c.args.n c.args.at c.requires.place))
    (c.in_ok-take.ensures.text (take at text) known)
