use Rattle.olr_log.proofs.Common.{rules, ◌≡◌, ◌+◌, ◌<◌, ◌≤◌, length, sym, ◌∙◌, subst, refl, arith, List, ℕ, text_in, IsPadded}
use Rattle.olr_log.proofs.NativeTexts.{filled}
use Rattle.olr_log.proofs.writes.fill.Given.{Over}
use Rattle.olr_log.proofs.writes.fill.Goals.{After-sync}
use Rattle.olr_log.proofs.writes.fill.Goals as goal

some_block : 0 < 65536
some_block = omega arith

made : (g : Over) (c : After-sync g) → let text = c.args.text.now in let file = g.D.Disk.seen c.sync.new.self in
    IsPadded (length text) file × (text_in (length text) file ≡ text) × (length file ≡ length text + 1 + 65536)
made g c =
    let text = c.args.text.now in
    subst (λ (file : List ℕ). IsPadded (length text) file × (text_in (length text) file ≡ text) × (length file ≡ length text + 1 + 65536)) (sym c.sync.ensures.seen)
    (filled text _ _ (length text + 1) 65536 refl c.in_ok-write_text.ensures.seen c.in_ok-write_at.ensures.written c.write_at.ensures.others some_block c.requires.counts)

room : (n size len : ℕ) → n + 1 < size → size ≡ n + 1 + 65536 → len ≡ n + 65537 → (size ≡ len) × (n + 1 < len) × (n + 1 ≤ size)
room n size len some is same = (omega arith, omega arith, omega arith)

pub returns-clause-stands : goal.returns-clause-stands
returns-clause-stands g c =
    let file = made g (goal.at.returns-clause-stands g c).After-sync in
    let fits = room (length c.args.text.now) _ c.in_ok-len.len file.0.some file.2 (search rules) in
    let sync = c.in_ok-sync.ensures in
    let same = sym c.sync.ensures.seen in
    (record { usable = sync.usable; durable = λ d h. sync.durable d h ∙ same; size = λ _. fits.0; is = λ _. file.0 }, fits.1, fits.2)

pub returns-clause-stored : goal.returns-clause-stored
returns-clause-stored g c = (made g (goal.at.returns-clause-stored g c).After-sync).1
