use Rattle.olr_log.proofs.Common.{rules, ◌≡◌, ◌+◌, ◌≤◌, max, List, ℕ, [], ◌∷◌, length, true, refl, sym, ◌∙◌, arith, Mixed}
use Rattle.olr_log.proofs.Common.{text_in, IsPadded, KeepsFirst, Opened}
use Rattle.olr_log.proofs.Crashes.{Leaves, leaves_stored, leaves_next}
use Rattle.olr_log.proofs.NativeTexts.{first_wiped, keeps_stopped, once_has, once_next, once_text, wiped}
use Rattle.olr_log.proofs.changes.wipe.Given.{Over}
use Rattle.olr_log.proofs.changes.wipe.Goals.{After-blank, In_ok-blank}
use Rattle.olr_log.proofs.changes.wipe.Goals as goal

pub returns-in_err-rest-clause-cut : goal.returns-in_err-rest-clause-cut
returns-in_err-rest-clause-cut g c = leaves_stored g.D.Disk c.args.disk.now (Opened c.args.text_len c.args.last c.args.len) c.requires.stands refl

pub returns-in_err-put-clause-cut : goal.returns-in_err-put-clause-cut
returns-in_err-put-clause-cut g c =
    let file = g.D.Disk.seen c.args.disk.now in
    let n = c.args.text_len in
    leaves_next g.D.Disk (Mixed (n + 1) (13 ∷ [])) (λ text. text ≡ text_in n file) c.args.disk.now c.put.new.disk c.requires.stands.0.durable c.put.ensures.crash
    (λ clean left. first_wiped n file left (c.requires.stands.0.is (sym c.put.ensures.calm ∙ clean)).text)

cut_short : (g : Over) (c : After-blank g) (text : List ℕ) → Leaves g.D.Disk c.blank.new.disk text → text ≡ text_in c.args.text_len (g.D.Disk.seen c.args.disk.now)
cut_short g c =
    let seen = g.D.Disk.seen in
    let n = c.args.text_len in
    let rest : c.in_ok-rest.rest ≡ n + 1 + 1 = search rules in
    leaves_next g.D.Disk (KeepsFirst c.in_ok-rest.rest) (λ text. text ≡ text_in n (seen c.args.disk.now)) c.put.new.disk c.blank.new.disk c.in_ok-put.ensures.durable c.blank.ensures.crash (λ clean left keeps.
    let holds = c.in_ok-put.ensures.held (omega arith) in
    let torn = c.put.ensures.others in
    let is = c.requires.stands.0.is (sym c.put.ensures.calm ∙ sym c.blank.ensures.calm ∙ clean) in
    let to : c.max-to.result ≡ max (n + 1 + 1) (c.args.last + 1) = search rules in
    keeps_stopped n c.in_ok-rest.rest (seen c.put.new.disk) left (once_has n c.args.last c.max-to.result (seen c.args.disk.now) (seen c.put.new.disk) is to holds torn)
    (once_next n c.args.last c.max-to.result (seen c.args.disk.now) (seen c.put.new.disk) is to holds torn) (omega (arith, holds.within)) (omega (arith, rest)) keeps
    ∙ once_text n c.args.last c.max-to.result (seen c.args.disk.now) (seen c.put.new.disk) is to holds torn)

pub returns-in_err-blank-clause-cut : goal.returns-in_err-blank-clause-cut
returns-in_err-blank-clause-cut g c = cut_short g (goal.at.returns-in_err-blank-clause-cut g c).After-blank

pub returns-clause-cut : goal.returns-clause-cut
returns-clause-cut g c = cut_short g (goal.at.returns-clause-cut g c).After-blank

all_wiped : (g : Over) (c : In_ok-blank g) → g.D.Disk.is_clean c.blank.new.disk ≡ true → let seen = g.D.Disk.seen in let n = c.args.text_len in
    IsPadded n (seen c.blank.new.disk) × (text_in n (seen c.blank.new.disk) ≡ text_in n (seen c.args.disk.now)) × (length (seen c.blank.new.disk) ≡ max (length (seen c.args.disk.now)) c.max-to.result)
all_wiped g c clean =
    let seen = g.D.Disk.seen in
    wiped c.args.text_len c.args.last c.max-to.result (seen c.args.disk.now) (seen c.put.new.disk) (c.requires.stands.0.is (sym c.put.ensures.calm ∙ sym c.blank.ensures.calm ∙ clean)) (search rules) (c.in_ok-put.ensures.held (omega arith)) c.put.ensures.others
    c.in_ok-rest.rest (seen c.blank.new.disk) (search rules) c.blank.ensures.others c.in_ok-blank.ensures.blank

pub returns-clause-stored : goal.returns-clause-stored
returns-clause-stored g c clean = (all_wiped g (goal.at.returns-clause-stored g c).In_ok-blank clean).1

pub returns-clause-stands : goal.returns-clause-stands
returns-clause-stands g c =
    let after = (goal.at.returns-clause-stands g c).In_ok-blank in
    let len : c.max.result ≡ max c.args.len c.max-to.result = search rules in
    let stands = c.requires.stands in
    let to : c.max-to.result ≡ max (c.args.text_len + 1 + 1) (c.args.last + 1) = search rules in
    let reach : c.args.text_len + 1 ≤ length (g.D.Disk.seen c.blank.new.disk) = omega (arith, (c.in_ok-put.ensures.held (omega arith)).within, c.blank.ensures.others.no_shorter) in (
      record {
        usable = c.in_ok-blank.ensures.usable;
        durable = c.in_ok-blank.ensures.durable;
        size = λ clean. let all = all_wiped g after clean in let size = all.2 in let was = stands.0.size (sym c.put.ensures.calm ∙ sym c.blank.ensures.calm ∙ clean) in omega (arith, size, was, len);
        is = λ clean. (all_wiped g after clean).0;
      },
      omega (arith, len, to),
      reach,
    )
