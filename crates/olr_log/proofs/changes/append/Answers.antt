use Rattle.olr_log.proofs.Common.{◌≡◌, length, append-nil, IsFront, is_whole, counts, ends_blank, text_in, IsPadded, KeepsFirst}
use Rattle.olr_log.proofs.Common.{◌+◌, ◌-◌, ◌≤◌, List, ℕ, [], ◌++◌, true, refl, sym, ◌∙◌, ap, arith, not, Mixed, Ready}
use Rattle.std.proofs.lemmas.Bool.{and_from, not_from_false}
use Rattle.olr_log.proofs.Crashes.{Leaves, leaves_stored, leaves_next}
use Rattle.olr_log.proofs.NativeTexts.{keeps_stopped, mixed_text, padded_behind, padded_more}
use Rattle.olr_log.proofs.Padding.{keeps_take, text_more, text_same, torn_keeps, written_reach}
use Rattle.olr_log.proofs.changes.append.Given.{Over}
use Rattle.olr_log.proofs.changes.append.Goals.{After-put}
use Rattle.olr_log.proofs.changes.append.Goals as goal

-- the text, and a front of the records
abbrev Fronts : List ℕ → List ℕ → List ℕ → Type 0
Fronts text records left = (front : List ℕ) × IsFront records front × (left ≡ text ++ front)

none : (text records left : List ℕ) → left ≡ text → Fronts text records left
none text records left is = ([], record { rest = records; splits = refl; whole = refl }, is ∙ sym (append-nil text))

pub returns-in_err-more-clause-cut : goal.returns-in_err-more-clause-cut
returns-in_err-more-clause-cut g c text left =
    none (text_in c.args.text_len (g.D.Disk.seen c.args.disk.now)) c.args.records.now text (leaves_stored g.D.Disk c.args.disk.now (Ready c.args.text_len c.args.len) c.requires.stands refl text left)

pub returns-in_err-blank-clause-cut : goal.returns-in_err-blank-clause-cut
returns-in_err-blank-clause-cut g c =
    let file = g.D.Disk.seen c.args.disk.now in
    let n = c.args.text_len in
    let stands = c.requires.stands in
    leaves_next g.D.Disk (KeepsFirst c.args.len) (Fronts (text_in n file) c.args.records.now) c.args.disk.now c.blank.new.disk stands.0.durable c.blank.ensures.crash (λ clean left keeps.
    let is = stands.0.is (sym c.blank.ensures.calm ∙ clean) in
    none (text_in n file) c.args.records.now _ (keeps_stopped n c.args.len file left is.text (is.returns (n + 1) (omega arith) is.some) is.some stands.1 keeps))

-- the file that was made longer
same_text : (g : Over) (c : After-put g) → let seen = g.D.Disk.seen in text_in c.args.text_len (seen c.blank.new.disk) ≡ text_in c.args.text_len (seen c.args.disk.now)
same_text g c =
    let seen = g.D.Disk.seen in
    let n = c.args.text_len in
    let len = c.args.len in
    let stands = c.requires.stands in
    text_same n (seen c.args.disk.now) (seen c.blank.new.disk)
    (keeps_take len (n + 1) (seen c.args.disk.now) (seen c.blank.new.disk) (torn_keeps len len (c.in_ok-more.more - len) (seen c.args.disk.now) (seen c.blank.new.disk) (omega arith) c.blank.ensures.others) (omega (arith, stands.1)) stands.2)

longer : (g : Over) (c : After-put g) → g.D.Disk.is_clean c.put.new.disk ≡ true → let file = g.D.Disk.seen c.blank.new.disk in IsPadded c.args.text_len file × (length file ≡ c.in_ok-more.more)
longer g c clean =
    let seen = g.D.Disk.seen in
    let told = sym c.blank.ensures.calm ∙ sym c.put.ensures.calm ∙ clean in
    let has = c.requires.stands.0 in
    padded_more c.args.text_len c.args.len c.in_ok-more.more (seen c.args.disk.now) (seen c.blank.new.disk) (has.is told) (has.size told) c.in_ok-more.ensures.fits.1 c.blank.ensures.others c.in_ok-blank.ensures.blank

cut_short : (g : Over) (c : After-put g) (text : List ℕ) → Leaves g.D.Disk c.put.new.disk text
    → Fronts (text_in c.args.text_len (g.D.Disk.seen c.args.disk.now)) c.args.records.now text
cut_short g c =
    let seen = g.D.Disk.seen in
    let records = c.args.records.now in
    leaves_next g.D.Disk (Mixed (c.args.text_len + 1) records) (Fronts (text_in c.args.text_len (seen c.args.disk.now)) records) c.blank.new.disk c.put.new.disk c.in_ok-blank.ensures.durable c.put.ensures.crash (λ clean left mixed.
    let file = longer g c clean in
    let room = c.in_ok-more.ensures.fits.0 in
    let found = mixed_text c.args.text_len records (seen c.blank.new.disk) file.0 (omega (arith, room, file.1)) left mixed in
    (found.0, found.1, found.2 ∙ ap (λ (x : List ℕ). x ++ found.0) (same_text g c)))

pub returns-in_err-put-clause-cut : goal.returns-in_err-put-clause-cut
returns-in_err-put-clause-cut g c = cut_short g (goal.at.returns-in_err-put-clause-cut g c).After-put

pub returns-clause-cut : goal.returns-clause-cut
returns-clause-cut g c = cut_short g (goal.at.returns-clause-cut g c).After-put

pub returns-clause-stored : goal.returns-clause-stored
returns-clause-stored g c =
    let seen = g.D.Disk.seen in
    let records = c.args.records.now in
    text_more c.args.text_len records (seen c.blank.new.disk) (seen c.put.new.disk) (omega (arith, c.requires.stands.2, c.blank.ensures.others.no_shorter)) c.in_ok-put.ensures.held c.put.ensures.others
    ∙ ap (λ (x : List ℕ). x ++ records) (same_text g (goal.at.returns-clause-stored g c).After-put)

pub returns-clause-stands : goal.returns-clause-stands
returns-clause-stands g c =
    let seen = g.D.Disk.seen in
    let records = c.args.records.now in
    let n = c.args.text_len in
    let after = (goal.at.returns-clause-stands g c).After-put in
    let room = c.in_ok-more.ensures.fits.0 in
    let whole : counts records ≡ true = and_from (is_whole records) (not (ends_blank records)) c.requires.whole (not_from_false (ends_blank records) c.in_ok-more.ensures.counts) in
    let within : n + 1 ≤ length (seen c.blank.new.disk) = omega (arith, c.requires.stands.2, c.blank.ensures.others.no_shorter) in
    let reach = written_reach (n + 1) records (seen c.blank.new.disk) (seen c.put.new.disk) within c.in_ok-put.ensures.held c.put.ensures.others in
    let made = λ (clean : g.D.Disk.is_clean c.put.new.disk ≡ true). padded_behind n records (seen c.blank.new.disk) (longer g after clean).0 (let size = (longer g after clean).1 in omega (arith, room, size)) (seen c.put.new.disk) whole c.in_ok-put.ensures.held c.put.ensures.others in (
      record {
        usable = c.in_ok-put.ensures.usable;
        durable = c.in_ok-put.ensures.durable;
        size = λ clean. (made clean).1 ∙ (longer g after clean).1;
        is = λ clean. (made clean).0;
      },
      omega (arith, room),
      omega (arith, reach),
    )
