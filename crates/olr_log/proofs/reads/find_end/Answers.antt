use Rattle.olr_log.proofs.Common.{rules, ◌≡◌, ◌+◌, ◌-◌, ◌≤◌, ℕ, List, [], length, take, drop, sym, ap, subst, arith}
use Rattle.olr_log.proofs.Common.{length-drop, take_all, Scanned}
use Rattle.olr_log.proofs.Reading.{OnlyReads-refl, OnlyReads-trans}
use Rattle.olr_log.proofs.reads.find_end.Goals as goal

pub loop-at-init : goal.loop-at-init
loop-at-init g c =
    let scan = c.in_ok-scan.scan in
    let none : Scanned scan [] = search rules in
    record {
      reads = OnlyReads-refl g.D.Disk c.args.disk.now c.requires.usable;
      at = omega (arith, none.at);
      within = c.requires.some;
      text = λ _. subst (λ (x : List ℕ). Scanned scan x) (sym (ap (λ (n : ℕ). take n (drop 1 (g.D.Disk.seen c.args.disk.now))) none.at)) none;
    }

pub returns-in_err-scan_next-clause-reads : goal.returns-in_err-scan_next-clause-reads
returns-in_err-scan_next-clause-reads g c =
    OnlyReads-trans g.D.Disk c.args.disk.now c.loop-at.disk c.scan_next.new.disk c.loop-at.invariant.reads c.scan_next.ensures.reads

pub loop-at-preserved : goal.loop-at-preserved
loop-at-preserved g c =
    let so_far = c.loop-at.invariant in
    let first = g.D.Disk.seen c.args.disk.now in
    let same = so_far.reads.seen in
    let took : c.scan_next.new.scan.at ≡ c.loop-at.scan.at + c.min-n.result = search rules in
    let low : c.min-n.result ≤ c.args.len - c.loop-at.at = search rules in
    record {
      reads = OnlyReads-trans g.D.Disk c.args.disk.now c.loop-at.disk c.scan_next.new.disk so_far.reads c.scan_next.ensures.reads;
      at = omega (arith, took, so_far.at);
      within = omega (arith, low, so_far.within);
      text = λ clean.
          let before = so_far.text (c.scan_next.ensures.reads.clean clean) in
          subst (λ (x : List ℕ). Scanned c.scan_next.new.scan (take c.scan_next.new.scan.at (drop 1 x))) same
          (c.in_ok-scan_next.ensures.text (subst (λ (x : List ℕ). Scanned c.loop-at.scan (take c.loop-at.scan.at (drop 1 x))) (sym same) before) clean);
    }

pub returns-clause-text : goal.returns-clause-text
returns-clause-text g c clean size =
    let so_far = c.loop-at.invariant in
    let first = g.D.Disk.seen c.args.disk.now in
    let all : length (drop 1 first) ≤ c.loop-at.scan.at = omega (arith, length-drop 1 first, size, so_far.at, c.loop-at-test.false) in
    subst (λ (x : List ℕ). Scanned c.loop-at.scan x) (take_all c.loop-at.scan.at (drop 1 first) all) (so_far.text clean)
