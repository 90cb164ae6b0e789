use Rattle.olr_log.proofs.Common.{rules, ◌≡◌, ◌+◌, ◌-◌, ◌≤◌, ◌<◌, ℕ, length, min, take, ◌∙◌, subst, sym, arith, IsBlank}
use Rattle.olr_log.proofs.Padding.{carriage_returns, KeepsFirst-trans, Torn-within, torn_keeps, blank_more, returns_at, returns_taken}
use Rattle.sqlite_disk.specs.Disk.{MoreFaults}
use Rattle.std.proofs.lemmas.Result.{err_from_is_err_and}
use Rattle.olr_log.proofs.writes.blank.Goals as goal

within_range : (from at n to size : ℕ) → size ≡ n → n ≡ min 65536 (to - at) → from ≤ at → at ≤ to → at + size ≤ from + (to - from)
within_range from at n to size same least low within = omega arith

pub loop-at-preserved : goal.loop-at-preserved
loop-at-preserved g c =
    let disk = g.D.Disk in
    let so_far = c.loop-at.invariant in
    let from = c.args.from in
    let at = c.loop-at.at in
    let n = c.min-n.result in
    let bytes = take n (carriage_returns 65536) in
    let high : n ≤ c.args.to - at = search rules in
    let within : n ≤ 65536 = search rules in
    let some : 0 < n = search rules in
    let size : length bytes ≡ n = returns_taken n 65536 within in
    let all = returns_at n 65536 within in
    let before = disk.seen c.loop-at.disk in
    let after = disk.seen c.write_at.new.self in
    let holds = c.in_ok-write_at.ensures.written (omega (arith, size, some)) in
    record {
      usable = c.write_at.ensures.usable;
      calm = c.write_at.ensures.calm ∙ so_far.calm;
      key = c.write_at.ensures.key ∙ so_far.key;
      steady = c.in_ok-write_at.ensures.faults ∙ so_far.steady;
      low = omega (arith, so_far.low);
      within = omega (arith, high, so_far.within);
      blank = λ _. subst (λ (m : ℕ). IsBlank from (at + m) after) size (blank_more from at bytes before after so_far.low so_far.blank all holds c.write_at.ensures.others);
      others = Torn-within from (c.args.to - from) at (length bytes) (disk.seen c.args.disk.now) before after so_far.low (within_range from at n c.args.to _ size c.min-n.ensures so_far.low so_far.within) so_far.others c.write_at.ensures.others;
      crash = λ text left.
          let step = c.write_at.ensures.crash text left in
          let start = so_far.crash step.0 step.1 in
          (start.0, start.1, KeepsFirst-trans from start.0 step.0 text start.2 (torn_keeps from at (length bytes) step.0 text so_far.low step.2));
    }

pub returns-in_err-write_at-clause-others : goal.returns-in_err-write_at-clause-others
returns-in_err-write_at-clause-others g c =
    let so_far = c.loop-at.invariant in
    let size = returns_taken c.min-n.result 65536 (search rules) in
    let fits = within_range c.args.from c.loop-at.at _ c.args.to _ size c.min-n.ensures so_far.low so_far.within in
    Torn-within c.args.from _ c.loop-at.at _ _ _ _ so_far.low fits so_far.others c.write_at.ensures.others

pub returns-in_err-write_at-clause-failed : goal.returns-in_err-write_at-clause-failed
returns-in_err-write_at-clause-failed g c =
    let p = err_from_is_err_and c.from_residual.result c.from_residual.ensures.1 in
    rw p.1 (subst (λ (n : ℕ). MoreFaults n (g.D.Disk.faults c.write_at.new.self)) c.loop-at.invariant.steady c.in_err-write_at.ensures.faults.0)

pub slice_bounds-write_at-end : goal.slice_bounds-write_at-end
slice_bounds-write_at-end g c = sym (returns_taken c.min-n.result 65536 (search rules))
