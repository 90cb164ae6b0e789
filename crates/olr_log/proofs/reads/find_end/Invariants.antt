use Rattle.olr_log.proofs.Common.{◌≡◌, ◌+◌, ◌-◌, ◌≤◌, true, take, drop, OnlyReads, Scanned}
use Rattle.olr_log.proofs.reads.find_end.Given as goal

-- what is known of the bytes so far
abbrev pub invariant-loop-at : goal.invariant-loop-at
invariant-loop-at g l = record {
  reads : OnlyReads g.D.Disk l.fn.disk l.disk;
  at : l.scan.at + 1 ≡ l.at;
  within : l.at ≤ l.len;
  text : g.D.Disk.is_clean l.disk ≡ true → Scanned l.scan (take l.scan.at (drop 1 (g.D.Disk.seen l.fn.disk)));
}

abbrev pub decreases-loop-at : goal.decreases-loop-at
decreases-loop-at g l = l.len - l.at
