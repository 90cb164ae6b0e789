use Rattle.olr_log.proofs.Common.{◌≡◌, ◌-◌, ◌≤◌, ◌<◌, Torn, Follows, IsBlank, KeepsFirst}
use Rattle.std.proofs.Common.{IsTrue}
use Rattle.olr_log.proofs.writes.blank.Given as goal

-- what is ensured, of the range so far
abbrev pub invariant-loop-at : goal.invariant-loop-at
invariant-loop-at g l =
    let disk = g.D.Disk in
    record {
      usable : IsTrue (disk.is_usable l.disk);
      calm : disk.is_clean l.disk ≡ disk.is_clean l.fn.disk;
      key : disk.key_of l.disk ≡ disk.key_of l.fn.disk;
      steady : disk.faults l.disk ≡ disk.faults l.fn.disk;
      low : l.from ≤ l.at;
      within : l.at ≤ l.to;
      blank : l.from < l.at → IsBlank l.from l.at (disk.seen l.disk);
      others : Torn l.from (l.to - l.from) (disk.seen l.fn.disk) (disk.seen l.disk);
      crash : Follows (KeepsFirst l.from) (disk.may_leave l.fn.disk) (disk.may_leave l.disk);
    }

abbrev pub decreases-loop-at : goal.decreases-loop-at
decreases-loop-at g l = l.to - l.at
