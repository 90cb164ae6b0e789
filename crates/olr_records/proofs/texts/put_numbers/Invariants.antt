use Rattle.olr_records.proofs.Common.{decimal, after_commas, ◌≡◌, ◌≤◌, ◌+◌, ◌++◌, drop, length, map, ◌*◌}
use Rattle.olr_records.proofs.texts.put_numbers.Given as goal

-- the numbers from index k on are written
abbrev pub invariant-loop-k : goal.invariant-loop-k
invariant-loop-k l = record {
  within : l.k ≤ length l.numbers;
  room : l.initial.start + 4 * l.k ≤ l.start + 4 * length l.numbers;
  before : l.start ≤ l.initial.start;
  written : drop l.start l.line ≡ after_commas (map decimal (drop l.k l.numbers))
      ++ drop l.initial.start l.initial.line;
  size : length l.line ≡ length l.initial.line;
}

abbrev pub decreases-loop-k : goal.decreases-loop-k
decreases-loop-k l = l.k
