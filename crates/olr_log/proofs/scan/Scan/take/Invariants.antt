use Rattle.olr_log.proofs.Common.{◌≡◌, ◌+◌, ℕ, List, ◌++◌, take, Scanned}
use Rattle.olr_log.proofs.scan.Scan.take.Given as goal

-- the bytes so far are taken
abbrev pub invariant-loop-byte : goal.invariant-loop-byte
invariant-loop-byte l = record {
  at : l.self.at ≡ l.fn.self.at + l.byte-index;
  text : (text : List ℕ) → Scanned l.fn.self text → Scanned l.self (text ++ take l.byte-index l.bytes);
}
