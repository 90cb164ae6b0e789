use Rattle.std.proofs.Common.{◌≡◌, take, fold}
use Rattle.olr_model.specs.Hashing.{number_step}
use Rattle.olr_model.proofs.number_hash.NumberHasherHasher.write.Given as goal

abbrev pub invariant-loop-byte : goal.invariant-loop-byte
invariant-loop-byte l = l.number ≡ fold number_step l.fn.self.number (take l.byte-index l.bytes)
