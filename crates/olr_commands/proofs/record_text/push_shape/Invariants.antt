use Rattle.olr_commands.proofs.Common.{after_commas, fields_of_shape}
use Rattle.std.proofs.Common.{◌≡◌, ◌++◌, take}
use Rattle.olr_commands.proofs.record_text.push_shape.Given as goal

abbrev pub invariant-loop-point : goal.invariant-loop-point
invariant-loop-point l =
    l.text.items ≡ l.initial.text.items ++ after_commas (fields_of_shape (take l.point-index l.shape))
