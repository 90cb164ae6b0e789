use Rattle.olr_register.proofs.Common.{◌≡◌, true, take, list_all, is_name, items, all_named}
use Rattle.olr_register.proofs.dumps.are_recordable_names.Given as goal

abbrev pub invariant-loop-k : goal.invariant-loop-k
invariant-loop-k l = list_all (λ p. is_name p.name) (take l.k (all_named (items l.fn.paths))) ≡ true
