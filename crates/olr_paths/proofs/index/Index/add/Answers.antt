use Rattle.olr_paths.proofs.Common.{arith, ◌≡◌, ◌∙◌, ap, nat_eq, [], ℕ, Option, get, unwrap_or, IsStrictlyIncreasing, items_of}
use Rattle.smallvec.specs.SmallVec.{SmallVec}
use Rattle.olr_paths.proofs.index.Index.add.Goals as goal

-- the list of a number, or an empty one
ascends : (o : Option (SmallVec ℕ)) (empty v : SmallVec ℕ) → empty.items ≡ [] → v ≡ unwrap_or o empty →
    IsStrictlyIncreasing (items_of o) → IsStrictlyIncreasing v.items
ascends o empty v none is h = grind arith

pub put-requires : goal.put-requires
put-requires c =
    ascends (get nat_eq c.args.self.now.path_ids c.args.number) c.new.result _ c.new.ensures.items
    (c.or_insert-path_ids.ensures.value
    ∙ ap (λ (o : Option (SmallVec ℕ)). unwrap_or o c.new.result) c.in_ok-self.ensures.value)
    (c.args.self.now.ascend c.args.number)
