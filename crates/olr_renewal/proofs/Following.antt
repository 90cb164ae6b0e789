-- A list follows itself, since no name occurs twice.
use Rattle.olr_renewal.proofs.Common.{arith, if◌then◌else◌, option_map, not_named, all_named, named_of, is_some, refl, map}
use Rattle.olr_renewal.proofs.Common.{without_answer, Follows, Option, Answer, false, List, Results, Item, ◌∷◌, inr, ◌≡◌, inl}
use Rattle.olr_renewal.proofs.Common.{ap, [], NamesDiffer, path_named, flipped, results_in, Bool}
use lib.Pointwise.{bytes_decides}

abbrev pub answer_if_any : Option Results → Option Answer
answer_if_any o = option_map (λ m. m.answer) o

-- with one path more in front, whose name none of these has
follows_behind : (i : Item) (before js : List Item) → is_some (path_named (all_named js) i.name) ≡ false →
    Follows before js → Follows (i ∷ before) js
follows_behind i before [] h f = tt
follows_behind i before (j ∷ js) h f =
    let p = not_named (named_of j) (all_named js) i.name h in
    grind (arith, p, flipped j.name i.name p.0, f, follows_behind i before js p.1 f.1)

-- where no path is encoded yet
pub follows_without : (before is : List Item) → Follows before (map without_answer is)
follows_without before [] = tt
follows_without before (i ∷ is) = (inl refl, follows_without before is)

pub follows_self : (is : List Item) → NamesDiffer (all_named is) → Follows is is
follows_self [] d = tt
follows_self (i ∷ is) d = (
  inr (ap (λ (b : Bool). answer_if_any (if b then i.results else results_in is i.name)) ((bytes_decides i.name i.name).1 refl)),
  follows_behind i is is d.0 (follows_self is d.1),
)
