-- The paths that depend on nodes, in terms of the definitions of commands.
use Rattle.olr_register.proofs.Common.{sym, inl, inr, ◌≡◌, ℕ, List, [], ◌∷◌, Some, ap, ◌∙◌, Map, Item, AreEncodings, all_named}
use Rattle.olr_register.proofs.Common.{content_on, ChangeSet, Margin, nodes_of, lines_of, Picks, Results, IsAround, IsAffected}
use Rattle.olr_commands.specs.Counts.{By_name, By_node, By_line}
use Rattle.olr_renewal.specs.Changes.{AffectedNames}
use Rattle.olr_commands.specs.Dependents.{DependsOn, Dependents, On_node, On_line}
use Rattle.olr_register.proofs.Listed.{names_of_all}

-- they are those that an edit around the nodes would affect

module _ (g : Margin) (M : Map) (vs : List ℕ) (t : ChangeSet) (around : IsAround M vs t) where
  abbrev Affected : Item → Type 0
  Affected = IsAffected g M (nodes_of t) (lines_of t)

  depends : (i : Item) (m : Results) → i.results ≡ Some m → Affected i → DependsOn g M vs i.path
  depends i m encoded (By_name none) = let never : ⊥ = cc in absurd never
  depends i m encoded (By_node v on foot) = On_node v ((around.nodes v).0 on) foot
  depends i m encoded (By_line x on own) = let l = (around.lines x).0 on in On_line x l.0 l.1 own

  affected : (i : Item) → DependsOn g M vs i.path → Affected i
  affected i (On_node v on foot) = By_node v ((around.nodes v).1 on) foot
  affected i (On_line x there at own) = By_line x ((around.lines x).1 (there, at)) own

  picked : (is js : List Item) → AreEncodings g M is → Picks Affected is js →
      Picks (λ p. DependsOn g M vs p.path) (all_named is) (all_named js)
  picked [] js a h = ap (λ (ks : List Item). all_named ks) h
  picked (i ∷ is) js a (inl h) =
      inl (depends i a.0.0 a.0.1 h.0, (all_named h.1.0, picked is h.1.0 a.1 h.1.1, ap (λ (ks : List Item). all_named ks) h.1.2))
  picked (i ∷ is) js a (inr h) = inr ((λ d. h.0 (affected i d)), picked is js a.1 h.1)

  pub dependents : (is : List Item) (names : List (List ℕ)) → AreEncodings g M is →
      AffectedNames g M (nodes_of t) (lines_of t) is names → Dependents (content_on g M is) vs names
  dependents is names a h = (all_named h.0, picked is h.0 a h.1, h.2 ∙ sym (names_of_all h.0))
