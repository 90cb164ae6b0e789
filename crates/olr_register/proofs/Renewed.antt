-- After a renewal, the results of a list are right on the new map.
use Rattle.olr_register.proofs.Common.{◌≡◌, List, [], ◌∷◌, Option, Some, refl, sym, subst, IfSome, Map, Results, Item}
use Rattle.olr_register.proofs.Common.{IsEncodingOf, AreEncodings, AreEncodingsIfAny, Margin, AreReencoded}

abbrev EncodedOn : Margin → Map → Item → Type 0
EncodedOn g N j = (m : Results) × (j.results ≡ Some m) × IsEncodingOf g N j.path m

pub reencoded_encoded : (g : Margin) (N : Map) (is js : List Item) → AreReencoded g N is js → AreEncodings g N js
reencoded_encoded g N [] js r = subst (AreEncodings g N) (sym r) tt
reencoded_encoded g N (i ∷ is) [] r = absurd r
reencoded_encoded g N (i ∷ is) (j ∷ js) r = (subst (EncodedOn g N) (sym r.0.2) (r.0.0, refl, r.0.1), reencoded_encoded g N is js r.1)

pub encoded_if_any : (g : Margin) (M : Map) (is : List Item) → AreEncodings g M is → AreEncodingsIfAny g M is
encoded_if_any g M [] a = tt
encoded_if_any g M (i ∷ is) a =
    (subst (λ (o : Option Results). IfSome o (IsEncodingOf g M i.path)) (sym a.0.1) a.0.2, encoded_if_any g M is a.1)
