-- Changes of a register that is built, before any path is encoded.
use Rattle.olr_register.proofs.Common.{◌≡◌, ℕ, true, List, [], ◌∷◌, inl, inr, map, length, suc, Ok, Err, Result, refl, sym, ap}
use Rattle.olr_register.proofs.Common.{◌∙◌, subst, IsErrAnd, Change, Content, Make, with_change, CommandFault, Item, Map}
use Rattle.olr_register.proofs.Common.{Margin, MayReport, command_fault_of, content_on, without_answer, ChangeSet, IsContent}
use Rattle.olr_register.proofs.Common.{IsRenewal, Named, all_named, to_renew, changed_of, length-map, named_of, CountIs}
use Rattle.olr_register.proofs.Common.{raised_count, Renewed, IsAffected}
use Rattle.olr_commands.specs.Counts.{By_name}
use Rattle.olr_register.specs.Built.{Builds}
use Rattle.olr_register.proofs.Listed.{named_to_renew}
use Rattle.olr_register.proofs.Touched.{can_set}

pub built : {old new : Content} {x : Change} → with_change old x ≡ Ok new → Builds old (Make x) (Ok tt) new
built {old} {new} {x} e = record {
  made = λ y same. let one : x ≡ y = cc in subst (λ (z : Change). with_change old z ≡ Ok new) one e;
  refused = tt;
  unchanged = tt;
}

pub not_built : {old new : Content} {x : Change} {r : Result (Unit {0}) CommandFault} (f : CommandFault) → new ≡ old →
    IsErrAnd r (λ g. g ≡ f) → MayReport (with_change old x) (command_fault_of f) → Builds old (Make x) r new
not_built {r = Ok u} f same failed may = absurd failed
not_built {old = old} {x = x} {r = Err g} f same failed may = record {
  made = tt;
  refused = rw failed (λ y is. let one : x ≡ y = cc in
      subst (λ (z : Change). MayReport (with_change old z) (command_fault_of f)) one may);
  unchanged = same;
}

-- ---- the end, where each path is encoded

-- each counts
each_counts : (g : Margin) (M : Map) (ns xs : List ℕ) (is : List Item) (n : ℕ) →
    CountIs (IsAffected g M ns xs) (map without_answer is) n → n ≡ length is
each_counts g M ns xs [] n count = count
each_counts g M ns xs (i ∷ is) n (inl h) = h.1.2 ∙ ap suc (each_counts g M ns xs is h.1.0 h.1.1)
each_counts g M ns xs (i ∷ is) n (inr h) = absurd (h.0 (By_name refl))

module _ (g : Margin) (M : Map) (is js : List Item) (t : ChangeSet) (n : Renewed)
    (renewal : IsRenewal g M t is (to_renew true is) js n) where
  same_names : all_named js ≡ all_named is
  same_names = renewal.named ∙ named_to_renew true is

  pub same_content : content_on g M js ≡ content_on g M is
  same_content = ap (λ (ps : List Named). record { map = M; paths = ps; margin = g }) same_names

  pub each_encoded_once : IsContent (content_on g M is) → changed_of t ≡ [] →
      n.work.encodings ≡ raised_count 0 (length (all_named js))
  each_encoded_once sound idle =
      let count = renewal.counted M (can_set g g sound.margin M is t idle sound).before in
      count.2 ∙ ap (raised_count 0) (each_counts g M _ _ is count.0 count.1 ∙ sym (length-map is named_of)
      ∙ ap (λ (ps : List Named). length ps) (sym same_names))
