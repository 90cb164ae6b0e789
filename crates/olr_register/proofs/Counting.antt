-- How many paths the changes affect, counted by the stored results; none if there are no changes.
use Rattle.olr_register.proofs.Common.{Bool, false, IsFalse, to_renew, inl, inr, ◌≡◌, ℕ, true, List, [], ◌∷◌, map, Option}
use Rattle.olr_register.proofs.Common.{arith, None, refl, sym, ap, ◌∙◌, is_none, list_any, has, Named, Content, Change, Affects}
use Rattle.olr_register.proofs.Common.{By_name, By_node, By_line, all_nodes, all_lines, gives, Results, Item, Map, Margin}
use Rattle.olr_register.proofs.Common.{named_of, all_named, held_of, AreGiven, Work, without_answer, raised_count, raised_work}
use Rattle.olr_register.proofs.Common.{CountIs, IsAffected, NoneFalls}

no_results : (o : Option Results) → is_none o ≡ true → o ≡ None
no_results o e = grind arith

-- ---- the items of a list, and the paths of a content

abbrev Given : List Change → Item → Type 0
Given xs i = is_none i.results ≡ list_any (gives i.name) xs

module _ (changes : List Change) (P : Item → Type 0) (Q : Named → Type 0)
    (to : (i : Item) → Given changes i → P i → Q (named_of i))
    (back : (i : Item) → Given changes i → Q (named_of i) → P i) where
  count_named : (is : List Item) (n : ℕ) → AreGiven changes (map held_of is) → CountIs P is n → CountIs Q (all_named is) n
  count_named [] n given count = count
  count_named (i ∷ is) n given h = grind (arith, to i given.0, back i given.0, count_named is)

-- where no path is encoded yet, each is affected
pub counted_all : (g : Margin) (M : Map) (ns xs : List ℕ) (c : Content) (changes : List Change) (is : List Item) (n : ℕ) →
    CountIs (IsAffected g M ns xs) (map without_answer is) n → AreGiven changes (map held_of (map without_answer is)) →
    CountIs (Affects c changes) (all_named (map without_answer is)) n
counted_all g M ns xs c changes [] n count given = count
counted_all g M ns xs c changes (i ∷ is) n (inl h) given =
    inl (By_name (sym given.0), (h.1.0, counted_all g M ns xs c changes is h.1.0 h.1.1 given.1, h.1.2))
counted_all g M ns xs c changes (i ∷ is) n (inr h) given = absurd (h.0 (By_name refl))

module _ (c : Content) (changes : List Change) (ns xs : List ℕ)
    (same_nodes : (v : ℕ) → has ns v ≡ has (all_nodes c changes) v)
    (same_lines : (x : ℕ) → has xs x ≡ has (all_lines changes) x) where
  affects_to : (i : Item) → Given changes i → IsAffected c.margin c.map ns xs i → Affects c changes (named_of i)
  affects_to i given (By_name e) = By_name (sym given ∙ ap (λ (o : Option Results). is_none o) e)
  affects_to i given (By_node v h f) = By_node v (sym (same_nodes v) ∙ h) f
  affects_to i given (By_line x h f) = By_line x (sym (same_lines x) ∙ h) f

  affects_back : (i : Item) → Given changes i → Affects c changes (named_of i) → IsAffected c.margin c.map ns xs i
  affects_back i given (By_name h) = By_name (no_results i.results (given ∙ h))
  affects_back i given (By_node v h f) = By_node v (same_nodes v ∙ h) f
  affects_back i given (By_line x h f) = By_line x (same_lines x ∙ h) f

  pub counted_changes : (is : List Item) (n : ℕ) → CountIs (IsAffected c.margin c.map ns xs) is n →
      AreGiven changes (map held_of is) → CountIs (Affects c changes) (all_named is) n
  counted_changes is n count given = count_named changes _ _ affects_to affects_back is n given count

  -- if the margin was set, of all paths
  pub counted_held : (g : Margin) (all : Bool) → (IsFalse all → g ≡ c.margin) → (us : List Item) (n : ℕ) →
      CountIs (IsAffected g c.map ns xs) (to_renew all us) n → AreGiven changes (map held_of (to_renew all us)) →
      CountIs (Affects c changes) (all_named (to_renew all us)) n
  counted_held g true same us n count given = counted_all g c.map ns xs c changes us n count given
  counted_held g false same us n count given =
      let alike = rw (same refl) at count in counted_changes us n alike given

-- changes that affect no path
pub none_affected : (c : Content) (xs : List Change) → ((p : Named) → ¬ Affects c xs p) → (ps : List Named) →
    CountIs (Affects c xs) ps 0
none_affected c xs none [] = refl
none_affected c xs none (p ∷ ps) = inr (none p, none_affected c xs none ps)

-- ---- counts

-- n encodings more, and no count is less
pub record Rise (old new : Work) (n : ℕ) : Type 0 where
  pub encodings : new.encodings ≡ raised_count old.encodings n
  pub rises : NoneFalls old new

pub rise_none : (w : Work) → Rise w w 0
rise_none w = record {
  encodings = omega arith;
  rises = record { encodings = omega arith; searches = omega arith; settled = omega arith };
}

-- work that is added
pub rise_on : (old w : Work) (n : ℕ) → w.encodings ≡ raised_count 0 n → Rise old (raised_work old w) n
rise_on old w n h = record {
  encodings = omega (arith, h);
  rises = record { encodings = omega arith; searches = omega arith; settled = omega arith };
}
