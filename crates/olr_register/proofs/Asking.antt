-- What the register shows of its paths.
use Rattle.olr_register.proofs.Common.{arith, subst, ◌≡◌, ◌≢◌, ℕ, false, List, [], ◌∷◌, map, length, Option, Some, None}
use Rattle.olr_register.proofs.Common.{refl, sym, ap, ◌∙◌, ◌==◌, option_map, option_and_then, MatchOption, IsSomeAnd, result_ok}
use Rattle.olr_register.proofs.Common.{ne_eqb, length-map, Map, Margin, Answer, EncodesWith, Path, Content, path_named}
use Rattle.olr_register.proofs.Common.{published_text, Results, Item, IsEncodingOf, AreEncodings, named_of, all_named, results_in}
use Rattle.olr_register.proofs.Common.{answer_in, content_on, is_some, items, accepted_map, IsStateRight, AreEncoded}
use Rattle.olr_register.proofs.Common.{HaveEncodings, Inside, Published, PublishedText}
use Rattle.olr_register.proofs.Replies.{results_found}

answer_found : (g : Margin) (M : Map) (p : Option Path) (o : Option Results) →
    MatchOption p (o ≡ None) (λ P. IsSomeAnd o (IsEncodingOf g M P)) →
    MatchOption p (option_map (λ (m : Results). m.answer) o ≡ None)
    (λ P. IsSomeAnd (option_map (λ (m : Results). m.answer) o) (λ A. EncodesWith g M P A))
answer_found g M p o h = grind arith

-- of a register with this content
pub answer_published : (g : Margin) (M : Map) (is : List Item) (c : Content) (name : List ℕ) (o : Option Answer) →
    content_on g M is ≡ c → AreEncodings g M is → o ≡ answer_in is name → Published c name o
answer_published g M is c name o e encoded there =
    subst (λ (d : Content). Published d name o) e
    (subst (Published (content_on g M is) name) (sym there) (answer_found g M (path_named (all_named is) name) _
    (results_found g M is name encoded)))

-- the stored text is that of the answer
pub text_published : (g : Margin) (M : Map) (is : List Item) (c : Content) (name : List ℕ) (text : Option (List ℕ))
    (o : Option Results) → content_on g M is ≡ c → AreEncodings g M is → o ≡ results_in is name
    → text ≡ option_and_then (λ (A : Answer). result_ok (published_text A)) (option_map (λ (m : Results). m.answer) o) →
    PublishedText c name text
text_published g M is c name text o e encoded of there =
    (_, answer_published g M is c name _ e encoded (ap (option_map (λ (m : Results). m.answer)) of), there)

-- ---- if every path was encoded

pub found_if_there : (g : Margin) (M : Map) (is : List Item) (name : List ℕ) → AreEncodings g M is →
    is_some (path_named (all_named is) name) ≡ is_some (results_in is name)
found_if_there g M is name encoded =
    by (path_named (all_named is) name) (results_in is name) (results_found g M is name encoded) where
      by : (p : Option Path) (o : Option Results) → MatchOption p (o ≡ None) (λ P. IsSomeAnd o (IsEncodingOf g M P)) →
          is_some p ≡ is_some o
      by None o none = sym (ap (λ (q : Option Results). is_some q) none)
      by (Some P) None h = absurd h
      by (Some P) (Some m) h = refl

-- of a list with paths
pub some_named : (is : List Item) → length is ≢ 0 → (length (all_named is) == 0) ≡ false
some_named is h = ne_eqb (length (all_named is)) 0 (λ e. h (sym (length-map is named_of) ∙ e))

all_encoded : (g : Margin) (M : Map) (is : List Item) → AreEncodings g M is → AreEncoded is
all_encoded g M [] encoded = tt
all_encoded g M (i ∷ is) encoded = (
  (λ none. grind (arith, encoded.0.1, none)),
  all_encoded g M is encoded.1,
)

pub right_encoded : (r : Inside) → IsStateRight r.margin r.roads (items r.paths) r.batch r.searches.bounds → AreEncoded (items r.paths)
right_encoded r right = all_encoded r.margin (accepted_map r.roads r.batch) (items r.paths) right.register.encoded

pub all_published : (g : Margin) (M : Map) (is : List Item) → AreEncodings g M is →
    HaveEncodings g M (all_named is) (map {B = List ℕ × Option Results} (λ (i : Item). (i.name, i.results)) is)
all_published g M [] encoded = refl
all_published g M (i ∷ is) encoded =
    let rest : List (List ℕ × Option Results) = map (λ (j : Item). (j.name, j.results)) is in
    let with_results : Option Results → List (List ℕ × Option Results) = λ o. (i.name, o) ∷ rest in
    (encoded.0.0, rest, encoded.0.2, all_published g M is encoded.1, ap with_results encoded.0.1)
