-- The ambiguities of the strings of a register's paths, path by path.
use Rattle.olr_register.proofs.Common.{◌≡◌, ◌∷◌, map, sym, ap, ◌∙◌, take, ◌+◌, Map, Path, Item, Results, All}
use Rattle.olr_register.proofs.Common.{ℕ, ◌++◌, Some, refl, subst, Margin, Named, Option, IsMap, is_path, length, named, IsTrue}
use Rattle.olr_register.proofs.Common.{List, all_named, named_of, Ambiguity, answer_of, has_line, Reference, Obstacle, known_in}
use Rattle.olr_register.proofs.Common.{[], append_assoc, AreEncodings, IsEncodingOf, take_more_at, NamedObstacle, slice_get-map}
use Rattle.olr_register.proofs.Common.{arith, length-map, take_all, append-nil, slice_get}
use Rattle.olr_register.proofs.Common.{option_map, AreKnownWith, obstacles_of, Ambiguities, at_position}
use Rattle.std.specs.Prelude.{◌≤◌}
use Rattle.olr_answers.specs.declared.answer.Answer.TheVariants.{Points}
use Rattle.olr_refs.specs.declared.encoding.Encoding.{Encoding}
use Rattle.olr_refs.specs.Referring.{IsEncoding}
use Rattle.olr_refs.proofs.OwnLines.{own_known, own_many}
use Rattle.olr_spec.specs.Receiver.{last_number}

-- ---- of one path

module _ (g : Margin) (M : Map) (P : Path) (e : Encoding) (h : IsEncoding g M P e) where
  -- what was found, with the path's name
  pub is_ambiguity : (name : List ℕ) (os : List (ℕ × Obstacle)) → os ≡ obstacles_of M (answer_of e.answer) e.own.items →
      Ambiguity g M (record { name = name; path = P }) (map (named name) os)
  is_ambiguity name os is = (answer_of e.answer, e.own.items, h.answer, h.own, ap (map (named name)) is)

  -- its own lines are on the map, one more than the number of the last LRP
  pub own_lines : IsMap M → IsTrue (is_path P.lines) → (r : Reference) → e.answer ≡ Points r →
      All (λ x. IsTrue (has_line M x)) e.own.items × (length e.own.items ≡ last_number r + 1)
  own_lines m is r points =
      let answer = rw points at h.answer in
      let own = rw points at h.own in
      (own_known g M m P is r answer e.own.items own, own_many g M m P is r answer e.own.items own)

-- ---- path by path

-- with one path more
pub ambiguities_more : (g : Margin) (M : Map) (ps : List Named) (p : Named) (es own : List NamedObstacle) → Ambiguities g M ps es →
    Ambiguity g M p own → Ambiguities g M (ps ++ p ∷ []) (es ++ own)
ambiguities_more g M [] p es own a o =
    (own, [], o, refl, ap (λ (xs : List NamedObstacle). xs ++ own) a ∙ sym (append-nil own))
ambiguities_more g M (q ∷ ps) p es own a o =
    let rest = ambiguities_more g M ps p a.1 own a.3 o in
    (a.0, a.1 ++ own, a.2, rest, ap (λ (xs : List NamedObstacle). xs ++ own) a.4 ∙ append_assoc a.0 a.1 own)

module _ (g : Margin) (M : Map) (is : List Item) (k : ℕ) (i : Item) (at : slice_get is k ≡ Some i) where
  named_at : slice_get (all_named is) k ≡ Some (named_of i)
  named_at = slice_get-map named_of is k ∙ ap (λ o. option_map named_of o) at

  pub ambiguities_next : (es own : List NamedObstacle) → Ambiguities g M (take k (all_named is)) es →
      Ambiguity g M (named_of i) own → Ambiguities g M (take (k + 1) (all_named is)) (es ++ own)
  ambiguities_next es own a o =
      subst (λ (ps : List Named). Ambiguities g M ps (es ++ own)) (sym (take_more_at (all_named is) k (named_of i) named_at))
      (ambiguities_more g M (take k (all_named is)) (named_of i) es own a o)

-- after the last
pub ambiguities_all : (g : Margin) (M : Map) (is : List Item) (es : List NamedObstacle) (k n : ℕ) → n ≡ length is → n ≤ k →
    Ambiguities g M (take k (all_named is)) es → Ambiguities g M (all_named is) es
ambiguities_all g M is es k n all past a =
    subst (λ (ps : List Named). Ambiguities g M ps es)
    (take_all k (all_named is) (omega (arith, all, past, length-map is named_of))) a

-- ---- what is known of a path

pub known_at : (g : Margin) (M : Map) (is : List Item) (k : ℕ) (i : Item) → AreEncodings g M is → slice_get is k ≡ Some i →
    AreKnownWith g M i.path.lines (known_in i.results)
known_at g M is k i a at =
    let P : Item → Type 0 = λ x. (m : Results) × (x.results ≡ Some m) × IsEncodingOf g M x.path m in
    let e = at_position (AreEncodings g M) P (λ x is h. h) is k i a at in
    subst (λ (o : Option Results). AreKnownWith g M i.path.lines (known_in o)) (sym e.1)
    (λ j d lt. (e.2.known j d lt).right)
