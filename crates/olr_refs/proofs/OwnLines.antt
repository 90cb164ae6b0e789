-- A path's own lines at its LRPs are on the map, one for each LRP of its reference.
use Rattle.olr_refs.proofs.Common.{◌≡◌, ◌<◌, ◌≤◌, ◌-◌, ◌+◌, ℕ, suc, [], ◌∷◌, sym, ap, ◌∙◌, map, Map, Path, Each, legs, All}
use Rattle.olr_refs.proofs.Common.{List, ◌++◌, length, take, refl, arith, None, IsTrue, IsMap, Margin, All-nil, Points, Known}
use Rattle.olr_refs.proofs.Common.{subst, is_path, LinkedWith, Reference, path_fault, All-cons, own_lines, by_answer, same_path}
use Rattle.olr_refs.proofs.Common.{slice_index, has_index, EncodesWith, kept_points, extended_sound, EncodingWith, OwnLinesWith}
use native.Mathlib.Numerals.{unary_clauses}
use Rattle.olr_spec.specs.Receiver.{last_number}
use Rattle.olr_spec.proofs.ReceiverLemmas.{Lines, Points_kept, formed, size}

-- ---- along an extended path

-- all but the last leave their LRP
pub own_by : (ls ks : List ℕ) → 0 < length ks → own_lines ls ks ≡ map (slice_index ls) (take (length ks - 1) ks)
    ++ slice_index ls (slice_index ks (length ks - 1) - 1) ∷ []
own_by ls [] some = absurd (omega arith)
own_by ls (i ∷ []) some = refl
own_by ls (i ∷ j ∷ ks) some =
    simp unary_clauses (ap (λ (xs : List ℕ). slice_index ls i ∷ xs) (simp unary_clauses at (own_by ls (j ∷ ks) (omega arith))))

own_count : (ls ks : List ℕ) → length (own_lines ls ks) ≡ length ks
own_count ls [] = refl
own_count ls (i ∷ []) = refl
own_count ls (i ∷ j ∷ ks) = ap suc (own_count ls (j ∷ ks))

-- from an LRP on that follows another one, or is followed by one
known_from : (g : Margin) (M : Map) (ls : List ℕ) → Each (Known M) ls → (i : ℕ) (ks : List ℕ) → 0 < i + length ks →
    i ≤ length ls → LinkedWith g M ls (i ∷ ks) → All (Known M) (own_lines ls (i ∷ ks))
known_from g M ls known i [] some upto l =
    All-cons (Known M) _ [] (known _ (has_index ls (i - 1) (omega arith))) (All-nil (Known M))
known_from g M ls known i (j ∷ ks) some upto l = All-cons (Known M) _ _
    (known _ (has_index ls i (omega (arith, l.0.after, l.0.upto))))
    (known_from g M ls known j ks (omega (arith, l.0.after)) l.0.upto l.1)

-- ---- of a path

module _ (g : Margin) (M : Map) (m : IsMap M) (P : Path) (is : IsTrue (is_path P.lines)) (r : Reference) (e : EncodesWith g M P (Points r))
    (xs : List ℕ) (own : OwnLinesWith g M P xs) where
  own_same : (none : path_fault M P ≡ None) (p : EncodingWith g M P (Points r)) →
      xs ≡ own_lines (Lines M m P is none r p) (Points_kept M m P is none r p)
  own_same none p =
      same_path M m P is none r p (λ E js. xs ≡ own_lines E.lines (kept_points (legs M E.lines) E.pos E.neg js)) own

  pub own_known : All (Known M) xs
  own_known =
      let a = by_answer M P r e in
      let f = formed M m P is a.0 r a.1 in
      subst (All (Known M)) (sym (own_same a.0 a.1 ∙ ap (own_lines (Lines M m P is a.0 r a.1)) f.kept))
      (known_from g M _ (extended_sound M P is a.0 a.1.before a.1.after a.1.tried).known f.h (f.i ∷ f.js) (omega arith)
      (omega (arith, f.linked.0.after, f.linked.0.upto)) f.linked)

  pub own_many : length xs ≡ last_number r + 1
  own_many =
      let a = by_answer M P r e in
      ap (λ (ys : List ℕ). length ys) (own_same a.0 a.1) ∙ own_count _ (Points_kept M m P is a.0 r a.1)
      ∙ sym (size M m P is a.0 r a.1)
