-- The encoding of a path, by its extension, its LRPs, its coverage queries and its reference.
use Rattle.olr_refs.proofs.Common.{◌≡◌, ◌<◌, ◌+◌, ℕ, List, [], ◌∷◌, length, Option, Some, None, MatchOption, Contains, ap, ◌∙◌}
use Rattle.olr_refs.proofs.Common.{arith, inl, inr, eq-eqb, IsTrue, Map, IsMap, dm_of, Path, is_path, extended_path, AreJoined}
use Rattle.olr_refs.proofs.Common.{last_position, Reference, legs, reference_with, path_fault, CoverageQuery, QueriesOfWith}
use Rattle.olr_refs.proofs.Common.{path_nonempty, all_first, all_last, path_also, Extends, later, joined_with, answer_of, Tried}
use Rattle.olr_refs.proofs.Common.{OfPathWith, EncodingWith, EncodesWith, Traversed, TraversedOfExtended, QueriesOfExtendedWith}
use Rattle.olr_refs.proofs.Common.{sound_lines, one_tried, extended_sound, ForPoints, searches_of, ◌↔◌, kept_points, own_lines}
use Rattle.olr_refs.proofs.Common.{OwnLinesOfWith, recovered_with, Margin}
use Rattle.olr_answers.specs.declared.answer.Answer.{Answer}
use Rattle.olr_answers.specs.declared.answer.Answer.TheVariants.{Points, Refused}
use Rattle.std.proofs.lemmas.Slice.Zip.{AllZip-long}
use Rattle.std.proofs.lemmas.List.Sums.{length-filter}
use Rattle.olr_refs.specs.Referring.{JoinsOf, AnsweredAlong, RecoveredOf, SearchesOf}
use Rattle.olr_spec.proofs.JoinedLemmas.{extended_joined}
use Rattle.olr_spec.specs.Encoding as spec
use Rattle.olr_answers.specs.Answers as answers

-- ---- a path for which none of reasons 1 to 3 holds

pub whole_joined : (M : Map) (P E : Path) (lead : ℕ) (F G : List ℕ) → IsTrue (is_path P.lines) → path_fault M P ≡ None →
    Extends M P E lead F G → AreJoined M E.lines
whole_joined M P E lead F G is none x = grind (arith, extended_joined)

pub whole_short : (M : Map) (P E : Path) (lead : ℕ) (F G : List ℕ) → IsTrue (is_path P.lines) → path_fault M P ≡ None →
    Extends M P E lead F G → E.pos + E.neg < dm_of M E.lines
whole_short M P E lead F G is none x = grind (arith, extended_sound)

-- ---- the answer

-- the LRPs lead to the end, and this is their reference, with the lines at them
pub points_answer : (g : Margin) (M : Map) (E : Path) (ls ps : List ℕ) (r : Reference) (xs : List ℕ) → ls ≡ E.lines →
    ForPoints g M ls (λ js. (last_position 0 js ≡ length ls) × (ps ≡ 0 ∷ js))
    → r ≡ reference_with g (legs M E.lines) E.pos E.neg (later ps) →
    xs ≡ own_lines E.lines (kept_points (legs M E.lines) E.pos E.neg (later ps)) →
    ForPoints g M E.lines (λ js. AnsweredAlong g M E js (spec.Points r) xs)
points_answer g M E ls ps r xs e c a o = grind (arith, eq-eqb)

-- what holds for the extension and its LRPs, whatever the tried runs
pub of_path : (g : Margin) (M : Map) (P E : Path) (lead : ℕ) (F G : List ℕ) (Q : Path → List ℕ → List ℕ → List ℕ → Type 0) →
    (x : Extends M P E lead F G) → ForPoints g M E.lines (Q E x.before x.after) → OfPathWith g M P Q
of_path g M P E lead F G Q x a = grind arith

pub own_of : (g : Margin) (M : Map) (P E : Path) (lead : ℕ) (F G : List ℕ) (A : spec.Answer) (xs : List ℕ) →
    Extends M P E lead F G →
    ForPoints g M E.lines (λ js. AnsweredAlong g M E js A xs) → OwnLinesOfWith g M P A xs
own_of g M P E lead F G (spec.Points r) xs x a =
    of_path g M P E lead F G (λ e _ _ js. xs ≡ own_lines e.lines (kept_points (legs M e.lines) e.pos e.neg js)) x
    (a.0, a.1, a.2.own)
own_of g M P E lead F G (spec.Refused refusal) xs x a = a.2.own

-- ---- the routes

pub joins_of : (g : Margin) (M : Map) → IsMap M → (P : Path) (A : Answer) → path_fault M P ≡ None → EncodingWith g M P (answers.answer_of A) →
    JoinsOf g M P A
joins_of g M m P (Refused f) none p = tt
joins_of g M m P (Points r) none p = joined_with g M (inr m) P r none p

-- ---- the traversed nodes, and the coverage queries

-- the traversed nodes are those that were recorded
one_traversed : (M : Map) → IsMap M → (P : Path) → IsTrue (is_path P.lines) → path_fault M P ≡ None → (b a : List ℕ) →
    Tried M P b a → (v : ℕ) → TraversedOfExtended M P v → Traversed M (extended_path M P b a).lines b a v
one_traversed M m P is none b a t v traversed =
    let n = path_nonempty P.lines is in
    let known = sound_lines M P none in
    let runs =
    one_tried M m P n (all_first _ P.lines n known) (all_last _ P.lines n known) traversed.before traversed.after b a
    traversed.tried t in
    rw (← runs.0, ← runs.1) traversed.traversed

pub traversed_of : (M : Map) → IsMap M → (P E : Path) (lead : ℕ) (F G : List ℕ) → IsTrue (is_path P.lines) → path_fault M P ≡ None
    →
    F ≡ [] → Extends M P E lead F G → (v : ℕ) → Contains G v ↔ TraversedOfExtended M P v
traversed_of M m P E lead F G is none empty x v =
    let none_before : Contains F v → ⊥ = λ c. grind arith in (
      λ c. elim ((x.noted v).0 c) [
        | inl f ↦ absurd (none_before f)
        | inr n ↦ record { before = x.before; after = x.after; tried = x.tried; traversed = rw x.path at n }
      ],
      λ t. (x.noted v).1 (inr (rw x.path (one_traversed M m P is none x.before x.after x.tried v t))),
    )

-- ---- counts

-- there is one search for each coverage query
pub searches_queried : (g : Margin) (M : Map) (P : Path) (queries : List CoverageQuery) → QueriesOfWith g M P queries →
    SearchesOf g M P (length queries)
searches_queried g M P queries o = by (path_fault M P) o
  where
    by : (f : Option spec.Refusal) → MatchOption f (QueriesOfExtendedWith g M P queries) (λ _. queries ≡ []) →
        MatchOption f (OfPathWith g M P (λ E _ _ js. length queries ≡ searches_of E.lines (0 ∷ js))) (λ _. length queries ≡ 0)
    by None l = path_also l (AllZip-long _ _ queries l.holds ∙ length-filter _ (0 ∷ l.points))
    by (Some f) e = ap length e

pub recovered_of : (g : Margin) (M : Map) → IsMap M → (P : Path) → IsTrue (is_path P.lines) → (A : Answer) →
    EncodesWith g M P (answer_of A) → RecoveredOf g M P A
recovered_of g M m P is (Refused f) e = tt
recovered_of g M m P is (Points r) e = λ R d ws. recovered_with g R M m P is r e d ws
