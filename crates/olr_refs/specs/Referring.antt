-- What is known of an encoding with a margin beside its answer: the routes that join, what decoders recover from the
-- reference, and its coverage queries.
--     JoinsOf g M P A      if the answer has LRPs, this holds for its reference
--     RecoveredOf g M P A      if the answer has LRPs, every decoder for which each LRP's own line is distinct recovers the
--         legs between them
--     SearchesOf g M P n      the path has n coverage queries
--     OwnLinesAlong M E js A xs      xs are the own lines of the extended path E at the LRPs of its answer; none if it has
--         no reference
--     AnsweredAlong g M E js A xs      A is the answer of the extended path by these LRPs, and xs are these lines
--     IsEncoding g M P e      e is the encoding of the path: its answer, the own lines at its LRPs, the traversed nodes and the
--         coverage queries
use Rattle.std.specs.Prelude.{◌≡◌, ℕ, ◌↔◌, List, [], ◌∷◌, Contains, MatchOption, ⊤}
use Rattle.olr_spec.specs.Margins.{Margin}
use Rattle.olr_spec.specs.Map.{Map}
use Rattle.olr_spec.specs.Extension.{Path}
use Rattle.olr_spec.specs.Points.{OfPathWith}
use Rattle.olr_spec.specs.Encoding.{path_fault, answer_by_points_with, EncodesWith}
use Rattle.olr_spec.specs.Encoding as spec
use Rattle.olr_spec.specs.Reference.{legs, kept_points}
use Rattle.olr_spec.specs.Recovery.{DistinctWith, IsStretchesWith, own_lines, OwnLinesOfWith}
use Rattle.olr_spec.specs.Joins.{JoinedWith}
use Rattle.olr_spec.specs.Receiver.{Receiver, Recovers}
use Rattle.olr_spec.specs.Queries.{TraversedOf, QueriesOfWith, KnownOfWith}
use Rattle.olr_answers.specs.Answers.{answer_of}
use Rattle.olr_answers.specs.declared.answer.Answer.{Answer}
use Rattle.olr_answers.specs.declared.answer.Answer.TheVariants.{Points, Refused}
use Rattle.olr_refs.specs.Choice.{searches_of}
use Rattle.olr_refs.specs.declared.encoding.Encoding.{Encoding}

abbrev pub JoinsOf : Margin → Map → Path → Answer → Type 0
JoinsOf g M P (Refused f) = ⊤
JoinsOf g M P (Points r) = JoinedWith g M P r

abbrev pub RecoveredOf : Margin → Map → Path → Answer → Type 0
RecoveredOf g M P (Refused f) = ⊤
RecoveredOf g M P (Points r) =
    (R : Receiver) → DistinctWith g R.far M P r → (ws : List (List ℕ)) → Recovers R M r ws ↔ IsStretchesWith g M P ws

abbrev pub SearchesOf : Margin → Map → Path → ℕ → Type 0
SearchesOf g M P n = MatchOption (path_fault M P) (OfPathWith g M P (λ E _ _ js. n ≡ searches_of E.lines (0 ∷ js))) (λ _. n ≡ 0)

abbrev pub OwnLinesAlong : Map → Path → List ℕ → spec.Answer → List ℕ → Type 0
OwnLinesAlong M E js (spec.Points r) xs = xs ≡ own_lines E.lines (kept_points (legs M E.lines) E.pos E.neg js)
OwnLinesAlong M E js (spec.Refused refusal) xs = xs ≡ []

pub record AnsweredAlong (g : Margin) (M : Map) (E : Path) (js : List ℕ) (A : spec.Answer) (xs : List ℕ) : Type 0 where
  pub answer : A ≡ answer_by_points_with g M E js
  pub own : OwnLinesAlong M E js A xs

pub record IsEncoding (g : Margin) (M : Map) (P : Path) (e : Encoding) : Type 0 where
  pub answer : EncodesWith g M P (answer_of e.answer)
  pub joins : JoinsOf g M P e.answer
  pub own : OwnLinesOfWith g M P (answer_of e.answer) e.own.items
  pub traversed : (v : ℕ) → Contains e.traversed v ↔ TraversedOf M P v
  pub queries : QueriesOfWith g M P e.queries.items
  pub known : KnownOfWith g M P.lines e.queries.items e.known.items
