-- Answers, and the reasons why a path is not encodable, as those of the specification.
use Rattle.olr_spec.specs.Encoding as spec
use Rattle.olr_answers.specs.declared.answer.Answer.{Answer}
use Rattle.olr_answers.specs.declared.answer.Answer.TheVariants.{Points, Refused}
use Rattle.olr_answers.specs.declared.answer.Refusal.{Refusal}
use Rattle.olr_answers.specs.declared.answer.Refusal.TheVariants.{UnknownLine, Broken, OffsetTooLong, NoNextPoint}

abbrev pub refusal_of : Refusal → spec.Refusal
refusal_of (UnknownLine x) = spec.Unknown_line x
refusal_of (Broken k) = spec.Broken k
refusal_of OffsetTooLong = spec.Offset_too_long
refusal_of (NoNextPoint k) = spec.No_next_point k

abbrev pub answer_of : Answer → spec.Answer
answer_of (Points r) = spec.Points r
answer_of (Refused f) = spec.Refused (refusal_of f)
