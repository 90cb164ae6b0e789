-- The names that most proofs of olr_commands cite, passed on from one place. Declares nothing.
pub use Rattle.olr_commands.specs.RecordText.{after_commas, fields_of_attributes, fields_of_shape}
pub use Rattle.olr_spec.proofs.AnswerLemmas.{one_answer_with}
pub use Rattle.olr_spec.proofs.BytesLemmas.{one_decoding}
pub use Rattle.olr_spec.proofs.DecideLemmas.{some_answer_with}
pub use Rattle.olr_spec.proofs.EditLemmas.{edits_keep, got_other, got_same}
pub use Rattle.olr_spec.specs.Encoding.{Answer, EncodesWith, Refusal, Refused}
pub use Rattle.olr_spec.specs.Extension.{Path, is_path}
pub use Rattle.olr_spec.specs.Map.{IsMap, Line, Map, MapFault, ShapePoint, edited, is_good}
pub use Rattle.olr_spec.specs.Margins.{Margin, no_margin}
pub use Rattle.olr_spec.specs.Reference.{Reference}
pub use Rattle.std.proofs.lemmas.Bool.{both_ways, cases_Bool, cases_eq, leb-false, not-false}
pub use Rattle.std.specs.List.{AllByRecursion, concat, filter, join_with_byte, list_any}
pub use Rattle.std.specs.Prelude.{IfOk, IfSome, MatchOption, decimal, nat_le}
pub use Rattle.std.specs.Result.{result_unwrap_or}
pub use lib.Pointwise.{bytes_decides}
