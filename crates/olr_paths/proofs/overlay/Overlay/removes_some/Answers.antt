use Rattle.olr_paths.proofs.Common.{◌∙◌, is_some, not, sym, values_of}
use Rattle.std.proofs.Common.{rules, tests}
use Rattle.std.proofs.lemmas.Iterator.Consumers.{YieldsList-from_rest}
use Rattle.std.proofs.lemmas.Iterator.Search.{any_from_yields_List}
use Rattle.olr_paths.proofs.Changed.{none_removed}
use Rattle.olr_paths.proofs.overlay.Overlay.removes_some.Goals as goal

pub returns : goal.returns
returns c = λ off.
    none_removed c.args.self.now.changes.entries
    (sym (any_from_yields_List (λ o. not (is_some o)) _ _ _ c.any.ensures.ran
    (YieldsList-from_rest (values_of c.args.self.now.changes.entries) c.values.ensures.rest) (λ x b q k. search (rules, tests))) ∙ off)
