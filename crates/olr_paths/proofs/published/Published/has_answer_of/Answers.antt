use Rattle.olr_paths.proofs.Common.{ap, sym, ◌∙◌, subst, result_ok, IsReference, published_text}
use Rattle.olr_answers.specs.Answers.{answer_of}
use Rattle.olr_paths.proofs.EntryLists.{decided}
use Rattle.olr_paths.proofs.published.Published.has_answer_of.Goals as goal

pub returns-in-Points-Points : goal.returns-in-Points-Points
returns-in-Points-Points c =
    let one = c.in-Points-Points.one in
    let another = c.in-Points-Points.another in
    let first : IsReference one = subst IsReference c.one.view_is c.one.invariant in
    let second : IsReference another = subst IsReference c.another.view_is c.another.invariant in
    let left = ap answer_of c.in-Points-Points.is-0 in
    let right = ap answer_of c.in-Points-Points.is-1 in
    let both = decided one another c.text.result c.text-in-Points-Points.result first second
    (c.text.ensures ∙ ap (λ a. result_ok (published_text a)) left)
    (c.text-in-Points-Points.ensures ∙ ap (λ a. result_ok (published_text a)) right) c.eq.result c.eq.ensures in
    ((λ e. left ∙ both.0 e ∙ sym right), (λ e. both.1 (sym left ∙ e ∙ right)))
