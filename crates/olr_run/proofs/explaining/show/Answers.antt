-- The text was written, and could not be sent.
use Rattle.olr_run.proofs.Common.{◌≡◌, ◌∙◌, ℕ, List, [], ◌++◌, Option, None, Some, sym, rules, Appends-kept, append-nil, IfSome}
use Rattle.olr_run.proofs.Common.{written}
use Rattle.olr_run.proofs.explaining.show.Goals as goal

all_of : (text : Option (List ℕ)) (t : List ℕ) → IfSome text (λ x. t ≡ x) → IfSome text (λ x. x ≡ t ++ [])
all_of None t e = tt
all_of (Some x) t e = sym (append-nil t ∙ e)

pub returns-clause-shows : goal.returns-clause-shows
returns-clause-shows g c =
    let contents = g.W.Write.contents in
    let t = c.as_bytes.result.now in
    let text = g.D.Display.output c.args.shown.now in
    let is : IfSome text (λ x. t ≡ x) = search rules in (
      t,
      [],
      Appends-kept (written contents c.args.output.now) (written contents c.write_all.new.output)
          (written contents c.flush.new.self) t c.in_ok-write_all.ensures c.flush.ensures.bytes,
      all_of text t is,
    )
