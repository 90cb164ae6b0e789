use Rattle.olr_records.proofs.Common.{⊤, fields_of, Path, Field, amount, name, numbers, Gathers, rules, arith, ℕ, List, drop}
use Rattle.olr_records.proofs.Common.{subst, string_bytes, common_steps}
use Rattle.olr_records.proofs.LoopLemmas.{at}
use Rattle.olr_records.proofs.PartLemmas.{Part, of_field, made, joins, passed_on}
use Rattle.olr_records.proofs.FormLemmas.{path-fields}
use Rattle.olr_records.proofs.paths.path.Goals as goal

pub returns-in_err-name : goal.returns-in_err-name
returns-in_err-name c =
    let fs = fields_of c.args.fields.now in
    let whole : List ℕ → ℕ → ℕ → List ℕ → List ℕ × Path = λ n p q ls. (n, record { lines = ls; pos = p; neg = q }) in
    let named : Part (λ _. ⊤) string_bytes (name (at fs 1)) c.name.result =
    record { is = subst (λ (f : Field). Gathers (λ _. ⊤) string_bytes (name f) c.name.result) c.field.ensures c.name.ensures } in
    let pos = of_field amount (λ n. n) _ (at fs 2) c.amount.result c.field-2.ensures c.amount.ensures in
    let neg = of_field amount (λ n. n) _ (at fs 3) c.amount-2.result c.field-3.ensures c.amount-2.ensures in
    let lines : Part (λ _. ⊤) (λ v. v.items) (numbers (drop 4 fs)) c.line_ids.result = record { is = c.line_ids.ensures } in
    let started = joins (λ _. ⊤) c.both-started.ensures (made (λ _. ⊤) whole named (λ b h. tt)) pos (λ g b h. tt)
    (λ a b h. tt) in
    let offset = joins (λ _. ⊤) c.both-offset.ensures started neg (λ g b h. tt) (λ a b h. tt) in
    rw (path-fields fs (omega arith))
    (passed_on _ c.from_residual.result c.in_err-name.field-0.0 c.in_err-name.was (search rules)
    (joins (λ _. ⊤) c.both.ensures offset lines (λ g b h. tt) (λ a b h. tt)))

pub returns : goal.returns
returns c = grind (arith, common_steps)
