use Rattle.olr_register.proofs.Common.{[], sym, ◌∙◌, ◌≡◌, arith, length-map, is_name, Named, items, named_of, all_named}
use Rattle.olr_register.proofs.Common.{ap, unwrap_or, Option, List, ℕ, ◌<◌, Item, length}
use Rattle.olr_register.proofs.DumpTexts.{none_missing, one_fails, one_more}
use Rattle.olr_register.proofs.dumps.are_recordable_names.Goals as goal

no_path : Named
no_path = record { name = []; path = record { lines = []; pos = 0; neg = 0 } }

within : (is : List Item) (k : ℕ) {n : ℕ} → n ≡ length is → k < n → k < length (all_named is)
within is k all lt = omega (arith, all, lt, length-map is named_of)

pub unreachable-requires : goal.unreachable-requires
unreachable-requires c =
    let is = items c.args.paths.now in
    none_missing (all_named is) c.loop-k.k _ c.in_default.ensures
    (c.len-k-end.ensures.len ∙ sym (length-map is named_of)) c.loop-k-test.true

pub returns-then-not-is_name : goal.returns-then-not-is_name
returns-then-not-is_name c =
    let is = items c.args.paths.now in
    sym (one_fails (λ p. is_name p.name) (all_named is) c.loop-k.k no_path
    (within is c.loop-k.k c.len-k-end.ensures.len c.loop-k-test.true) (λ p at.
    let name : c.in-Some.name.now ≡ p.name = ap (λ (o : Option Named). (unwrap_or o no_path).name) (c.in-Some.ensures ∙ at) in
    rw (← name, ← c.as_bytes.ensures.value) c.if-not-is_name.ensures))

pub loop-k-preserved : goal.loop-k-preserved
loop-k-preserved c =
    let is = items c.args.paths.now in
    one_more (λ p. is_name p.name) (all_named is) c.loop-k.k no_path
    (within is c.loop-k.k c.len-k-end.ensures.len c.loop-k-test.true) (λ p at.
    let name : c.in-Some.name.now ≡ p.name = ap (λ (o : Option Named). (unwrap_or o no_path).name) (c.in-Some.ensures ∙ at) in
    rw (← name, ← c.as_bytes.ensures.value) c.if-not-is_name.ensures) c.loop-k.invariant
