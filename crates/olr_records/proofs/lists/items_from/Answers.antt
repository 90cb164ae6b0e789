use Rattle.olr_records.proofs.Common.{⊤, fields_of, Field, Read, Gathers, Reads, items, arith, refl, subst, drop, List, Ok, []}
use Rattle.std.proofs.lemmas.Fn.{says_at}
use Rattle.olr_records.proofs.LoopLemmas.{at, with, nothing-onto, items-more, at_end}
use Rattle.olr_records.proofs.lists.items_from.Goals as goal

pub loop-k-init : goal.loop-k-init
loop-k-init g c = λ one by. (Ok [], c.room-items.ensures, nothing-onto (items one (drop c.args.start (fields_of c.args.fields.now))))

pub loop-k-preserved : goal.loop-k-preserved
loop-k-preserved g c =
    λ one by.
    let fs = fields_of c.args.fields.now in
    let so_far = c.loop-k.invariant one by in
    let read = by c.field.result.now c.read.result (says_at g.F.Fn c.read.ensures refl) in (
      with so_far.0 (one (at fs c.loop-k.k)),
      c.with_item-items.ensures so_far.0 (one (at fs c.loop-k.k)) so_far.1
          (subst (λ (f : Field). Reads (λ t. t) (one f) c.read.result) c.field.ensures read),
      items-more fs c.loop-k.k one so_far.0 (items one (drop c.args.start fs)) (omega arith) so_far.2,
    )

pub returns : goal.returns
returns g c =
    λ one by.
    let fs = fields_of c.args.fields.now in
    let so_far = c.loop-k.invariant one by in
    subst (λ (x : Read (List _)). Gathers (λ _. ⊤) (λ v. v.items) x c.loop-k.items)
    (at_end fs c.loop-k.k (items one) so_far.0 (items one (drop c.args.start fs)) refl (omega arith) so_far.2) so_far.1
