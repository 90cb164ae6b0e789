use Rattle.olr_input.proofs.Common.{◌≡◌, ◌<◌, ◌-◌, ℕ, List, [], length, take, drop, rules, subst, sym, with_items_is, places}
use Rattle.olr_input.proofs.Common.{IsAtEnd, prepend_known}
use Rattle.std.specs.Vec.{with_items}
use Rattle.olr_input.proofs.BlockLemmas.{block_end}
use Rattle.olr_input.proofs.blocks.Blocks.fill.Goals as goal

pub returns-clause-end : goal.returns-clause-end
returns-clause-end g c =
    let n = c.in_ok-self.field-0 in
    let buf = c.read.new.buf in
    let some : 0 < length buf = search rules in
    let same : (with_items c.args.self.now.bytes buf).items ≡ buf =
    with_items_is c.args.self.now.bytes buf (search (rules, places)) in
    subst (λ (l : List ℕ). take (n - 0) (drop 0 l) ≡ []
    → IsAtEnd (prepend_known (take (n - 0) (drop 0 l)) (g.R.Read.remaining c.read.new.self)))
    (sym same)
    (block_end (g.R.Read.remaining c.read.new.self) buf n c.in_ok-self.ensures.bound.0 some c.in_ok-self.ensures.bytes.1)
