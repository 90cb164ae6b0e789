use Rattle.olr_search.proofs.Common.{refl, arith, get_or_default_zero, label_of, Against}
use Rattle.olr_search.proofs.ReadLemmas.{found_at}
use Rattle.olr_search.proofs.WayLemmas.{entry_is, as_many}
use Rattle.olr_search.proofs.distances.Dijkstra.is_only_predecessor.Goals as goal

pub returns-then-label-within : goal.returns-then-label-within
returns-then-label-within c = λ M slot v lines ends.
    let e = entry_is M slot Against v _ _ lines ends c.loop-index.index c.loop-index-test.true in
    grind (arith, get_or_default_zero, label_of)

pub returns : goal.returns
returns c = λ M slot v lines ends. (
  λ h y known to le.
      let k = found_at M Against v c.args.lines.now y lines known to in
      let many = as_many M slot Against v c.args.lines.now c.args.ends.now lines ends in
      let e = entry_is M slot Against v _ _ lines ends k.0 (omega arith) in
      let is = c.loop-index.invariant k.0 (omega arith) in
      grind (arith, label_of),
  λ h. refl,
)
