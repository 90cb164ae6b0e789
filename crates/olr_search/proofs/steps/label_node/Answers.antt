use Rattle.olr_search.proofs.Common.{IsRelaxed, arith, on_ok_weaker}
use Rattle.olr_search.proofs.SearchLemmas.{put_ahead, put_cases, put_labelled, put_moves}
use Rattle.olr_search.proofs.steps.label_node.Goals as goal

pub returns-then-admits : goal.returns-then-admits
returns-then-admits g c =
    let f = c.args.frontier.now in
    let h = c.relax.new.self in
    let p = c.args.slot in
    let d = c.args.length in
    let relaxed = c.relax.ensures in
    record {
      moves = on_ok_weaker c.relax.result (λ k. put_moves f h p d k) relaxed;
      labelled = on_ok_weaker c.relax.result
          (λ (k : IsRelaxed f h p d) N node_slot way from v. put_labelled N node_slot way from f h v p d k) relaxed;
      low = on_ok_weaker c.relax.result (λ (k : IsRelaxed f h p d) u. let here = k.here in omega arith) relaxed;
      only = on_ok_weaker c.relax.result (λ k. put_cases f h p d k) relaxed;
      ahead = on_ok_weaker c.relax.result (λ k. put_ahead f h p d k) relaxed;
    }
