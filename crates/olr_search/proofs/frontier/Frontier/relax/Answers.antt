use Rattle.olr_search.proofs.Common.{refl, arith}
use Rattle.olr_search.proofs.NoteLemmas.{noted_more, noted_put, read_label, low_put}
use Rattle.olr_search.proofs.SearchLemmas.{put_by}
use Rattle.olr_search.proofs.frontier.Frontier.relax.Goals as goal

pub push-requires : goal.push-requires
push-requires c = λ w.
    let le = c.args.self.now.low c.args.dist c.args.slot w in
    let label =
    read_label c.args.self.now.table.items c.args.slot _ c.index-label.result.now c.index-label.ensures c.requires
    c.args.self.now.table.ok.0 in
    omega arith

pub invariant_of-self-in-Break-branch-2 : goal.invariant_of-self-in-Break-branch-2
invariant_of-self-in-Break-branch-2 c =
    record {
      noted = noted_more _ _ _ _ _ c.in_ok-note.ensures.noted c.args.self.now.noted;
      low = λ d p w. c.args.self.now.low d p (c.in_err-push.ensures.unchanged d p w);
    }

pub invariant_of-self-then-dist-label : goal.invariant_of-self-then-dist-label
invariant_of-self-then-dist-label c =
    let table = c.args.self.now.table in
    let label =
    read_label table.items c.args.slot _ c.index-label.result.now c.index-label.ensures c.requires table.ok.0 in
    record {
      noted = noted_put table.items c.args.self.now.reached.items c.note.new.reached.items c.args.slot c.args.dist
          c.index-label.result.now label c.in_ok-note.ensures.noted c.args.self.now.noted;
      low = low_put table.items _ _ c.args.slot c.args.dist (omega arith) (omega arith) c.in_ok-push.ensures.added
          c.args.self.now.low;
    }

pub returns-in_ok-push : goal.returns-in_ok-push
returns-in_ok-push c =
    let table = c.args.self.now.table in
    let label =
    read_label table.items c.args.slot _ c.index-label.result.now c.index-label.ensures c.requires table.ok.0 in
    let push = c.in_ok-push.ensures in
    put_by c.args.self.now _ c.args.slot c.args.dist c.index-label.result.now refl
    (omega arith) label c.if-dist-label.true c.in_ok-note.ensures.noted
    push.there push.kept push.added refl push.len
