use Rattle.olr_refs.proofs.Common.{◌≡◌, length, arith, ap, path_fault, None, Reuse, subst, List, ℕ}
use Rattle.olr_refs.proofs.Common.{EncodingWith, QueriesOfWith, QueriesFromWith, KnownOfWith, querying, answer_of}
use Rattle.olr_refs.proofs.Common.{answer_by_points_with, ◌∷◌}
use Rattle.olr_refs.proofs.Referring.{joins_of, of_path, own_of, traversed_of, whole_joined, whole_short}
use Rattle.olr_refs.proofs.Querying.{own_is, reuse_of}
use Rattle.olr_refs.specs.Extends.{ExtendedPath}
use Rattle.olr_refs.proofs.encoding.encode_again.Goals as goal

pub encode_along-requires-clause-reuse : goal.encode_along-requires-clause-reuse
encode_along-requires-clause-reuse g c = reuse_of _ _ _ _ _ _ _ c.in_ok-extended.ensures.ok c.own_lines.ensures.path _
    (ap (λ (e : ExtendedPath). e.lead) c.extended.view_is) (ap (λ (xs : List ℕ). length xs) c.lines.ensures.value) c.requires

pub returns-clause-encoding : goal.returns-clause-encoding
returns-clause-encoding g c =
    let M = g.M.MapRead.map c.args.map.now in
    let m = g.met.M.MapRead.sound c.args.map.now in
    let P = c.args.path.now in
    let sound : path_fault M P ≡ None = (rw c.in-Ok.is at c.in_ok-own.ensures.own).0 in
    let x = c.in_ok-extended.ensures.ok in
    let answered = c.in_ok-answer.ensures.answered in
    let queried = c.in_ok-answer.ensures.queried in
    let r : Reuse = record { known = c.args.known; lead = c.extended.inside.lead; own = length c.lines.result.now } in
    let leads : r.lead ≡ c.in_ok-extended.extended.lead = ap (λ (e : ExtendedPath). e.lead) c.extended.view_is in
    let owns : r.own ≡ length P.lines = ap (λ (xs : List ℕ). length xs) c.lines.ensures.value in
    let q = c.in_ok-answer.queries in
    let encoding : EncodingWith c.args.margin M P (answer_of c.in_ok-answer.answer) =
    of_path _ M P _ _ _ _ (λ e _ _ js. answer_of c.in_ok-answer.answer ≡ answer_by_points_with c.args.margin M e js) x
    (answered.0, answered.1, answered.2.answer) in
    let queries : QueriesOfWith c.args.margin M P q.all.items =
    rw sound (of_path _ M P _ _ _ _
    (λ e _ _ js. QueriesFromWith c.args.margin M e.lines (querying e.lines (0 ∷ js)) q.all.items) x
    (queried.0, queried.1, queried.2.each)) in
    record {
      answer = rw sound encoding;
      joins = joins_of _ M m P _ sound encoding;
      own = own_of _ M P _ _ _ _ _ _ x answered;
      traversed = λ v. rw sound (traversed_of M m P _ _ _ _ c.own_lines.ensures.path sound c.new-traversed.ensures x v);
      queries = queries;
      known = subst (λ (xs : List ℕ). KnownOfWith c.args.margin M xs q.all.items q.own.items)
          (own_is M P _ _ _ _ x r leads owns) queried.2.own;
    }

pub returns-in-Err-clause-encoding : goal.returns-in-Err-clause-encoding
returns-in-Err-clause-encoding g c =
    c.refused.ensures c.args.margin _ _ (rw c.in-Err.is at c.in_ok-own.ensures.own)

pub encode_along-requires-clause-joined : goal.encode_along-requires-clause-joined
encode_along-requires-clause-joined g c = grind (arith, whole_joined)

pub encode_along-requires-clause-short : goal.encode_along-requires-clause-short
encode_along-requires-clause-short g c = grind (arith, whole_short)
