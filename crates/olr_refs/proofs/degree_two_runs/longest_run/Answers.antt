use Rattle.olr_refs.proofs.Common.{◌≡◌, ◌∷◌, [], List, reverse, refl, sym, ap, subst, ◌∙◌, reverse-append, ResolvedLine, LiesBeyond}
use Rattle.olr_refs.proofs.Common.{IsNonDecreasingBy-from_sort, arith, has, ids}
use Rattle.olr_refs.proofs.Resolving.{some_ids}
use Rattle.olr_refs.proofs.Runs.{grows_more, grows_none, finished, none_beyond}
use Rattle.olr_refs.proofs.Sets.{same_members}
use Rattle.olr_spec.proofs.RouteLemmas.{positive}
use Rattle.olr_refs.proofs.degree_two_runs.longest_run.Goals as goal

pub returns-then-is_none : goal.returns-then-is_none
returns-then-is_none g c =
    let M = g.M.MapRead.map c.args.map.now in
    let b = c.line_beyond-at.result in
    let is = ap (λ (r : ResolvedLine). r.id) (c.outermost_of.ensures M (g.M.MapRead.node_slot c.args.map.now) c.requires.records) in
    rw c.new.ensures.items (none_beyond M _ _ _ (some_ids _ c.requires.some)
    c.requires.known b.passing b.line
    (subst (λ z. LiesBeyond M c.args.direction z b.passing b.line) is c.line_beyond-at.ensures) c.if-is_none.ensures)

pub loop-record-init : goal.loop-record-init
loop-record-init g c =
    let M = g.M.MapRead.map c.args.map.now in
    let b = c.line_beyond-at.result in
    let is = ap (λ (r : ResolvedLine). r.id) (c.outermost_of.ensures M (g.M.MapRead.node_slot c.args.map.now) c.requires.records) in
    rw c.new-run.ensures.items (grows_none M _ _ _ b.passing b.line
    (subst (λ z. LiesBeyond M c.args.direction z b.passing b.line) is c.line_beyond-at.ensures))

pub next_within-requires-clause-sorted : goal.next_within-requires-clause-sorted
next_within-requires-clause-sorted g c = rw c.deref.ensures.value
    (IsNonDecreasingBy-from_sort (λ x. x) c.sort_unstable.new.self.items c.sort_unstable.ensures.sorted)

pub loop-record-preserved : goal.loop-record-preserved
loop-record-preserved g c =
    let r : ResolvedLine = c.in-Some.record in
    let items : List ResolvedLine = c.loop-record.run.items in
    let pushed : reverse c.push.new.self.items ≡ r ∷ reverse items =
    rw (c.in_ok-push.ensures.items, reverse-append items (r ∷ [])) refl in
    let listed : has c.deref.result.now r.id ≡ has (ids c.args.records.now) r.id =
    rw c.deref.ensures.value (same_members _ _ (rw c.in_ok-used.ensures at c.sort_unstable.ensures.permutation) r.id) in
    rw pushed (grows_more _ _ _ _ (some_ids _ c.requires.some)
    c.requires.known _ _ _ _ c.loop-record.invariant _ r _ _
    (ap (λ (s : ResolvedLine). s.len) c.record.view_is) c.in-Some.ensures.some.line c.in-Some.ensures.some.known
    (sym listed ∙ c.in-Some.ensures.some.fresh) c.in-Some.ensures.some.near
    c.line_beyond-at-in-Some.ensures)

pub returns : goal.returns
returns g c = rw c.in_order.ensures (finished _ _ _ _
    (some_ids _ c.requires.some) c.requires.known _ _ _ _ c.loop-record.invariant _
    (λ x. rw c.deref.ensures.value (same_members _ _ (rw c.in_ok-used.ensures at c.sort_unstable.ensures.permutation) x))
    c.in_default.ensures.none)

pub loop-record-smaller : goal.loop-record-smaller
loop-record-smaller g c = grind (arith, positive, g.met.M.MapRead.sound c.args.map.now)
