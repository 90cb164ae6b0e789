use Rattle.olr_search.proofs.Common.{◌≡◌, ℕ, refl, sym, ap, subst, ◌∙◌, inl, inr, arith, label_of, IsAhead, IsQueued, IsTrue}
use Rattle.olr_search.proofs.Common.{Map, IsSearchedAs, IsSeenAs, ◌≤◌}
use Rattle.olr_search.proofs.steps.settle.Given.{Over}
use Rattle.olr_search.proofs.CutLemmas.{cut_begun, cut_same, cut_more, stays_then, stays_more}
use Rattle.olr_search.proofs.SearchLemmas.{alike_labels}
use Rattle.olr_search.proofs.steps.settle.Goals as goal

pub loop-next-init : goal.loop-next-init
loop-next-init g c = record {
  cut = λ N from next a s u. cut_begun _ _ _ _ _ c.args.frontier.now u;
  better = λ p. omega arith;
  near = λ N next a s p. inl refl;
  ahead = λ next a. a;
}

pub follow-requires-clause-node : goal.follow-requires-clause-node
follow-requires-clause-node g c =
    let b = c.requires.begun in
    let u = c.loop-next.invariant.cut b.0 b.1 b.2 b.5 b.3 b.4 in
    let e = c.in-Some.ensures in
    let k = u.labelled.nodes c.in-Some.next.1 (omega (arith, e.popped.within, alike_labels _ _ e.alike c.in-Some.next.1)) in
    (k.0, subst IsTrue (b.3.over.nodes k.0) k.1, k.2)

pub follow-requires-clause-room : goal.follow-requires-clause-room
follow-requires-clause-room g c = λ v known.
    let b = c.requires.begun in
    let u = c.loop-next.invariant.cut b.0 b.1 b.2 b.5 b.3 b.4 in
    let was = u.labelled.room v (subst IsTrue (sym (b.3.over.nodes v)) known) in
    omega (arith, c.in-Some.ensures.alike.len)

-- what is followed counts as it did at first
seen : (g : Over) (c : goal.In_ok-follow g) (N : Map) (next : ℕ) → IsAhead c.args.frontier.now next →
    IsSearchedAs (g.M.MapRead.map c.args.map.now) N (g.M.MapRead.node_slot c.args.map.now) c.args.direction
    (g.L.Lengths.counts c.args.lengths.now) c.args.frontier.now next →
    IsSeenAs (g.M.MapRead.map c.args.map.now) N (g.M.MapRead.node_slot c.args.map.now) c.args.direction
    (g.L.Lengths.counts c.args.lengths.now) c.in-Some.next.1
seen g c N next a s =
    let o = c.in-Some.ensures in
    let ahead = c.loop-next.invariant.ahead next a c.in-Some.next.0 c.in-Some.next.1 o.popped.there in
    let less = c.loop-next.invariant.better c.in-Some.next.1 in
    let far : next ≤ label_of c.args.frontier.now c.in-Some.next.1 =
    omega (arith, alike_labels _ _ o.alike c.in-Some.next.1) in
    record {
      over = s.over;
      long = λ x known at. s.long x known (subst (λ p. next ≤ label_of c.args.frontier.now p) (sym at) far);
    }

pub loop-next-preserved-in-Continue-1 : goal.loop-next-preserved-in-Continue-1
loop-next-preserved-in-Continue-1 g c =
    let o = c.in-Some.ensures in
    let e = c.in_ok-follow.ensures in
    let is = alike_labels _ _ o.alike c.in-Some.next.1 in
    record {
      cut = λ N from next a s u.
          let told = seen g c N next a s in
          cut_more _ _ _ _ _ c.loop-next.frontier c.pop_within.new.self c.follow.new.frontier c.in-Some.next.0
          c.in-Some.next.1 o.alike o.popped.others (omega arith) (omega (arith, o.popped.within)) e.moves
          (λ v ways. e.labelled N v ways told) (λ v. e.closed N v told) (c.loop-next.invariant.cut N from next a s u);
      better = λ q.
          let a = e.moves.better q in
          let b = c.loop-next.invariant.better q in
          omega (arith, alike_labels _ _ o.alike q);
      near = λ N next a s.
          stays_then _ _ _ _ c.args.frontier.now c.loop-next.frontier c.follow.new.frontier
          (λ p. let le = e.moves.better p in omega (arith, alike_labels _ _ o.alike p))
          (c.loop-next.invariant.near N next a s)
          (stays_more _ _ _ _ c.loop-next.frontier c.pop_within.new.self c.follow.new.frontier c.in-Some.next.0 o.alike
          (omega (arith, o.popped.within)) (e.near N (seen g c N next a s)));
      ahead = λ next a.
          let was = c.loop-next.invariant.ahead next a in
          e.ahead next (was c.in-Some.next.0 c.in-Some.next.1 o.popped.there) (λ d p w. was d p (o.fewer d p w));
    }

-- each label that is queued still is
still : (g : Over) (c : goal.Else-label-dist g) (q : ℕ) →
    IsQueued c.loop-next.frontier (label_of c.loop-next.frontier q) q →
    IsQueued c.pop_within.new.self (label_of c.loop-next.frontier q) q
still g c q w =
    let o = c.in-Some.ensures in
    elim (o.popped.others (label_of c.loop-next.frontier q) q w) [
      | inl kept ↦ kept
      | inr h ↦
          let was : label_of c.loop-next.frontier c.in-Some.next.1 ≡ c.in-Some.next.0 =
          ap (label_of c.loop-next.frontier) (sym h.1) ∙ h.0 in
          absurd (c.if-label-dist.false (omega (arith, alike_labels _ _ o.alike c.in-Some.next.1)))
    ]

pub loop-next-preserved : goal.loop-next-preserved
loop-next-preserved g c =
    let o = c.in-Some.ensures in
    record {
      cut = λ N from next a s u.
          cut_same _ _ _ _ _ c.loop-next.frontier c.pop_within.new.self o.alike (still g c)
          (c.loop-next.invariant.cut N from next a s u);
      ahead = λ next a d p w. c.loop-next.invariant.ahead next a d p (o.fewer d p w);
      better = λ q. let b = c.loop-next.invariant.better q in omega (arith, alike_labels _ _ o.alike q);
      near = λ N next a s.
          stays_then _ _ _ _ c.args.frontier.now c.loop-next.frontier c.pop_within.new.self
          (λ p. omega (arith, alike_labels _ _ o.alike p)) (c.loop-next.invariant.near N next a s)
          (λ p. inl (alike_labels _ _ o.alike p));
    }

pub returns-clause-cut : goal.returns-clause-cut
returns-clause-cut g c = λ N from next a s u.
    let e = c.in_default.ensures in
    cut_same _ _ _ _ _ c.loop-next.frontier c.pop_within.new.self e.alike (λ q w. e.same _ q w)
    (c.loop-next.invariant.cut N from next a s u)

pub returns-clause-ahead : goal.returns-clause-ahead
returns-clause-ahead g c = λ next a d p w. c.loop-next.invariant.ahead next a d p (c.in_default.ensures.fewer d p w)

pub returns-clause-near : goal.returns-clause-near
returns-clause-near g c = λ N next a s.
    stays_then _ _ _ _ c.args.frontier.now c.loop-next.frontier c.pop_within.new.self
    (λ p. omega (arith, alike_labels _ _ c.in_default.ensures.alike p)) (c.loop-next.invariant.near N next a s)
    (λ p. inl (alike_labels _ _ c.in_default.ensures.alike p))
