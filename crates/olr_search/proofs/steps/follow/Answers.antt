use Rattle.olr_search.proofs.Common.{◌≡◌, ◌≤◌, ◌<◌, ◌+◌, ℕ, IsTrue, get_or, sym, ap, subst, ◌∙◌, arith, inl, inr, Map, has_node}
use Rattle.olr_search.proofs.Common.{dm, Leads, near_end, far_end, label_of, below_more, line_short, positive}
use Rattle.olr_search.proofs.Common.{get_or_default_zero, common_steps, IsSeenAs}
use Rattle.olr_search.proofs.WayLemmas.{IsEntry, entry_is, has_entry, no_end, far_node, leads_on}
use Rattle.olr_search.proofs.MarkLemmas.{ends_over}
use Rattle.olr_search.proofs.SearchLemmas.{moves_then}
use Rattle.olr_search.proofs.CutLemmas.{stays_then}
use Rattle.olr_search.proofs.steps.follow.Given.{Over}
use Rattle.olr_search.proofs.steps.follow.Goals.{After-counted-length}
use Rattle.olr_search.proofs.steps.follow.Goals as goal

-- the line whose end is looked at
entered : (g : Over) (c : After-counted-length g) →
    IsEntry (g.M.MapRead.map c.args.map.now) (g.M.MapRead.node_slot c.args.map.now) c.args.direction c.requires.node.0
    c.lines_from.result.lines.now c.loop-index.index (get_or c.lines_from.result.ends.now c.loop-index.index no_end)
entered g c =
    let own = c.requires.node in
    entry_is (g.M.MapRead.map c.args.map.now) (g.M.MapRead.node_slot c.args.map.now) c.args.direction own.0 _ _
    (c.lines_from.ensures.lines own.0 own.1 own.2) (c.lines_from.ensures.ends own.0 own.1 own.2)
    c.loop-index.index c.loop-index-test.true

-- and what it counts
counts : (g : Over) (c : After-counted-length g) →
    let x = get_or c.lines_from.result.lines.now c.loop-index.index 0 in
    c.counted-length.result ≡ g.L.Lengths.counts c.args.lengths.now x (dm (g.M.MapRead.map c.args.map.now) x)
counts g c =
    let e = entered g c in
    let is = get_or_default_zero c.lines_from.result.lines.now c.loop-index.index c.index-lines-index.result e.within in
    let line : c.index-lines-index.result ≡ get_or c.lines_from.result.lines.now c.loop-index.index 0 = c.index-lines-index.is ∙ is in
    c.counted-length.ensures ∙ (λ i. g.L.Lengths.counts c.args.lengths.now (line i) (e.len i))

fits : (g : Over) (c : After-counted-length g) → (0 < c.counted-length.result) × (c.counted-length.result ≤ 2000000)
fits g c =
    let M = g.M.MapRead.map c.args.map.now in
    let e = entered g c in
    let x = get_or c.lines_from.result.lines.now c.loop-index.index 0 in
    let m = g.met.M.MapRead.sound c.args.map.now in
    let k = c.requires.fit x (dm M x) (positive M m x e.known) (line_short M m x e.known) in
    (omega (arith, k.0, counts g c), omega (arith, k.1, counts g c))

pub overflow_add-dist : goal.overflow_add-dist
overflow_add-dist g c = omega (arith, c.requires.within, (fits g c).1)

pub label_node-requires-clause-there : goal.label_node-requires-clause-there
label_node-requires-clause-there g c =
    let M = g.M.MapRead.map c.args.map.now in
    let e = entered g (goal.at.label_node-requires-clause-there g c).After-counted-length in
    let x = get_or c.lines_from.result.lines.now c.loop-index.index 0 in
    (far_end M c.args.direction x, far_node M (g.met.M.MapRead.sound c.args.map.now) c.args.direction x e.known, sym e.there)

pub label_node-requires-clause-room : goal.label_node-requires-clause-room
label_node-requires-clause-room g c =
    let M = g.M.MapRead.map c.args.map.now in
    let e = entered g (goal.at.label_node-requires-clause-room g c).After-counted-length in
    let x = get_or c.lines_from.result.lines.now c.loop-index.index 0 in
    let room =
    c.requires.room (far_end M c.args.direction x)
    (far_node M (g.met.M.MapRead.sound c.args.map.now) c.args.direction x e.known) in
    omega (arith, c.loop-index.invariant.moves.len, e.there)

pub loop-index-preserved : goal.loop-index-preserved
loop-index-preserved g c =
    let M = g.M.MapRead.map c.args.map.now in
    let slot = g.M.MapRead.node_slot c.args.map.now in
    let own = c.requires.node in
    let way = c.args.direction in
    let lets = g.A.Admits.lets c.args.admits.now in
    let counted = g.L.Lengths.counts c.args.lengths.now in
    let d = c.args.dist in
    let ends = c.lines_from.result.ends.now in
    let lines = c.lines_from.result.lines.now in
    let n = c.loop-index.index in
    let at = (goal.at.loop-index-preserved g c).After-counted-length in
    let e = entered g at in
    let x = get_or lines n 0 in
    let is = counts g at in
    let inv = c.loop-index.invariant in
    let to = c.in_ok-label_node.ensures in
    let h = c.label_node.new.frontier in
    let there = far_node M (g.met.M.MapRead.sound c.args.map.now) way x e.known in
    let seen : (N : Map) → IsSeenAs M N slot way counted c.args.slot → dm N x ≡ c.counted-length.result =
    λ N s. s.long x e.known (ap slot e.leads ∙ own.2) ∙ sym is in
    record {
      moves = moves_then c.args.frontier.now c.loop-index.frontier h inv.moves to.moves;
      labelled = λ N v from s known at_slot leads l.
          let near : v ≡ near_end N way x =
          l.own v own.0 known (subst IsTrue (sym (s.over.nodes own.0)) own.1) (at_slot ∙ sym own.2) ∙ sym e.leads
          ∙ sym (ends_over M N s.over way x).0 in
          let on =
          leads_on N way from x d (subst IsTrue (sym (s.over.lines x)) e.known)
          (subst (λ (u : ℕ). Leads N way from u d) near leads) in
          to.labelled N slot way from (far_end N way x)
          (subst IsTrue (sym (s.over.nodes (far_end N way x))) (subst (λ u. IsTrue (has_node M u)) (sym (ends_over M N s.over way x).1) there))
          (ap slot (ends_over M N s.over way x).1 ∙ sym e.there)
          (subst (λ u. Leads N way from (far_end N way x) (d + u)) (seen N s) on)
          (inv.labelled N v from s known at_slot leads l);
      followed =
          below_more (λ j. let y = get_or ends j no_end in let z = d + counted (get_or lines j 0) y.len in
          lets y.slot z → label_of h y.slot ≤ z) n
          (λ j low under. let was = inv.followed j low under in
          let le = to.moves.better (get_or ends j no_end).slot in omega arith)
          (λ under. let now = d + counted x (get_or ends n no_end).len in
          let same : d + c.counted-length.result ≡ now = ap (λ k. d + k) (is ∙ ap (counted x) (sym e.len)) in
          subst (λ k. label_of h (get_or ends n no_end).slot ≤ k) same (to.low (subst (lets (get_or ends n no_end).slot) (sym same) under)));
      near = λ N s.
          stays_then N slot way d c.args.frontier.now c.loop-index.frontier h to.moves.better (inv.near N s)
          (λ p. elim (to.only p) [
            | inl same ↦ inl same
            | inr new ↦
                let place : label_of h (slot (near_end N way x)) ≡ label_of h c.args.slot =
                ap (label_of h) (ap slot ((ends_over M N s.over way x).0 ∙ e.leads) ∙ own.2) in
                let was = inv.moves.better c.args.slot in
                let le = to.moves.better c.args.slot in
                inr (record {
                  line = x;
                  known = subst IsTrue (sym (s.over.lines x)) e.known;
                  to = ap slot (ends_over M N s.over way x).1 ∙ sym e.there ∙ sym new.1;
                  near = omega (arith, c.requires.label);
                  sum = omega (arith, c.requires.label, seen N s, new.0);
                })
          ]);
      ahead = λ next le a. to.ahead next (omega arith) (inv.ahead next le a);
    }

pub returns-clause-closed : goal.returns-clause-closed
returns-clause-closed g c = λ N v s known at x line near under.
    let M = g.M.MapRead.map c.args.map.now in
    let slot = g.M.MapRead.node_slot c.args.map.now in
    let way = c.args.direction in
    let counted = g.L.Lengths.counts c.args.lengths.now in
    let inside = subst IsTrue (s.over.nodes v) known in
    let there = subst IsTrue (s.over.lines x) line in
    let from = sym (ends_over M N s.over way x).0 ∙ near in
    let k =
    has_entry M slot way v x c.lines_from.result.lines.now c.lines_from.result.ends.now
    (c.lines_from.ensures.lines v inside at) (c.lines_from.ensures.ends v inside at) there from in
    let long : dm N x ≡ counted (get_or c.lines_from.result.lines.now k.index 0) (get_or c.lines_from.result.ends.now k.index no_end).len =
    s.long x there (ap slot from ∙ at) ∙ coe 0 1 (i. counted x (dm M x) ≡ counted (k.line i) (sym k.len i)) (λ _. counted x (dm M x)) in
    let place : slot (far_end N way x) ≡ (get_or c.lines_from.result.ends.now k.index no_end).slot =
    ap slot (ends_over M N s.over way x).1 ∙ sym k.there in
    let low =
    c.loop-index.invariant.followed k.index (omega arith)
    (coe 0 1 (i. g.A.Admits.lets c.args.admits.now (place i) (c.args.dist + long i)) under) in
    let eq = ap (label_of c.loop-index.frontier) place in
    omega (arith, long)

pub bounds-lines-index : goal.bounds-lines-index
bounds-lines-index g c = grind (arith, common_steps)

pub returns-clause-labelled : goal.returns-clause-labelled
returns-clause-labelled g c = c.loop-index.invariant.labelled
