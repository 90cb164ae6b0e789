use Rattle.olr_search.proofs.Common.{◌≡◌, ◌≤◌, ℕ, IsTrue, get_or, refl, sym, ap, subst, ◌∙◌, inl, inr, arith, below_more}
use Rattle.olr_search.proofs.Common.{get_or_default, has_node, label_of, IsAhead, IsQueued, IsUnderWay, Frontier, Contains}
use Rattle.olr_search.proofs.SearchLemmas.{empty_labelled}
use Rattle.olr_search.proofs.CutLemmas.{settled_up_to, begun_still, near_on}
use Rattle.olr_search.proofs.MarkLemmas.{plain}
use Rattle.olr_search.proofs.WayLemmas.{leads_first}
use Rattle.olr_search.proofs.distances.Dijkstra.begin.Given.{Over}
use Rattle.olr_search.proofs.distances.Dijkstra.begin.Goals.{After-loop-begin, in-Some+in_ok-label_node, in_default}
use Rattle.olr_search.proofs.distances.Dijkstra.begin.Goals as goal

pub loop-begin-init : goal.loop-begin-init
loop-begin-init g c =
    let e = c.in_ok-make_room.ensures.empty c.clear.ensures in
    record {
      labelled = grind (arith, empty_labelled);
      begun = λ j low. absurd (omega arith);
      front = λ p small. absurd (omega (arith, e.labels p));
      near = λ p small. absurd (omega (arith, e.labels p));
      way = refl;
      limit = refl;
    }

pub loop-begin-preserved : goal.loop-begin-preserved
loop-begin-preserved g c =
    let M = g.M.MapRead.map c.args.map.now in
    let slot = g.M.MapRead.node_slot c.args.map.now in
    let inv = c.loop-begin.invariant in
    let items = c.args.from.now in
    let item = c.begin-item.result in
    let n = c.loop-begin.begin-index in
    let at = c.begin-item.is ∙ get_or_default items n item (0, 0) c.loop-begin-test.true in
    let Begun : Frontier → ℕ × ℕ → Type 0 = λ f x. IsTrue (has_node M x.0) → label_of f (slot x.0) ≤ x.1 in
    elim c.match-slot_of.branch [
      | in_default w ↦ rw w.self-is (record {
        labelled = inv.labelled;
        begun = below_more (λ j. Begun c.loop-begin.self.frontier (get_or items j (0, 0))) n inv.begun
            (subst (Begun c.loop-begin.self.frontier) at (λ known. absurd (w.in_default.ensures known)));
        front = inv.front;
        near = inv.near;
        way = inv.way;
        limit = inv.limit;
      })
      | in-Some+in_ok-label_node w ↦
          let h = w.label_node.new.frontier in
          let e = w.in_ok-label_node.ensures in
          let there = w.in-Some.ensures in
          let listed : Contains items item = (n, c.loop-begin-test.true, sym c.begin-item.is) in
          rw w.self-is (record {
            labelled = e.labelled M slot c.args.direction items item.0 there.0 (sym there.1)
                (leads_first M c.args.direction items item.0 item.1 listed there.0) inv.labelled;
            begun = below_more (λ j. Begun h (get_or items j (0, 0))) n
                (λ j low known. let was = inv.begun j low known in let le = e.moves.better (slot (get_or items j (0, 0)).0) in
                omega arith)
                (subst (Begun h) at (λ known. let low = e.low tt in omega (arith, ap (label_of h) there.1)));
            front = λ p small. elim (e.moves.fresh p) [
              | inl same ↦ subst (λ (n : ℕ). IsQueued h n p) (sym same)
                  (e.moves.kept (label_of c.loop-begin.self.frontier p) p (inv.front p (omega arith)))
              | inr q ↦ q
            ];
            near = λ p small. elim (e.only p) [
              | inl same ↦ begun_still (λ v known. known) same (inv.near p (omega arith))
              | inr new ↦ record {
                source = item.0;
                begun = item.1;
                listed = listed;
                there = there.0;
                at = sym (new.1 ∙ there.1);
                least = omega (arith, new.0);
              }
            ];
            way = inv.way;
            limit = inv.limit;
          })
    ]

-- the search is under way when the loop has ended
under_way : (g : Over) (c : After-loop-begin g) →
    IsUnderWay (g.M.MapRead.map c.args.map.now) (g.M.MapRead.node_slot c.args.map.now) c.args.direction c.args.from.now
    c.loop-begin.self.frontier
under_way g c =
    let items = c.args.from.now in
    let f = c.loop-begin.self.frontier in
    let inv = c.loop-begin.invariant in
    let Begun : ℕ × ℕ → Type 0 = λ x.
    IsTrue (has_node (g.M.MapRead.map c.args.map.now) x.0) → label_of f (g.M.MapRead.node_slot c.args.map.now x.0) ≤ x.1 in
    record {
      labelled = inv.labelled;
      begun = λ s b listed known.
          let is : get_or items listed.0 (0, 0) ≡ (s, b) =
          get_or_default items listed.0 (0, 0) (s, b) listed.1 ∙ listed.2 in
          subst Begun is (inv.begun listed.0 (omega (arith, listed.1))) known;
      front = λ v known small. inr (inv.front (g.M.MapRead.node_slot c.args.map.now v) small);
    }

pub settle-requires-clause-begun : goal.settle-requires-clause-begun
settle-requires-clause-begun g c =
    let M = g.M.MapRead.map c.args.map.now in (
      M,
      c.args.from.now,
      0,
      plain M (g.M.MapRead.node_slot c.args.map.now) c.args.direction c.loop-begin.self.frontier 0,
      under_way g (goal.at.settle-requires-clause-begun g c).After-loop-begin,
      λ d p w. omega arith,
    )

pub returns-clause-search : goal.returns-clause-search
returns-clause-search g c =
    let M = g.M.MapRead.map c.args.map.now in
    let slot = g.M.MapRead.node_slot c.args.map.now in
    let e = c.in_ok-settle.ensures in
    let none : IsAhead c.loop-begin.self.frontier 0 = λ d p w. omega arith in
    let as_is = plain M slot c.args.direction c.loop-begin.self.frontier 0 in
    let u = e.cut M c.args.from.now 0 none as_is (under_way g (goal.at.returns-clause-search g c).After-loop-begin) in
    record {
      way = c.loop-begin.invariant.way;
      under_way = u;
      small = omega arith;
      settled = λ v d known le l.
          settled_up_to _ _ c.args.direction c.args.from.now c.settle.new.frontier 0 u (omega arith) e.far v d
          (omega arith) l;
      near = near_on M slot c.args.direction c.args.from.now 0 0 _ (label_of c.loop-begin.self.frontier)
          (label_of c.settle.new.frontier) (omega arith) (omega arith) e.better (e.near M 0 none as_is)
          (λ p small. inl (c.loop-begin.invariant.near p small));
      ahead = λ d p w. let lt = e.far d p w in omega arith;
    }
