use Rattle.olr_renewal.proofs.Common.{◌≡◌, ℕ, true, IsTrue, refl, subst, arith, has, at_index, IsUnbounded}
use Rattle.olr_renewal.proofs.BoundLemmas.{far_apart, spared_under_way}
use Rattle.olr_renewal.proofs.distance_bounds.DistanceBounds.are_unbounded.Given.{Over}
use Rattle.olr_renewal.proofs.distance_bounds.DistanceBounds.are_unbounded.Goals as goal

-- each of the nodes was tested
all_unbounded : (g : Over) (c : goal.After-loop-node g) (v : ℕ) → IsTrue (has c.args.nodes.now v) →
    IsUnbounded (g.M.MapRead.map c.args.map.now) (g.M.MapRead.node_slot c.args.map.now) c.args.self.now v
all_unbounded g c v on =
    let k = at_index _ v on in
    subst (IsUnbounded (g.M.MapRead.map c.args.map.now) (g.M.MapRead.node_slot c.args.map.now) c.args.self.now) k.2
    (c.loop-node.invariant k.0 (omega arith))

pub returns-clause-exact : goal.returns-clause-exact
returns-clause-exact g c =
    let known : c.args.self.now.valid ≡ true = cc in
    (λ yes. (known, all_unbounded g c), λ all. refl)

pub returns-clause-unbounded : goal.returns-clause-unbounded
returns-clause-unbounded g c = λ yes N r s w e right source.
    let known : c.args.self.now.valid ≡ true = cc in
    far_apart _ N _ r _ _ e (all_unbounded g c) known right s w source

pub returns-clause-spared : goal.returns-clause-spared
returns-clause-spared g c = λ yes N r e. spared_under_way _ N _ r _ _ e (all_unbounded g c)
