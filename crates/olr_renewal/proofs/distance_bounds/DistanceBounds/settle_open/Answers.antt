use Rattle.olr_renewal.proofs.Common.{List, ℕ, [], ◌∙◌, arith, refl, subst, sym, bound_at, label_of, AreLed, source_of}
use Rattle.olr_search.specs.Notes.{label_in}
use Rattle.olr_renewal.proofs.BoundLemmas.{settling_begun, settling_emptied, settling_looked, settling_on, settling_popped, settled}
use Rattle.olr_renewal.proofs.distance_bounds.DistanceBounds.settle_open.Goals as goal

pub loop-node-preserved : goal.loop-node-preserved
loop-node-preserved g c =
    let m = g.met.M.MapRead.sound c.args.map.now in
    let f = c.loop-node.self in
    let inv = c.loop-node.invariant in
    let e = c.in_ok-look_at.ensures in
    settling_on _ m _ (g.met.M.MapRead.placed c.args.map.now).apart c.args.self.now
    f.opened.items c.pop.new.self.items f (record f { opened = c.pop.new.self; bounds = c.look_at.new.bounds }) (λ v. refl)
    refl e.moves.len
    (settling_looked _ m _ _ f.opened.items c.pop.new.self.items c.in-Some.node f.bounds c.look_at.new.bounds
    c.in-Some.ensures.items e.moves e.followed (λ d at there. e.met d (inv.sources c.in-Some.node ∙ at) there)) e.led inv

pub loop-next-preserved : goal.loop-next-preserved
loop-next-preserved g c =
    let M = g.M.MapRead.map c.args.map.now in
    let m = g.met.M.MapRead.sound c.args.map.now in
    let slot = g.M.MapRead.node_slot c.args.map.now in
    let f = c.loop-next.self in
    let h = c.follow.new.bounds in
    let o = c.in-Some-pop_within.ensures in
    let x = c.in-Some-pop_within.next in
    let e = c.in_ok-follow.ensures in
    settling_on M m slot (g.met.M.MapRead.placed c.args.map.now).apart c.args.self.now [] [] f (record f { bounds = h })
    (λ v. refl) refl (e.moves.len ∙ o.alike.len)
    (settling_popped M m slot _ f.bounds c.pop_within.new.self h x.0 x.1 o.alike o.popped.others e.moves e.followed)
    (subst (λ (t : List ℕ). AreLed M slot (source_of f) (label_in t) (label_of h)) o.alike.table (e.led (source_of f)))
    c.loop-next.invariant

pub returns-clause-right : goal.returns-clause-right
returns-clause-right g c = λ u known.
    let inv = c.loop-next.invariant in
    let e = c.in_default-pop_within.ensures in
    let r =
    settled _ (g.met.M.MapRead.sound c.args.map.now)
    _ _ c.loop-next.self.bounds c.pop_within.new.self
    e.alike (λ n q w. e.far n q (e.same n q w)) (inv.settling (u (sym inv.valid ∙ known))) in
    record { closed = r.0; sources = λ v d at. r.1 v d (sym (inv.sources v) ∙ at) }

pub loop-node-init : goal.loop-node-init
loop-node-init g c =
    let m = g.met.M.MapRead.placed c.args.map.now in
    settling_begun _ _ c.args.self.now c.make_room.new.self c.make_room.ensures.labels
    (λ v there. let lt = m.below v there in omega (arith, lt, c.slot_count.ensures, c.in_ok-make_room.ensures.room))

pub loop-next-init : goal.loop-next-init
loop-next-init g c =
    let w = settling_emptied c.loop-node.invariant c.in_default.ensures.cases.0 in
    record { room = w.room; sources = w.sources; valid = w.valid; settling = w.settling; led = w.led }

pub returns-clause-same : goal.returns-clause-same
returns-clause-same g c = c.loop-next.invariant.sources

pub returns-clause-valid : goal.returns-clause-valid
returns-clause-valid g c = c.loop-next.invariant.valid

pub returns-clause-reached : goal.returns-clause-reached
returns-clause-reached g c =
    let e = c.in_default-pop_within.ensures.alike in
    subst (λ (t : List ℕ). AreLed (g.M.MapRead.map c.args.map.now) (g.M.MapRead.node_slot c.args.map.now)
    (source_of c.args.self.now) (bound_at c.args.self.now) (label_in t)) (sym e.table) c.loop-next.invariant.led
