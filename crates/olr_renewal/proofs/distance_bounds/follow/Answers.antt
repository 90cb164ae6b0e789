use Rattle.olr_renewal.proofs.Common.{◌≤◌, ◌+◌, ◌-◌, ℕ, [], ◌∷◌, get_or, inl, inr, refl, sym, ap, ◌∙◌, subst, arith, end, Along}
use Rattle.olr_renewal.proofs.Common.{GREATEST_LIMIT, below_more, label_of, IsQueued, moves_then, put_cases, put_le, put_moves}
use Rattle.olr_renewal.proofs.Common.{IsLed, no_end, end_is, has_end, far_node}
use Rattle.olr_renewal.proofs.BoundLemmas.{node_there, moves_none}
use Rattle.olr_renewal.proofs.distance_bounds.follow.Goals.{then-end-room+in_ok-relax, else-end-room}
use Rattle.olr_renewal.proofs.distance_bounds.follow.Goals as goal

pub ends_from-end-items-requires : goal.ends_from-end-items-requires
ends_from-end-items-requires g c =
    node_there (g.M.MapRead.map c.args.map.now) (g.M.MapRead.node_slot c.args.map.now) c.args.slot c.node_at.result
    c.node_at.ensures (grind arith)

pub loop-end-init : goal.loop-end-init
loop-end-init g c = record {
  own = node_there (g.M.MapRead.map c.args.map.now) (g.M.MapRead.node_slot c.args.map.now) c.args.slot c.node_at.result
      c.node_at.ensures (grind arith);
  moves = moves_none c.args.bounds.now;
  followed = λ j lt. absurd (omega arith);
  led = λ S p. inl refl;
}

pub relax-requires : goal.relax-requires
relax-requires g c =
    let M = g.M.MapRead.map c.args.map.now in
    let own = c.loop-end.invariant.own in
    let x =
    end_is M (g.M.MapRead.node_slot c.args.map.now) Along own.0 c.ends_from-end-items.result.now c.loop-end.end-index
    (c.ends_from-end-items.ensures own.0 own.1 own.2) c.loop-end-test.true in
    let room = c.requires (end M x.line) (far_node M (g.met.M.MapRead.sound c.args.map.now) Along x.line x.known) in
    omega (arith, c.loop-end.invariant.moves.len, x.there)

pub loop-end-preserved : goal.loop-end-preserved
loop-end-preserved g c =
    let M = g.M.MapRead.map c.args.map.now in
    let slot = g.M.MapRead.node_slot c.args.map.now in
    let inv = c.loop-end.invariant in
    let items = c.ends_from-end-items.result.now in
    let n = c.loop-end.end-index in
    let d = c.label-length.result in
    let f = c.loop-end.bounds in
    let end' = get_or items n no_end in
    elim c.if-end-room.branch [
      | then-end-room+in_ok-relax w ↦
          let h = w.relax.new.self in
          let k = w.in_ok-relax.ensures in
          let x =
          end_is M slot Along inv.own.0 items n (c.ends_from-end-items.ensures inv.own.0 inv.own.1 inv.own.2)
          c.loop-end-test.true in
          rw w.bounds-is (record {
            own = inv.own;
            moves = moves_then _ f h inv.moves (put_moves f h end'.slot (d + end'.len) k);
            followed = below_more (λ j. (get_or items j no_end).len ≤ GREATEST_LIMIT - d →
                label_of h (get_or items j no_end).slot ≤ d + (get_or items j no_end).len) n
                (λ j low short.
                let was = inv.followed j low short in
                let le = put_le f h end'.slot (d + end'.len) k (get_or items j no_end).slot in omega arith)
                (λ short. let here = k.here in omega arith);
            led = λ S p. elim (put_cases f h end'.slot (d + end'.len) k p) [
              | inl same ↦ elim (inv.led S p) [
                | inl was ↦ inl (same ∙ was)
                | inr l ↦ inr (subst (IsLed M slot S (label_of c.args.bounds.now) p) (sym same) l)
              ]
              | inr new ↦ inr (record {
                from = inv.own.0;
                to = end M x.line;
                there = far_node M (g.met.M.MapRead.sound c.args.map.now) Along x.line x.known;
                slot = sym x.there ∙ sym new.1;
                begun = d;
                begins = inl (ap (label_of c.args.bounds.now) inv.own.2 ∙ sym c.label-length.ensures);
                route = x.line ∷ [];
                leads = (x.known, x.near, refl);
                long = omega (arith, x.len, new.0);
              })
            ];
          })
      | else-end-room w ↦ rw w.bounds-is (record {
        own = inv.own;
        moves = inv.moves;
        followed = below_more (λ j. (get_or items j no_end).len ≤ GREATEST_LIMIT - d →
            label_of f (get_or items j no_end).slot ≤ d + (get_or items j no_end).len) n inv.followed
            (λ short. absurd (omega arith));
        led = inv.led;
      })
    ]

pub returns-clause-followed : goal.returns-clause-followed
returns-clause-followed g c = λ v there at x line near short.
    let M = g.M.MapRead.map c.args.map.now in
    let slot = g.M.MapRead.node_slot c.args.map.now in
    let h = c.loop-end.bounds in
    let here = ap (label_of h) at in
    let start' = ap (λ (u : ℕ). label_of h (slot u)) near in
    elim (c.loop-end.invariant.moves.fresh c.args.slot) [
      | inr q ↦ inr (subst (λ (p : ℕ). IsQueued h (label_of h p) p) (sym at) q)
      | inl same ↦
          let k =
          has_end M slot Along v x c.ends_from-end-items.result.now (c.ends_from-end-items.ensures v there at) line near in
          let low =
          c.loop-end.invariant.followed k.index (omega (arith, k.within))
          (omega (arith, k.len, c.label-length.ensures)) in
          let to = ap (label_of h) k.there in
          inl (omega (arith, k.len, c.label-length.ensures))
    ]
