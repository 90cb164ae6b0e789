use Rattle.olr_renewal.proofs.Common.{ℕ, [], Option, inl, inr, refl, sym, ap, ◌∙◌, arith, on_ok_weaker, Moves, label_of}
use Rattle.olr_renewal.proofs.Common.{moves_then, put_cases, put_moves, AreLed, nat_eq}
use Rattle.std.specs.HashMap.{get}
use Rattle.olr_renewal.proofs.BoundLemmas.{moves_none, led_then}
use Rattle.olr_renewal.proofs.distance_bounds.look_at.Goals.{in-Some-get+in_ok-relax, in_default-get}
use Rattle.olr_renewal.proofs.distance_bounds.look_at.Goals as goal

pub returns-clause-moves : goal.returns-clause-moves
returns-clause-moves g c =
    let f = c.args.bounds.now in
    let first : Moves f c.match-get.bounds = elim c.match-get.branch [
      | in-Some-get+in_ok-relax w ↦ rw w.bounds-is (put_moves f w.relax.new.self c.in-Some.slot _ w.in_ok-relax.ensures)
      | in_default-get w ↦ rw w.bounds-is (moves_none f)
    ] in
    on_ok_weaker c.follow.result (λ m. moves_then f c.match-get.bounds c.follow.new.bounds first m) c.follow.ensures.moves

pub returns-clause-followed : goal.returns-clause-followed
returns-clause-followed g c =
    on_ok_weaker c.follow.result (λ m. m c.args.node c.in-Some.ensures.0 (sym c.in-Some.ensures.1)) c.follow.ensures.followed

pub returns-clause-led : goal.returns-clause-led
returns-clause-led g c =
    let M = g.M.MapRead.map c.args.map.now in
    let slot = g.M.MapRead.node_slot c.args.map.now in
    let S : ℕ → Option ℕ = λ v. get nat_eq c.args.sources.now v in
    let f = c.args.bounds.now in
    let first : AreLed M slot S (label_of f) (label_of c.match-get.bounds) = elim c.match-get.branch [
      | in-Some-get+in_ok-relax w ↦ rw w.bounds-is (λ p.
          elim (put_cases f w.relax.new.self c.in-Some.slot _ w.in_ok-relax.ensures p) [
            | inl same ↦ inl same
            | inr new ↦ inr (record {
              from = c.args.node;
              to = c.args.node;
              there = c.in-Some.ensures.0;
              slot = sym c.in-Some.ensures.1 ∙ sym new.1;
              begun = w.in-Some-get.bound.now;
              begins = inr (sym (w.in-Some-get.ensures.value ∙ ap S c.number.ensures.same));
              route = [];
              leads = refl;
              long = omega (arith, new.0);
            })
          ])
      | in_default-get w ↦ rw w.bounds-is (λ p. inl refl)
    ] in
    on_ok_weaker c.follow.result (λ m. led_then M (g.met.M.MapRead.sound c.args.map.now) slot S
    (g.met.M.MapRead.placed c.args.map.now).apart (label_of f) (label_of c.match-get.bounds) (label_of c.follow.new.bounds)
    first (m S)) c.follow.ensures.led
