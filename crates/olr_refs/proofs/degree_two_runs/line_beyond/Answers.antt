use Rattle.olr_refs.proofs.Common.{◌≡◌, ◌≢◌, ℕ, Map, Option, Some, None, MatchOption, IsTrue, has_node, has_line, ap, sym, ◌∙◌}
use Rattle.olr_refs.proofs.Common.{subst, arith, both_ways, passing, near_end, far_end, LeadsOn, length, IsMap, lines_at}
use Rattle.olr_refs.proofs.Common.{ends_at, Direction, far_node, near_node, as_many}
use Rattle.olr_refs.proofs.degree_two_runs.line_beyond.Given.{Over}
use Rattle.olr_refs.proofs.degree_two_runs.line_beyond.Goals.{After-lines_from-leaving}
use Rattle.olr_refs.proofs.degree_two_runs.line_beyond.Goals as goal

pub passing_at-requires-clause-there : goal.passing_at-requires-clause-there
passing_at-requires-clause-there g c =
    let M = g.M.MapRead.map c.args.map.now in
    let ends = c.ends_of-near.ensures M (g.M.MapRead.node_slot c.args.map.now) c.requires.is in
    subst (λ (v : ℕ). IsTrue (has_node M v)) (sym ends.1) (far_node _ (g.met.M.MapRead.sound c.args.map.now) _ _ c.requires.known)

pub passing_at-requires-clause-at : goal.passing_at-requires-clause-at
passing_at-requires-clause-at g c =
    let slot = g.M.MapRead.node_slot c.args.map.now in
    let ends = c.ends_of-near.ensures (g.M.MapRead.map c.args.map.now) slot c.requires.is in
    ap slot ends.1 ∙ sym ends.2

pub returns-then-not-passing_at : goal.returns-then-not-passing_at
returns-then-not-passing_at g c =
    let M = g.M.MapRead.map c.args.map.now in
    let ends = c.ends_of-near.ensures M (g.M.MapRead.node_slot c.args.map.now) c.requires.is in
    let node = sym c.if-not-passing_at.true ∙ c.passing_at.ensures ∙ ap (passing M) ends.1 in
    record { node = node; next = λ x p. both_ways _ (sym node) (ap (passing M) (sym p.joins) ∙ p.through) }

pub lines_from-leaving-requires : goal.lines_from-leaving-requires
lines_from-leaving-requires g c =
    let ends =
    c.ends_of-near.ensures (g.M.MapRead.map c.args.map.now) (g.M.MapRead.node_slot c.args.map.now) c.requires.is in
    (_, far_node _ (g.met.M.MapRead.sound c.args.map.now) _ _ c.requires.known, sym ends.2)

-- the lines that are entered there
module _ (g : Over) (c : After-lines_from-leaving g) where
  abbrev M : Map
  M = g.M.MapRead.map c.args.map.now

  abbrev slot : ℕ → ℕ
  slot = g.M.MapRead.node_slot c.args.map.now

  abbrev far : ℕ
  far = far_end M c.args.direction c.args.line.id

  lines : c.lines_from-leaving.result.lines.now ≡ lines_at M c.args.direction far
  lines = c.lines_from-leaving.ensures.lines far (far_node (g.M.MapRead.map c.args.map.now) (g.met.M.MapRead.sound c.args.map.now) c.args.direction c.args.line.id c.requires.known) (sym (c.ends_of-near.ensures M slot c.requires.is).2)

  ends : c.lines_from-leaving.result.ends.now ≡ ends_at M slot c.args.direction far
  ends = c.lines_from-leaving.ensures.ends far (far_node (g.M.MapRead.map c.args.map.now) (g.met.M.MapRead.sound c.args.map.now) c.args.direction c.args.line.id c.requires.known) (sym (c.ends_of-near.ensures M slot c.requires.is).2)

  pub many : length c.lines_from-leaving.result.ends.now ≡ length c.lines_from-leaving.result.lines.now
  many = as_many M slot c.args.direction far _ _ lines ends

pub first_apart-requires : goal.first_apart-requires
first_apart-requires g c =
    let same = many g (goal.at.first_apart-requires g c).After-lines_from-leaving in omega arith

-- the one of these lines that leads on
beyond : (M : Map) (m : IsMap M) (slot : ℕ → ℕ) (d : Direction) (z : ℕ) (o : Option ℕ) →
    ((v w : ℕ) → IsTrue (has_node M v) → IsTrue (has_node M w) → slot v ≡ slot w → v ≡ w) → IsTrue (has_line M z) →
    IsTrue (passing M (far_end M d z)) →
    MatchOption o
    ((x : ℕ) → IsTrue (has_line M x) → near_end M d x ≡ far_end M d z → slot (far_end M d x) ≡ slot (near_end M d z))
    (λ x. IsTrue (has_line M x) × (near_end M d x ≡ far_end M d z) × (slot (far_end M d x) ≢ slot (near_end M d z))) →
    MatchOption o ((x : ℕ) → ¬ LeadsOn M d z x) (LeadsOn M d z)
beyond M m slot d z None own known t all =
    λ x p. p.onward (own _ _ (far_node M m d x p.known) (near_node M m d z known) (all x p.known p.joins))
beyond M m slot d z (Some x) own known t k =
    record {
      known = k.0;
      joins = k.1;
      through = subst (λ (v : ℕ). IsTrue (passing M v)) (sym k.1) t;
      onward = λ e. k.2 (ap slot e);
    }

pub returns : goal.returns
returns g c =
    let M = g.M.MapRead.map c.args.map.now in
    let slot = g.M.MapRead.node_slot c.args.map.now in
    let d = c.args.direction in
    let z = c.args.line.id in
    let at = (goal.at.returns g c).After-lines_from-leaving in
    let is = c.ends_of-near.ensures M slot c.requires.is in
    let node = sym c.if-not-passing_at.false ∙ c.passing_at.ensures ∙ ap (passing M) is.1 in
    let found =
    subst (λ (other : ℕ). MatchOption c.first_apart.result
    ((x : ℕ) → IsTrue (has_line M x) → near_end M d x ≡ far_end M d z → slot (far_end M d x) ≡ other)
    (λ x. IsTrue (has_line M x) × (near_end M d x ≡ far_end M d z) × (slot (far_end M d x) ≢ other))) is.0
    (c.first_apart.ensures M slot d (far_end M d z) (lines g at) (ends g at)) in
    record {
      node = node;
      next = beyond M (g.met.M.MapRead.sound c.args.map.now) slot d z c.first_apart.result
          (g.met.M.MapRead.placed c.args.map.now).apart c.requires.known (sym node) found;
    }
