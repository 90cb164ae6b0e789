use Rattle.olr_refs.proofs.Common.{◌≡◌, ◌∙◌, ℕ, IsTrue, has, has_line, map, start, end, arith, is_some, map-map, lines_in}
use Rattle.olr_refs.proofs.Common.{lines_out, no_line, passes_between, unwrap_or}
use Rattle.olr_spec.proofs.OrderLemmas.{exactly_in, exactly_out}
use Rattle.olr_refs.proofs.BySlots.{by_slots}
use Rattle.olr_refs.proofs.nodes.passing_at.Goals as goal

pub returns : goal.returns
returns g c =
    let M = g.M.MapRead.map c.args.map.now in
    let m = g.met.M.MapRead.sound c.args.map.now in
    let slot = g.M.MapRead.node_slot c.args.map.now in
    let v = c.args.node in
    let read : c.passes_between.result
    ≡ passes_between (slot v) (map (λ x. slot (start M x)) (lines_in M v)) (map (λ y. slot (end M y)) (lines_out M v)) =
    c.passes_between.ensures
    ∙ simp (
      c.in_lines_at-entering.ensures.ends v c.requires.there c.requires.at,
      c.out_lines_at-leaving.ensures.ends v c.requires.there c.requires.at,
      map-map,
      c.requires.at,
    ) in
    let entering : (x : ℕ) → IsTrue (has (lines_in M v) x) → IsTrue (has_line M x) =
    λ x h. grind (arith, exactly_in, is_some, unwrap_or, no_line) in
    let leaving : (x : ℕ) → IsTrue (has (lines_out M v) x) → IsTrue (has_line M x) =
    λ x h. grind (arith, exactly_out, is_some, unwrap_or, no_line) in
    read
    ∙ by_slots M slot (g.met.M.MapRead.placed c.args.map.now).apart v c.requires.there (start M) (end M) (lines_in M v)
    (lines_out M v) (λ x h. m.starts x (entering x h)) (λ y h. m.ends y (leaving y h))
