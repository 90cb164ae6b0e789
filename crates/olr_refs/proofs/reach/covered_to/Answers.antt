use Rattle.olr_refs.proofs.Common.{◌≡◌, ◌+◌, ◌≤◌, ℕ, refl, true, false, [], ◌∷◌, List, ap, subst, arith, Along, IsSearch, Map}
use Rattle.olr_refs.proofs.Common.{IsMap, common_steps, CountedTo, ResolvedLine, end, slice_index, stretch, begun_at, MayMark}
use Rattle.olr_refs.proofs.Joined.{known_at}
use Rattle.olr_refs.proofs.Reaching.{IsLine, Tests, tests_start, all_covered, covered_so_far, near_after, line_near}
use Rattle.olr_refs.proofs.Reaching.{may_mark, small_on, goes_on_to}
use Rattle.olr_refs.proofs.reach.covered_to.Given.{Over}
use Rattle.olr_refs.proofs.reach.covered_to.Goals.{After-counted_line-line}
use Rattle.olr_refs.proofs.reach.covered_to.Goals as goal

pub loop-k-init : goal.loop-k-init
loop-k-init g c =
    let M = g.M.MapRead.map c.args.resolved.now.map.now in
    let slot = g.M.MapRead.node_slot c.args.resolved.now.map.now in
    tests_start _ M (g.met.M.MapRead.sound c.args.resolved.now.map.now) slot
    _ _ c.begin.new.self c.args.resolved.now.joined c.requires.some
    (coe 0 1 (j. IsSearch M slot Along ((c.end.ensures.value j, c.begun_at-begun.ensures.value j) ∷ []) c.begin.new.self)
    c.in_ok-begin.ensures.search) c.in_ok-begin.ensures.limit

pub counted_line-line-requires-clause-short : goal.counted_line-line-requires-clause-short
counted_line-line-requires-clause-short g c =
    line_near c.args.resolved.now.margin (g.M.MapRead.map c.args.resolved.now.map.now)
    (g.met.M.MapRead.sound c.args.resolved.now.map.now) c.args.resolved.now.lines.now c.args.i c.args.last_near
    c.args.resolved.now.joined c.requires.last_near c.loop-k.k (omega arith) (omega arith)

-- line k
module _ (g : Over) (c : After-counted_line-line g) where
  abbrev M : Map
  M = g.M.MapRead.map c.args.resolved.now.map.now

  abbrev slot : ℕ → ℕ
  slot = g.M.MapRead.node_slot c.args.resolved.now.map.now

  abbrev ls : List ℕ
  ls = c.args.resolved.now.lines.now

  m : IsMap M
  m = g.met.M.MapRead.sound c.args.resolved.now.map.now

  abbrev line : ResolvedLine
  line = c.counted_line-line.result

  is_line : IsLine c.args.resolved.now.margin M slot ls c.loop-k.k line
  is_line = record { value = c.counted_line-line.ensures.value; most = c.counted_line-line.ensures.most }

  few : c.loop-k.within + line.len ≤ 300000
  few = omega (
    arith,
    small_on c.args.resolved.now.margin M m slot ls c.args.resolved.now.joined c.args.i c.loop-k.k (omega arith)
        (omega arith) line is_line c.loop-k.within c.loop-k.search c.loop-k.invariant,
    near_after c.args.resolved.now.margin M m ls c.args.i c.args.last_near c.args.resolved.now.joined c.requires.last_near
        (c.loop-k.k + 1) (omega arith) (omega arith),
  )

  may : MayMark c.args.resolved.now.margin M slot (stretch ls (c.args.i + 1) c.loop-k.k)
      ((end M (slice_index ls c.args.i), begun_at c.args.resolved.now.margin) ∷ []) line c.loop-k.search
  may = may_mark c.args.resolved.now.margin M m slot ls c.args.resolved.now.joined c.args.i c.loop-k.k (omega arith)
      (omega arith) line is_line c.loop-k.within c.loop-k.search c.loop-k.invariant c.begun_at-begun.ensures.margin

pub overflow_add-within : goal.overflow_add-within
overflow_add-within g c =
    record {
      fits = omega (
        arith,
        few g (goal.at.overflow_add-within g c).After-counted_line-line,
        ap (λ (r : ResolvedLine). r.len) c.line.view_is,
      );
    }

pub settle_counting-requires-clause-small : goal.settle_counting-requires-clause-small
settle_counting-requires-clause-small g c = omega (
  arith,
  few g (goal.at.settle_counting-requires-clause-small g c).After-counted_line-line,
  ap (λ (r : ResolvedLine). r.len) c.line.view_is,
)

pub settle_counting-requires-clause-begun : goal.settle_counting-requires-clause-begun
settle_counting-requires-clause-begun g c =
    (_, _, may g (goal.at.settle_counting-requires-clause-begun g c).After-counted_line-line)

pub loop-k-preserved : goal.loop-k-preserved
loop-k-preserved g c =
    let at = (goal.at.loop-k-preserved g c).After-counted_line-line in
    let on =
    goes_on_to _ (M g at) (m g at) _ _ c.args.resolved.now.joined _ c.loop-k.k (omega arith) (omega arith) _ (is_line g at)
    _ _ c.loop-k.invariant _ (c.in_ok-settle_counting.ensures.search _ _ (may g at)) _
    (ap (λ (r : ResolvedLine). c.loop-k.within + r.len) c.line.view_is) c.in_ok-settle_counting.ensures.limit _
    c.extends_unique_shortest.ensures in
    record {
      search = on.search;
      settled = on.settled;
      long = on.long;
      small = on.small;
      whether = ((λ _. on.whether.0 c.if-not-extends_unique_shortest.false), λ _. refl);
    }

pub returns-then-not-extends_unique_shortest : goal.returns-then-not-extends_unique_shortest
returns-then-not-extends_unique_shortest g c =
    let at = (goal.at.returns-then-not-extends_unique_shortest g c).After-counted_line-line in
    let on =
    goes_on_to _ (M g at) (m g at) _ _ c.args.resolved.now.joined _ c.loop-k.k (omega arith) (omega arith) _ (is_line g at)
    _ _ c.loop-k.invariant _ (c.in_ok-settle_counting.ensures.search _ _ (may g at)) _
    (ap (λ (r : ResolvedLine). c.loop-k.within + r.len) c.line.view_is) c.in_ok-settle_counting.ensures.limit _
    c.extends_unique_shortest.ensures in
    let no_more : ¬ CountedTo c.args.resolved.now.margin (M g at) (ls g at) c.args.i (c.loop-k.k + 1) = λ u.
    let is : c.extends_unique_shortest.result ≡ true = on.whether.1 u in
    let is_not : c.extends_unique_shortest.result ≡ false = c.if-not-extends_unique_shortest.true in
    cc in
    let t =
    covered_so_far _ (M g at) (m g at) (ls g at) _ _ c.args.resolved.now.joined
    c.requires.last_near c.loop-k.k (omega arith) (omega arith) (c.loop-k.invariant.whether.0 refl) no_more in
    record { reach = t.0; last = t.1; long = on.long }

pub returns : goal.returns
returns g c =
    let ls = c.args.resolved.now.lines.now in
    let margin = c.args.resolved.now.margin in
    let M = g.M.MapRead.map c.args.resolved.now.map.now in
    let slot = g.M.MapRead.node_slot c.args.resolved.now.map.now in
    let end : c.loop-k.k ≡ c.max-end.result = omega arith in
    let t = subst (λ (n : ℕ). Tests margin M slot ls c.args.i n c.loop-k.within true c.loop-k.search) end c.loop-k.invariant in
    let all =
    all_covered margin M (g.met.M.MapRead.sound c.args.resolved.now.map.now) ls _ _
    c.args.resolved.now.joined c.requires.last_near c.max-end.result c.requires.some (omega arith) (t.whether.0 refl) in
    record { reach = all.0; last = all.1; long = t.long }

pub extends_unique_shortest-requires : goal.extends_unique_shortest-requires
extends_unique_shortest-requires g c =
    let at = known_at (g.M.MapRead.map c.args.resolved.now.map.now) _ c.loop-k.k c.args.resolved.now.joined (omega arith) in
    record { known = grind (arith, at); from = grind (arith, common_steps); to = grind (arith, common_steps) }
