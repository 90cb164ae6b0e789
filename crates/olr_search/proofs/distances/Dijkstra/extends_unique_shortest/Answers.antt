use Rattle.olr_search.proofs.Common.{◌≡◌, ◌+◌, ◌≤◌, ◌++◌, ◌∷◌, [], ℕ, List, IsSearch, UniqueShortest, IsOnlyPredecessor, sym, ap}
use Rattle.olr_search.proofs.Common.{subst, arith, ◌∙◌, ◌↔◌, IsTrue, label_of, start, end, dm, dm_of, Along, Against, lines_in}
use Rattle.olr_search.proofs.Common.{false≢true, ResolvedLine, Margin, counted}
use Rattle.olr_model.specs.Ends.{ends_in}
use Rattle.olr_search.proofs.CountingLemmas.{reported_as}
use Rattle.olr_search.proofs.WayLemmas.{as_many}
use Rattle.olr_search.proofs.distances.Dijkstra.extends_unique_shortest.Given.{Over}
use Rattle.olr_search.proofs.distances.Dijkstra.extends_unique_shortest.Goals.{After-saturating_add, After-in_lines_at-entering}
use Rattle.olr_search.proofs.distances.Dijkstra.extends_unique_shortest.Goals as goal

-- the result, by what is read
read : (g : Over) (c : After-saturating_add g) (m : Margin) (s b : ℕ) (route : List ℕ) →
    let M = g.M.MapRead.map c.args.map.now in
    let x = c.args.line.id in
    let N = counted m M (route ++ x ∷ []) in
    let length = c.label-length.result in
    IsSearch N (g.M.MapRead.node_slot c.args.map.now) Along ((s, b) ∷ []) c.args.self.now → c.args.line.len ≡ dm N x →
    UniqueShortest N s (start M x) route → b + (dm_of N route + c.args.line.len) ≤ c.args.self.now.limit + 1 →
    ((c.label.result + c.args.line.len ≡ length) × IsOnlyPredecessor M (g.M.MapRead.node_slot c.args.map.now)
    c.args.self.now.frontier x (end M x) length) ↔ UniqueShortest N s (end M x) (route ++ x ∷ [])
read g c m s b route h len unique short =
    let labels = label_of c.args.self.now.frontier in
    reported_as m (g.M.MapRead.map c.args.map.now) (g.M.MapRead.node_slot c.args.map.now) c.args.line.id route
    c.requires.known s b c.args.self.now h c.args.line.len len unique short _ _ (c.label.ensures ∙ ap labels (ap (λ (r : ResolvedLine). r.from_slot) c.line.view_is ∙ c.requires.from))
    (c.label-length.ensures ∙ ap labels (ap (λ (r : ResolvedLine). r.to_slot) c.line.view_is ∙ c.requires.to))

pub in_lines_at-entering-requires : goal.in_lines_at-entering-requires
in_lines_at-entering-requires g c = (
  end (g.M.MapRead.map c.args.map.now) c.args.line.id,
  (g.met.M.MapRead.sound c.args.map.now).ends c.args.line.id c.requires.known,
  sym (ap (λ (r : ResolvedLine). r.to_slot) c.line.view_is ∙ c.requires.to),
)

-- the lines that enter the end of the line
entering : (g : Over) (c : After-in_lines_at-entering g) →
    let M = g.M.MapRead.map c.args.map.now in
    let v = end M c.args.line.id in
    (c.in_lines_at-entering.result.lines.now ≡ lines_in M v)
    × (c.in_lines_at-entering.result.ends.now ≡ ends_in M (g.M.MapRead.node_slot c.args.map.now) v)
entering g c =
    let M = g.M.MapRead.map c.args.map.now in
    let v = end M c.args.line.id in
    let there = (g.met.M.MapRead.sound c.args.map.now).ends c.args.line.id c.requires.known in
    let at = sym (ap (λ (r : ResolvedLine). r.to_slot) c.line.view_is ∙ c.requires.to) in
    (c.in_lines_at-entering.ensures.lines v there at, c.in_lines_at-entering.ensures.ends v there at)

pub is_only_predecessor-requires : goal.is_only_predecessor-requires
is_only_predecessor-requires g c =
    let e = entering g (goal.at.is_only_predecessor-requires g c).After-in_lines_at-entering in
    let many =
    as_many (g.M.MapRead.map c.args.map.now) (g.M.MapRead.node_slot c.args.map.now) Against
    (end (g.M.MapRead.map c.args.map.now) c.args.line.id) _ _ e.0 e.1 in omega arith

pub returns-then-saturating_add-length : goal.returns-then-saturating_add-length
returns-then-saturating_add-length g c = λ m s b route h len unique short. (
  λ e. absurd (false≢true e),
  λ whole.
      let at = (goal.at.returns-then-saturating_add-length g c).After-saturating_add in
      let sum = (read g at m s b route h len unique short).1 whole in
      let low = h.under_way.labelled.low c.line.inside.to_slot in
      let same = ap (λ (r : ResolvedLine). r.len) c.line.view_is in
      absurd (c.if-saturating_add-length.true (omega (arith, sum.0))),
)

pub returns : goal.returns
returns g c = λ m s b route h len unique short.
    let M = g.M.MapRead.map c.args.map.now in
    let k = read g (goal.at.returns g c).After-saturating_add m s b route h len unique short in
    let e = entering g (goal.at.returns g c).After-in_lines_at-entering in
    let same = ap (λ (r : ResolvedLine). r.len) c.line.view_is in
    let only =
    subst (λ (x : ℕ). IsTrue c.is_only_predecessor.result
    ↔ IsOnlyPredecessor M (g.M.MapRead.node_slot c.args.map.now) c.args.self.now.frontier x (end M c.args.line.id)
    c.label-length.result) (ap (λ (r : ResolvedLine). r.id) c.line.view_is)
    (c.is_only_predecessor.ensures M (g.M.MapRead.node_slot c.args.map.now) (end M c.args.line.id) e.0 e.1) in (
      λ yes. k.0 (let low = h.under_way.labelled.low c.line.inside.to_slot in omega (arith, same), only.0 yes),
      λ whole. only.1 (k.1 whole).1,
    )
