use Rattle.olr_refs.proofs.Common.{◌+◌, ◌-◌, if◌then◌else◌, ◌≡◌, arith, refl, rules, get_or, Some}
use Rattle.olr_refs.proofs.Common.{KnownQuery, answers_always, Found}
use Rattle.olr_refs.proofs.Reusing.{found_at, answered_known}
use Rattle.olr_refs.proofs.reuse.known_after.Goals.{then-known-2, else-known-2}
use Rattle.olr_refs.proofs.reuse.known_after.Goals as goal

pub returns : goal.returns
returns g c =
    let found = c.binary_search_by_key in
    let by_key = found.ensures.position (λ e. e.first) (answers_always _ _ _ (λ f a r g called. search rules)) in
    let known : KnownQuery = get_or c.args.reuse.now.known.now c.in_ok-k.k c.index-reuse-k.result in
    let at =
    found_at _ c.in_ok-first.first found.result by_key found.ensures.bound c.in_ok-k.k
    c.in_ok-k.ensures.value c.index-reuse-k.result in
    let reach : c.if-known-2.reach ≡ (if known.covered then c.args.last_near else c.args.reuse.now.lead + known.last - 1) =
    elim c.if-known-2.branch [ then-known-2 w ↦ grind arith | else-known-2 w ↦ grind arith ] in
    let result : Found =
    record { reach = c.if-known-2.reach; query = c.known.inside.query; own = Some known } in
    let query : c.known.inside.query ≡ known.query = grind arith in
    answered_known _ _ (g.met.M.MapRead.sound c.args.resolved.now.map.now) _ _
    c.requires.reuse c.args.resolved.now.joined _ _ c.requires.some c.requires.last_near known at.0
    (omega arith) (grind arith, λ t. grind arith) result reach query refl
