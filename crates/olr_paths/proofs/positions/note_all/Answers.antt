use Rattle.olr_paths.proofs.Common.{◌≡◌, ◌∙◌, get_or, subst, sym, arith, get_or_default, length, ◌≤◌, List}
use Rattle.olr_paths.proofs.Common.{take_all, AreNotedAt, IsNoted}
use Rattle.olr_paths.proofs.PathIdLemmas.{NamedNoted, noted_at}
use Rattle.olr_paths.proofs.NotedPositions.{One, NotedAt, at_more}
use Rattle.olr_paths.proofs.positions.note_all.Goals as goal

pub note-requires : goal.note-requires
note-requires c =
    let l = c.loop-position.list in
    subst (IsNoted l.finder c.index-path_id.result.now) (sym c.keys-in-loop-position.ensures)
    (noted_at l _ _ (c.in-Some.field-0-0.now, c.in-Some.current.now) c.index-path_id.ensures (sym c.in-Some.ensures.entry))

pub loop-position-preserved : goal.loop-position-preserved
loop-position-preserved c =
    let l = c.loop-position.list in
    let ms = l.path_ids.items in
    let g = c.note.new.self in
    let r : One = c.loop-position-item.result in
    let one : NotedAt ms g r = λ low.
    let is : c.index-path_id.result.now ≡ get_or ms r.0 0 =
    c.index-path_id.ensures ∙ get_or_default ms r.0 c.index-path_id.result.now 0 low in
    subst (λ (m : _). NamedNoted g m r.1) is (subst (IsNoted g c.index-path_id.result.now) c.keys.ensures c.in_ok-note.ensures.noted) in (
      at_more ms l.finder g _ _ r c.loop-position-test.true c.note.ensures.grows c.loop-position.invariant.0
          (subst (λ (y : One). NotedAt ms g y) c.loop-position-item.is one),
      c.loop-position.invariant.1,
    )

pub returns-clause-noted : goal.returns-clause-noted
returns-clause-noted c =
    let l = c.loop-position.list in
    let all : length c.args.fresh.now ≤ c.loop-position.position-index = omega (arith, c.loop-position-test.false) in
    subst (λ (ys : List One). AreNotedAt l.path_ids.items l.finder ys) (take_all _ _ all) c.loop-position.invariant.0
