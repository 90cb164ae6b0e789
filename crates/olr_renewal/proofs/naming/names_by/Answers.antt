use Rattle.olr_renewal.proofs.Common.{◌≡◌, ◌++◌, ◌∷◌, [], refl, List, Item, length, take_all, arith, map, shown_items}
use Rattle.olr_renewal.proofs.Common.{shown_item, ap, string_bytes, String, common_steps}
use Rattle.std.specs.declared.alloc.Global.{Global}
use Rattle.olr_renewal.proofs.SearchedLemmas.{searched_at}
use Rattle.olr_renewal.proofs.Passing.{walked_none, walked_past, walked_one, walked_to, walked_all}
use Rattle.olr_renewal.proofs.NamedPrefix.{names_left, names_taken, unnamed}
use Rattle.olr_renewal.proofs.naming.names_by.Goals as goal

pub is_affected-requires : goal.is_affected-requires
is_affected-requires g c = searched_at _ _ _ _ _ _ _ c.in-Some.ensures.shown
    (c.requires.candidates.searched (omega (arith, c.loop-position-test.true)))

pub loop-position-init : goal.loop-position-init
loop-position-init g c =
    walked_none c.requires.candidates.ascending
    (unnamed (g.met.M.MapRead.sound c.args.update.now.map.now) c.requires.before _ c.requires.candidates.covers _)
    ([], refl, ap (λ (ns : List (String Global)). map string_bytes ns) c.new-names.ensures.items)

pub loop-position-preserved-in_default : goal.loop-position-preserved-in_default
loop-position-preserved-in_default g c =
    walked_past c.requires.candidates.ascending c.loop-position-test.true c.loop-position.invariant c.in_default.ensures.shown

pub loop-position-preserved-then-not-is_affected : goal.loop-position-preserved-then-not-is_affected
loop-position-preserved-then-not-is_affected g c =
    let up = c.requires.candidates.ascending in
    let lt = c.loop-position-test.true in
    let at = c.in-Some.ensures.shown in
    let sound = g.met.M.MapRead.sound c.args.update.now.map.now in
    walked_one up (unnamed sound c.requires.before _ c.requires.candidates.covers _) lt at
    (names_left sound c.requires.before _ _ at _ (c.is_affected.ensures.stays c.if-not-is_affected.true)
    (walked_to up lt c.loop-position.invariant at))

pub loop-position-preserved : goal.loop-position-preserved
loop-position-preserved g c =
    let up = c.requires.candidates.ascending in
    let lt = c.loop-position-test.true in
    let at = c.in-Some.ensures.shown in
    let sound = g.met.M.MapRead.sound c.args.update.now.map.now in
    let grown : map string_bytes c.push.new.self.items
    ≡ map string_bytes c.loop-position.names.items ++ (shown_item c.in-Some.shown).name ∷ [] = grind (arith, common_steps) in
    walked_one up (unnamed sound c.requires.before _ c.requires.candidates.covers _) lt at
    (rw grown (names_taken sound c.requires.before _ _ at _ (c.is_affected.ensures.affected c.if-not-is_affected.false)
    (walked_to up lt c.loop-position.invariant at)))

pub returns : goal.returns
returns g c =
    let is : List Item = shown_items c.args.overlaid in
    rw (take_all (length is) is (omega arith)) at
    (walked_all (omega (arith, c.loop-position-test.false)) c.loop-position.invariant)
