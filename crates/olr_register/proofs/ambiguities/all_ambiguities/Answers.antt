use Rattle.olr_register.proofs.Common.{sym, map, items, map_of, named, found_of}
use Rattle.olr_register.proofs.Ambiguous.{ambiguities_all, ambiguities_next, known_at}
use Rattle.olr_register.proofs.DumpTexts.{none_missing}
use Rattle.olr_register.proofs.ambiguities.all_ambiguities.Goals as goal

pub found_on-requires-clause-known : goal.found_on-requires-clause-known
found_on-requires-clause-known c =
    rw c.known_of-known.ensures
    (known_at c.args.margin (map_of c.args.roads.now) (items c.args.paths.now) c.loop-k.k _ c.requires.encoded
    (sym c.in-Some.ensures))

pub loop-k-preserved : goal.loop-k-preserved
loop-k-preserved c =
    let name = c.in-Some.name.now in
    rw (c.in_ok-push_found.ensures, c.deref.ensures.value)
    (ambiguities_next c.args.margin (map_of c.args.roads.now) (items c.args.paths.now) c.loop-k.k _ (sym c.in-Some.ensures) _
    (map (named name) (map found_of c.in_ok-found.found.items)) c.loop-k.invariant (c.in_ok-found.ensures name))

pub unreachable-requires : goal.unreachable-requires
unreachable-requires c =
    none_missing (items c.args.paths.now) c.loop-k.k _ c.in_default.ensures c.len-k-end.ensures.len c.loop-k-test.true

pub found_on-requires-clause-grid : goal.found_on-requires-clause-grid
found_on-requires-clause-grid c = c.requires.grid

pub loop-k-init : goal.loop-k-init
loop-k-init c = rw c.new-all.ensures.items

pub returns : goal.returns
returns c =
    ambiguities_all c.args.margin (map_of c.args.roads.now) (items c.args.paths.now) _ c.loop-k.k _ c.len-k-end.ensures.len
    c.loop-k-test.false c.loop-k.invariant
