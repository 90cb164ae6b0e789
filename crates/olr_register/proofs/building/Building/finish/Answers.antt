use Rattle.olr_register.proofs.Common.{refl, true, to_renew, items, map_of}
use Rattle.olr_register.proofs.Built.{each_encoded_once, same_content}
use Rattle.olr_register.proofs.Touched.{begins_none, can_set}
use Rattle.olr_register.proofs.Renewed.{reencoded_encoded}
use Rattle.olr_register.proofs.building.Building.finish.Goals as goal

pub renew-requires : goal.renew-requires
renew-requires c =
    let r = c.self.inside in
    let is = items r.paths in
    let M = map_of r.roads in
    let sound = c.self.invariant in
    rw (c.new-none.ensures is) (record {
      renewable = (M, can_set r.margin r.margin sound.margin M is c.new-touched.result c.new-touched.ensures.changed sound);
      bounded = record {
        under_way = c.new-searches.ensures _ _ _;
        sources = λ v on. absurd (begins_none is v on);
      };
    })

pub invariant_of-result : goal.invariant_of-result
invariant_of-result c =
    let r = c.self.inside in
    let is = items r.paths in
    let js = items c.renew.new.paths in
    let M = map_of r.roads in
    let e = c.in_ok-entries.ensures in
    let renewal = rw (c.new-none.ensures is) at e.renewed in
    record {
      register = record {
        content = rw (same_content r.margin M is js _ _ renewal) c.self.invariant;
        encoded = reencoded_encoded r.margin M (to_renew true is) js renewal.reencoded;
        held = tt;
        margin = tt;
      };
      bounded = e.bounded;
    }

pub returns-clause-state : goal.returns-clause-state
returns-clause-state c =
    let r = c.self.inside in
    let is = items r.paths in
    let renewal = rw (c.new-none.ensures is) at c.in_ok-entries.ensures.renewed in
    rw (← c.self.view_is, same_content r.margin (map_of r.roads) is (items c.renew.new.paths) _ _ renewal) refl

pub returns-clause-counted : goal.returns-clause-counted
returns-clause-counted c =
    let r = c.self.inside in
    let is = items r.paths in
    let renewal = rw (c.new-none.ensures is) at c.in_ok-entries.ensures.renewed in
    each_encoded_once r.margin (map_of r.roads) is (items c.renew.new.paths) _ _ renewal c.self.invariant c.new-touched.ensures.changed
