use Rattle.olr_register.proofs.Common.{Some, items, map_before, content_on, change_of}
use Rattle.olr_register.proofs.BatchSteps.{answered_held}
use Rattle.olr_register.proofs.States.{register_moved, right_as}
use Rattle.olr_register.proofs.register.Register.change.Goals as goal

pub hold-requires : goal.hold-requires
hold-requires c = (right_as c.self.inside c.in-Some.is c.self.invariant).register.held

pub invariant_of-self : goal.invariant_of-self
invariant_of-self c =
    let s = c.self.inside in
    let right = right_as s c.in-Some.is c.self.invariant in
    record {
      register =
          register_moved s.margin s.roads c.hold.new.roads (items s.paths) (Some c.in-Some.batch) _ c.hold.ensures.before
          c.hold.ensures.held (c.hold.ensures.margin s.margin right.register.margin) right.register;
      bounded = record {
        under_way = c.hold.ensures.under_way s.searches.bounds right.bounded.under_way;
        sources = right.bounded.sources;
      };
    }

pub returns-in-Some : goal.returns-in-Some
returns-in-Some c =
    let s = c.self.inside in
    let b = c.in-Some.batch in
    rw (← c.self.view_is, c.in-Some.is, c.hold.ensures.before)
    (answered_held (content_on s.margin (map_before s.roads b.log) (items s.paths)) s.roads c.hold.new.roads (items s.paths) b
    c.hold.new.self (change_of c.args.change) s.work c.hold.result c.hold.ensures)
