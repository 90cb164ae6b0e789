use Rattle.olr_register.proofs.Common.{false, refl, sym, none_of, items}
use Rattle.olr_register.proofs.BatchSteps.{IsEmpty, begun_held, begin_done}
use Rattle.olr_register.proofs.WithoutBatch.{open_refused}
use Rattle.olr_register.proofs.register.Register.begin.Goals as goal

pub returns-then-is_some : goal.returns-then-is_some
returns-then-is_some c = open_refused c.self.inside c.self.view_is c.if-is_some.ensures (λ d xs. refl)

empty : (c : goal.After-new-4) →
    IsEmpty c.self.inside.margin (record {
      log = c.new.result;
      overlay = c.new-2.result;
      margin = c.self.inside.margin;
      all = false;
      count = 0;
      touched = c.new-3.result;
    })
empty c = record {
  log = c.new.ensures;
  paths = c.new-2.ensures;
  margin = refl;
  count = refl;
  nodes = c.new-3.ensures.nodes;
  lines = c.new-3.ensures.lines;
  changed = c.new-3.ensures.changed;
}

pub invariant_of-self : goal.invariant_of-self
invariant_of-self c =
    let s = c.self.inside in
    let none = none_of s.batch (sym c.if-is_some.ensures) in
    rw c.replace.ensures.after (begun_held s.margin s.roads (items s.paths) _ s.searches.bounds (rw none at c.self.invariant) (empty c))

pub returns : goal.returns
returns c =
    let s = c.self.inside in
    let none = none_of s.batch (sym c.if-is_some.ensures) in
    rw (← c.self.view_is, none, c.replace.ensures.after)
    (begin_done s.margin s.roads (items s.paths) _ s.searches.bounds (rw none at c.self.invariant) (empty c) _ _
    (rw c.new-4.ensures.items))
