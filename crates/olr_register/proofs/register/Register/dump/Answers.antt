use Rattle.olr_register.proofs.Common.{refl, sym, list_all, and_parts, map_of, is_name, is_recordable_map, items, all_named}
use Rattle.olr_register.proofs.Common.{ByState, Dumped, No_memory, Lacks_memory}
use Rattle.olr_register.proofs.WithoutBatch.{open_refused, shut_answered, shut_refused}
use Rattle.olr_register.proofs.register.Register.dump.Goals as goal

pub returns-then-is_some : goal.returns-then-is_some
returns-then-is_some c = open_refused c.self.inside c.self.view_is c.if-is_some.ensures (λ d xs. refl)

pub returns-then-not-is_recordable : goal.returns-then-not-is_recordable
returns-then-not-is_recordable c =
    shut_refused c.self.inside c.self.view_is c.if-is_some.ensures _ refl (ByState (rw (← c.if-not-is_recordable.ensures)))

pub dump_of-requires : goal.dump_of-requires
dump_of-requires c =
    let r = c.self.inside in
    record {
      recordable = (and_parts (is_recordable_map (map_of r.roads))
          (list_all (λ p. is_name p.name) (all_named (items r.paths))) (sym c.if-not-is_recordable.ensures)).0;
    }

pub returns : goal.returns
returns c =
    shut_answered c.self.inside c.self.view_is c.if-is_some.ensures refl
    (rw (← c.if-not-is_recordable.ensures), λ i. Dumped (c.in_ok-dump_of.ensures.0 i) (c.in_ok-dump_of.ensures.1 i))

pub returns-in_err-dump_of : goal.returns-in_err-dump_of
returns-in_err-dump_of c =
    shut_refused c.self.inside c.self.view_is c.if-is_some.ensures No_memory c.from_residual.ensures.1
    (Lacks_memory refl (rw (← c.if-not-is_recordable.ensures)))
