use Rattle.olr_input.proofs.Common.{◌≡◌, ◌∙◌, ◌≤◌, ℕ, List, [], Some, None, ap, sym, subst, length, drop, next_record}
use Rattle.olr_input.proofs.Common.{default_config, fields_of, csv_state, TakesOne}
use Rattle.olr_input.proofs.CsvRecords.{Are, none_taken, one_taken}
use Rattle.olr_input.proofs.Writing.{rest_is}
use Rattle.olr_input.proofs.in_memory.InMemorySource.next.Goals as goal

pub returns-in-Ok-Some : goal.returns-in-Ok-Some
returns-in-Ok-Some c =
    let m = c.args.self.now in
    let fields = fields_of c.first_record.new.row in
    let end = c.in-Ok-Some.end in
    let state = csv_state c.in-Ok-Some.state in
    let one : (end ≤ length m.rest.now) × (next_record default_config (csv_state m.state) [] [] m.rest.now ≡ Some (fields, state, drop end m.rest.now)) =
    rw c.in-Ok-Some.field-0-is at c.in-Ok-Some.ensures in
    record {
      takes = rw c.if-self.false
          (subst (λ (xs : List ℕ). TakesOne (Are (csv_state m.state) m.rest.now) (Are state xs) fields)
          (sym (rest_is m.rest.now end))
          (one_taken (csv_state m.state) state m.rest.now (drop end m.rest.now) fields one.1));
      after = λ _. one.1 ∙ ap (λ (xs : List ℕ). Some (fields, state, xs)) (sym (rest_is m.rest.now end));
    }

pub returns-in-Ok-None-clause-takes : goal.returns-in-Ok-None-clause-takes
returns-in-Ok-None-clause-takes c =
    let m = c.args.self.now in
    let none : next_record default_config (csv_state m.state) [] [] m.rest.now ≡ None = rw c.in-Ok-None.field-0-is at c.in-Ok-None.ensures in
    rw c.if-self.false (none_taken (csv_state m.state) m.rest.now none)
