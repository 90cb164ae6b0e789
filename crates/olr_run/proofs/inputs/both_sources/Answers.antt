use Rattle.olr_run.proofs.Common.{input_records, None, Some, []}
use Rattle.olr_input.specs.Inputs.{InputLeft}
use Rattle.olr_run.proofs.InputRuns.{none_left, both_left}
use Rattle.olr_run.proofs.inputs.both_sources.Goals.{in-Some+in_ok-new-in-Some, in-None}
use Rattle.olr_run.proofs.inputs.both_sources.Goals as goal

pub returns : goal.returns
returns g c =
    let both = both_left (InputLeft g.F.Read.remaining) (InputLeft g.R.Read.remaining) in
    let second = input_records c.args.single (g.R.Read.remaining c.args.input) in
    rw (c.new-3.ensures.first, c.new-3.ensures.second) (elim c.match-file.branch [
      | in-Some+in_ok-new-in-Some w ↦ rw (w.first-is, w.in-Some.is)
          (both (Some w.in_ok-new-in-Some.field-0) c.in_ok-second.second _ second w.in_ok-new-in-Some.ensures c.in_ok-second.ensures)
      | in-None w ↦ rw (w.first-is, w.in-None.is) (both None c.in_ok-second.second (input_records c.args.single (Some [])) second
          (none_left c.args.single) c.in_ok-second.ensures)
    ])
