use Rattle.olr_input.proofs.Common.{◌∙◌, ap, strip_bom, option_map, input_left}
use Rattle.olr_input.proofs.SessionLemmas.{begins}
use Rattle.olr_input.proofs.sources.Records.new.Goals as goal

pub returns : goal.returns
returns g c =
    let r = c.from_reader-reader.ensures in
    begins (input_left g.R.Read.remaining) c.from_reader-reader.result c.from_reader-reader.result (g.R.Read.remaining c.args.input) r.fresh r.state
    (r.source ∙ ap (option_map strip_bom) c.in_ok-blocks.ensures.left)
