-- The reply begins empty, so what was written is the reply.
use Rattle.olr_c.proofs.keep.Keep.ask.Goals as goal

pub returns : goal.returns
returns c =
    let run = c.run_bytes-ended in
    (run.result, rw (← c.clear.ensures.items) run.ensures.ended, c.code_of.ensures)
