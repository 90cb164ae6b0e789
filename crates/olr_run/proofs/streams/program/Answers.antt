-- How the program ends, by its arguments.
use Rattle.olr_run.proofs.Common.{refl, Carried_out, Explained, Without_sources, Without, With, records_read}
use Rattle.olr_run.proofs.streams.program.Goals as goal

pub returns-in-Err-clause-ends : goal.returns-in-Err-clause-ends
returns-in-Err-clause-ends g c =
    Explained (c.in-Err.fault, c.in-Err.ensures.kinds, c.explain.ensures.explains) refl

pub returns-in-Err-sources-clause-ends : goal.returns-in-Err-sources-clause-ends
returns-in-Err-sources-clause-ends g c =
    Carried_out c.in-Ok.ensures.kinds (rw (← c.in-Ok.ensures.ok) (Without_sources c.in-Err-sources.ensures.refused refl refl))

pub returns-in_default-clause-ends : goal.returns-in_default-clause-ends
returns-in_default-clause-ends g c =
    let s = c.in-Ok-sources.ensures.left in
    Carried_out c.in-Ok.ensures.kinds
    (rw (← c.in-Ok.ensures.ok)
    (Without (rw c.in_default.is refl) s.0 s.1 refl
    (c.without_log.ensures.ends (records_read c.in-Ok.options.lines s.0 (g.R.Read.remaining c.args.input)) s.2)))

pub returns-clause-ends : goal.returns-clause-ends
returns-clause-ends g c =
    let s = c.in-Ok-sources.ensures.left in
    Carried_out c.in-Ok.ensures.kinds
    (rw (← c.in-Ok.ensures.ok)
    (With c.in-Some.name.now (rw c.in-Some.is refl) s.0 s.1 c.in-Ok-sources.sources.1 s.3 c.open-opened.result
    c.open-opened.ensures
    (c.with_log.ensures.ends (records_read c.in-Ok.options.lines s.0 (g.R.Read.remaining c.args.input)) s.2)))
