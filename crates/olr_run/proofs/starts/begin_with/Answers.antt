-- A start, from the contracts of its parts.
use Rattle.olr_run.proofs.FromLogs.{begins_from, unbegun_after}
use Rattle.olr_run.proofs.Common.{err_from_is_err_and, inl}
use Rattle.olr_run.proofs.starts.begin_with.Goals as goal

pub returns-clause-begun : goal.returns-clause-begun
returns-clause-begun g c = (
  c.read_log.new.log,
  begins_from c.args.log.now c.read_log.new.log c.prepare_log.new.log c.in_ok-register.register c.is_sound.ensures
      c.read_log.ensures.kind c.read_log.ensures.stored c.read_log.ensures.less c.in_ok-register.ensures.content
      c.in_ok-prepare_log.ensures.kind c.in_ok-prepare_log.ensures.foreign
      c.in_ok-prepare_log.ensures.durable,
)

pub returns-in_err-register-clause-unbegun : goal.returns-in_err-register-clause-unbegun
returns-in_err-register-clause-unbegun g c =
    let p = err_from_is_err_and c.from_residual.result c.from_residual.ensures.1 in
    rw p.1
    (rw p.2 (
      c.read_log.new.log,
      c.read_log.ensures.stored,
      λ t left. inl (c.read_log.ensures.less t left),
      c.in_err-register.ensures.refused,
      c.in_err-register.ensures.many,
    ))

pub returns-in_err-prepare_log-clause-unbegun : goal.returns-in_err-prepare_log-clause-unbegun
returns-in_err-prepare_log-clause-unbegun g c =
    let p = err_from_is_err_and c.from_residual-in_err-prepare_log.result c.from_residual-in_err-prepare_log.ensures.1 in
    rw p.1
    (rw p.2
    (unbegun_after c.args.log.now c.read_log.new.log c.prepare_log.new.log _ _ c.in_ok-register.register
    c.read_log.ensures.stored c.read_log.ensures.less c.in_ok-register.ensures.content c.prepare_log.ensures.cut
    c.in_err-prepare_log.ensures.fails))
