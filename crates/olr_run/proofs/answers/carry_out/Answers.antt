use Rattle.olr_run.proofs.Common.{fields_of, command_of, Explain, outcome_of}
use Rattle.olr_run.proofs.Answering.{carried, not_read}
use Rattle.olr_run.proofs.answers.carry_out.Goals as goal

pub returns-in-Some : goal.returns-in-Some
returns-in-Some c =
    carried c.args.register.now (fields_of c.args.row.now.fields) c.args.register.now c.reply_or_line.result
    (Explain c.in-Some.text.now) (outcome_of c.explain.result) c.in-Some.ensures.some c.explain.ensures.outcome
    c.is_sound.ensures c.reply_or_line.ensures

pub returns-in-Ok : goal.returns-in-Ok
returns-in-Ok c =
    carried c.args.register.now (fields_of c.args.row.now.fields) c.apply.new.self c.reply_or_line-in-Ok.result
    (command_of c.in-Ok.command) (outcome_of c.apply.result) c.in-Ok.ensures c.apply.ensures.outcome c.apply.ensures.sound
    c.reply_or_line-in-Ok.ensures

pub returns-in-Err : goal.returns-in-Err
returns-in-Err c =
    not_read c.args.register.now (fields_of c.args.row.now.fields) c.in-Err.fault c.read_fault_text.result c.in-Err.ensures
    c.read_fault_text.ensures
