-- What a call of the register answers to a command.
--     Answered old c result new      an outcome of the command: if it is accepted, its encodings are counted; if it
--         is rejected, nothing changes
use Rattle.std.specs.Prelude.{◌≡◌, is_some, Result, OnOk, OnErr, IsFalse}
use Rattle.olr_commands.specs.State.{Command}
use Rattle.olr_commands.specs.Words.{outcome_of}
use Rattle.olr_commands.specs.declared.reply.Reply.{Reply}
use Rattle.olr_commands.specs.declared.fault.CommandFault.{CommandFault}
use Rattle.olr_register.specs.Registered.{Registered, Applied, Counted}
use Rattle.olr_register.specs.CountChanges.{encodes, NoneFalls}

pub record Answered (old : Registered) (c : Command) (result : Result Reply CommandFault) (new : Registered) : Type
    0 where
  pub outcome : Applied old c (outcome_of result) new
  pub counted : OnOk result (Counted old c new)
  pub rises : OnOk result (NoneFalls old.work new.work)
  pub same : OnOk result (IsFalse (encodes (is_some old.state.batch) c) → new.work ≡ old.work)
  pub unchanged : OnErr result (new ≡ old)
