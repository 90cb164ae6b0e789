-- What is set aside changes nothing of the log.
use Rattle.std.proofs.Common.{◌∙◌, sym}
use Rattle.olr_keep.proofs.LogsOpenLogHostDiskUnknownLogFolder.open.Goals as goal

pub returns : goal.returns
returns c = λ text left.
    c.in_ok-log.ensures.durable text (c.set_aside.ensures.less text left) ∙ sym c.set_aside.ensures.stored
