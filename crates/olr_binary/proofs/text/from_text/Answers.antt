use Rattle.olr_binary.proofs.Common.{rules, NotBase64}
use Rattle.olr_binary.proofs.TextLemmas.{fault-no_text, no_text}
use Rattle.olr_binary.proofs.text.from_text.Goals as goal

pub returns-in-Err-DecodeError-clause-no_text : goal.returns-in-Err-DecodeError-clause-no_text
returns-in-Err-DecodeError-clause-no_text c = fault-no_text c.args.text.now NotBase64 (search rules)

pub returns-clause-no_text : goal.returns-clause-no_text
returns-clause-no_text c = no_text c.args.text.now c.map_err.result (search rules)
