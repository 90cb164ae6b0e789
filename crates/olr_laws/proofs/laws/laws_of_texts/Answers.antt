use Rattle.olr_binary.proofs.TextLemmas.{one_reference}
use Rattle.olr_coords.proofs.DegreesTextLemmas.{texts-read, read-have-text}
use Rattle.olr_laws.proofs.laws.laws_of_texts.Goals as goal

pub returns-clause-read : goal.returns-clause-read
returns-clause-read c = texts-read

pub returns-clause-written : goal.returns-clause-written
returns-clause-written c = read-have-text

pub returns-clause-one_reference : goal.returns-clause-one_reference
returns-clause-one_reference c = one_reference
