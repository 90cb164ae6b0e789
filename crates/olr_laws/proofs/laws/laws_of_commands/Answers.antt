use Rattle.std.proofs.Common.{arith}
use Rattle.olr_commands.proofs.CountLemmas.{paths_raise}
use Rattle.olr_commands.proofs.DumpLemmas.{dumps_lead}
use Rattle.olr_commands.proofs.StateLemmas.{steps_keep}
use Rattle.olr_laws.proofs.CommandLemmas.{one_reply, some_reply, one_outcome, previews_commit, one_rise, no_rise, margin_raises}
use Rattle.olr_laws.proofs.DependLemmas.{affected_depend}
use Rattle.olr_laws.proofs.ShownLemmas.{shown_dumped}
use Rattle.olr_laws.proofs.laws.laws_of_commands.Goals as goal

pub returns-clause-commands : goal.returns-clause-commands
returns-clause-commands c =
    record {
      steps_keep = steps_keep;
      one_reply = one_reply;
      some_reply = some_reply;
      one_outcome = one_outcome;
      empty_commit = λ s t u begun done. grind arith;
      abort_gives_back = λ c b u same done. grind arith;
      previews_commit = previews_commit;
      one_rise = one_rise;
      no_rise = no_rise;
      paths_raise_one = paths_raise;
      margin_raises_all = margin_raises;
      shown_are_dumped = shown_dumped;
      affected_depend = affected_depend;
    }

pub returns-clause-lead : goal.returns-clause-lead
returns-clause-lead c = dumps_lead
