use Rattle.olr_paths.proofs.Common.{◌∙◌}
use Rattle.olr_paths.proofs.NamedEntries.{named_there}
use Rattle.olr_paths.proofs.path_list.PathList.has.Goals as goal

pub returns : goal.returns
returns c = c.contains_key.ensures ∙ named_there c.args.self.now.paths.entries c.args.name.now
