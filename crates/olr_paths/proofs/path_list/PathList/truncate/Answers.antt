use Rattle.olr_paths.proofs.Common.{ap, sym, ◌∙◌, take-map}
use Rattle.olr_paths.proofs.NamedEntries.{item_of, items_of}
use Rattle.olr_paths.proofs.path_list.PathList.truncate.Goals as goal

pub returns : goal.returns
returns c = ap items_of c.truncate.ensures.entries ∙ sym (take-map item_of c.args.count c.args.self.now.paths.entries)
