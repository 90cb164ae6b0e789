use Rattle.olr_register.proofs.Common.{map, map_of, found_of}
use Rattle.olr_register.proofs.Ambiguous.{is_ambiguity}
use Rattle.std.proofs.lemmas.Result.{IfOk-weaker}
use Rattle.olr_register.proofs.ambiguities.found_on.Goals as goal

pub found_in-found-requires-clause-encoding : goal.found_in-found-requires-clause-encoding
found_in-found-requires-clause-encoding c =
    (c.args.margin, c.args.path.now, c.encode_again.ensures.path, c.in_ok-encoding.ensures.encoding)

pub returns : goal.returns
returns c =
    IfOk-weaker c.found_in-found.result _ _ (λ found is name. is_ambiguity c.args.margin (map_of c.args.roads.now)
    c.args.path.now c.in_ok-encoding.encoding c.in_ok-encoding.ensures.encoding name (map found_of found.items) is)
    c.found_in-found.ensures
