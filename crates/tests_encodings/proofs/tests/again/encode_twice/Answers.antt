use Rattle.std.proofs.Common.{sym, subst}
use Rattle.std.proofs.lemmas.List.Elements.{All-weaker}
use Rattle.olr_spec.specs.Queries.{AreKnownWith, IsKnownOfWith, IsKnownWith}
use Rattle.tests_encodings.proofs.tests.again.encode_twice.Goals as goal

pub encode_again-again-requires : goal.encode_again-again-requires
encode_again-again-requires g c =
    let lines = c.args.path.now.lines in
    subst (AreKnownWith c.args.margin _ lines) (sym c.deref.ensures.value)
    (All-weaker (IsKnownOfWith c.args.margin _ lines _) (IsKnownWith c.args.margin _ lines) (λ _ k. k.right) _
    c.in-Ok.ensures.encoding.known)
