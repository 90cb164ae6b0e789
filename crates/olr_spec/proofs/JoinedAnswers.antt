-- The routes between the LRPs of an answer join to the extended path.
use Rattle.olr_spec.proofs.Common.{Margin, IsSoundFor, ◌≡◌, ◌<◌, ◌+◌, ℕ, List, length, None, ap, arith, Map, dm_of, Path}
use Rattle.olr_spec.proofs.Common.{extended_path, Reference, legs, first_kept, last_kept, kept_points, Points, path_fault}
use Rattle.olr_spec.proofs.Common.{EncodingWith, JoinedWith}
use Rattle.olr_spec.proofs.Facts.{path_also, routes_join, two_kept, dm_of-append}
use Rattle.olr_spec.proofs.DecodedLemmas.{two_of}
use Rattle.olr_spec.proofs.FitLemmas.{long_enough, kept_ends, answered}

-- at least two LRPs remain
pub joined_with : (g : Margin) (M : Map) → IsSoundFor g M → (P : Path) (r : Reference) → path_fault M P ≡ None → EncodingWith g M P (Points r) → JoinedWith g M P r
joined_with g M sound P r none p =
    let E = extended_path M P p.before p.after in
    let gs = legs M E.lines in
    let is = answered g M E p.points r p.holds in
    let left : E.pos + E.neg < dm_of M E.lines = grind (arith, dm_of-append, long_enough M P none) in
    let ends = kept_ends g M E.lines p.points E.pos E.neg p.follow is.0 left in
    let two =
    two_of (kept_points gs E.pos E.neg p.points) (first_kept gs E.pos p.points) (last_kept gs E.neg p.points) ends.0
    ends.1 (two_kept g M E.lines p.points E.pos E.neg p.follow is.0 left) in
    let count = ap (λ (ks : List ℕ). length ks) two.3 in
    path_also p (is.1, is.0, omega arith, routes_join g M sound E.lines p.points E.pos E.neg p.follow is.0)
