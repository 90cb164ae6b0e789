use Rattle.olr_map.proofs.Common.{Err, lines_on, place_of, place_not}
use Rattle.olr_map.proofs.Listing.{inserted, absent_put}
use Rattle.olr_map.proofs.links.Links.put.Goals as goal

pub insert-requires-clause-room : goal.insert-requires-clause-room
insert-requires-clause-room c =
    let xs = lines_on c.args.self.now in
    let found = rw c.as_slices.ensures.lines at c.in-Err-Some.ensures.position in
    c.requires.room (place_not xs c.args.id _ (place_of xs c.args.id (Err c.in-Err-Some.at) c.requires.ascending found))

pub returns-in-Err-Some : goal.returns-in-Err-Some
returns-in-Err-Some c =
    let found = rw c.as_slices.ensures.lines at c.in-Err-Some.ensures.position in
    let put = c.insert.ensures in
    rw c.in-Err-Some.is-1 (inserted c.args.self.now c.insert.new.self c.args.id c.requires.ascending c.in-Err-Some.at _ found
    put.lines put.ends put.room)

pub returns-in-Err-None : goal.returns-in-Err-None
returns-in-Err-None c =
    rw c.in-Err-None.is-1 (absent_put c.args.self.now c.args.id _ c.requires.ascending
    (rw c.as_slices.ensures.lines at c.in-Err-None.ensures.position))
