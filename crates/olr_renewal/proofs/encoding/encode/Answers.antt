use Rattle.olr_renewal.proofs.encoding.encode.Goals as goal

pub returns : goal.returns
returns g c =
    let e = c.in_ok-answer.ensures.encoding in
    rw (c.in_ok-new.ensures.ok, c.in_ok-published.ensures)
    (record { answer = e.answer; traversed = e.traversed; queries = e.queries; known = e.known })
