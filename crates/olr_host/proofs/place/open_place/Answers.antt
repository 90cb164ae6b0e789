use Rattle.olr_host.proofs.Common.{List}
use Rattle.std.proofs.Common.{sym, ◌∙◌, ap}
use Rattle.sqlite_disk.specs.Events.{Event, replay}
use Rattle.sqlite_disk.specs.Modelled.{start_of}
use Rattle.olr_host.specs.declared.file.HostFile.{HostFile}
use Rattle.olr_host.proofs.place.open_place.Goals as goal

-- its number is the one that was given to it
pub returns-clause-named : goal.returns-clause-named
returns-clause-named g c n leads =
    let start = start_of g.S.Start c.new.result in
    c.in_ok-file.ensures n leads
    ∙ sym (ap (λ (host : HostFile). (replay start host.calls.events).key) c.new.ensures.calls
    ∙ ap (λ (events : List Event). (replay start events).key) c.in_ok-host.ensures)
