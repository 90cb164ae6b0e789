use Rattle.olr_run.proofs.Common.{results_of, left, refusal_of, result_map_both}
use Rattle.olr_run.proofs.Reports.{one_more, report_of}
use Rattle.olr_run.proofs.answers.append_report.Goals as goal

pub loop-name-preserved : goal.loop-name-preserved
loop-name-preserved c =
    let h = c.loop-name.invariant in (
      h.0,
      h.1,
      one_more (left c.loop-name.name-iterator) (left c.next.new.self) c.in-Some.name.now (results_of c.in-Some.published.now)
          (result_map_both (λ s. s.now) (λ r. refusal_of r.now) c.string.result) c.loop-name.text.items
          c.append_entry.new.text.items _ c.in-Some.ensures.steps c.string.ensures c.in_ok-append_entry.ensures h.2,
    )

pub returns : goal.returns
returns c =
    let h = c.loop-name.invariant in
    report_of c.args.register.now h.0 (left c.loop-name.name-iterator) c.args.text.now.items c.append_count.new.text.items
    c.loop-name.text.items c.len.result h.1 c.len.ensures c.in_ok-append_count.ensures c.in-None.ensures.steps.0 h.2
