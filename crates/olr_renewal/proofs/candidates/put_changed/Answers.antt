use Rattle.olr_renewal.proofs.Common.{◌≡◌, ◌∙◌, ℕ, List, false, sym, subst, has, same_name, Includes, first_at, named_there}
use Rattle.olr_renewal.proofs.Common.{names_differ, same_flip, not_there, change_left}
use Rattle.olr_renewal.proofs.Covering.{pushed_includes, others_apart, unfound}
use Rattle.olr_renewal.proofs.candidates.put_changed.Goals as goal

pub loop-name-preserved : goal.loop-name-preserved
loop-name-preserved c = (
  c.loop-name.invariant.0,
  λ k i at off none.
      let es = c.args.overlaid.list.now.paths.entries in
      let name = c.as_str.result.now in
      let free : same_name name i.name ≡ false = same_flip name i.name
      ∙ not_there es name k i (sym (named_there es name) ∙ sym c.in_default.ensures.found) at in
      c.loop-name.invariant.1 k i at off (rw c.in-Some.ensures.steps
      (change_left c.next.new.self (c.in-Some.name.now, c.in-Some.field-0-1.now) i.name none (subst (λ (n : List ℕ). same_name n i.name ≡ false) c.as_str.ensures.value free))),
)

pub loop-name-preserved-in-Continue-1 : goal.loop-name-preserved-in-Continue-1
loop-name-preserved-in-Continue-1 c =
    let es = c.args.overlaid.list.now.paths.entries in
    let name = c.as_str.result.now in
    let q = c.in-Some-get_index_of.position in
    let old = c.loop-name.found.items in
    let put = c.in_ok-push.ensures.items in
    let more : Includes old c.push.new.self.items = subst (Includes old) (sym put) (pushed_includes old q) in
    let first = first_at es name q (sym c.in-Some-get_index_of.ensures.index) in (
      (λ k on. more k (c.loop-name.invariant.0 k on)),
      λ k i at off none.
          let free : same_name name i.name ≡ false =
          others_apart es name q old first (names_differ es c.in-Some-get_index_of.ensures.unique) k i at
          (subst (λ (xs : List ℕ). has xs k ≡ false) put off) in
          c.loop-name.invariant.1 k i at (unfound old _ k more off) (rw c.in-Some.ensures.steps
          (change_left c.next.new.self (c.in-Some.name.now, c.in-Some.field-0-1.now) i.name none
          (subst (λ (n : List ℕ). same_name n i.name ≡ false) c.as_str.ensures.value free))),
    )
