use Rattle.olr_renewal.proofs.Common.{◌∙◌, arith, false, has, slice_get, slice_get_within, sym, true≢false, ◌≡◌, ℕ, Item, Some, items}
use Rattle.olr_renewal.proofs.Covering.{unfound}
use Rattle.olr_renewal.proofs.candidates.put_listed.Given.{Over}
use Rattle.olr_renewal.proofs.candidates.put_listed.Goals as goal

-- where all positions are put, each is found
all_found : (g : Over) (c : goal.In_ok-put_range g) (k : ℕ) (i : Item) → slice_get (items c.args.overlaid.list.now) k ≡ Some i →
    has c.put_range.new.found.items k ≡ false → ⊥
all_found g c k i at off =
    true≢false (sym (c.in_ok-put_range.ensures.put k (omega arith) (rw c.len.ensures.len (slice_get_within _ k i at))) ∙ off)

pub returns-then-overlaid-clause-changed : goal.returns-then-overlaid-clause-changed
returns-then-overlaid-clause-changed g c = λ k i at off. absurd (all_found g c k i at off)

pub returns-then-overlaid-clause-listed : goal.returns-then-overlaid-clause-listed
returns-then-overlaid-clause-listed g c = λ k i at off one. absurd (all_found g c k i at off)

pub returns-clause-listed : goal.returns-clause-listed
returns-clause-listed g c = λ k i at off one.
    c.in_ok-put_touched.ensures k i at (unfound _ _ k c.in_ok-put_changed.ensures.grows off) one
