use Rattle.olr_refs.proofs.Common.{◌⊎◌, ℕ, List, NodeOf, IsStrictlyIncreasing-dedup, on_ok_weaker}
use Rattle.std.proofs.lemmas.List.Filters.{dedup_is}
use Rattle.olr_refs.proofs.Ends.{same_once, same_deduped, three_lists, grown_by}
use Rattle.olr_refs.proofs.extension.note_ends.Goals as goal

pub note_all-requires : goal.note_all-requires
note_all-requires c =
    record {
      ascending = rw (c.deref.ensures.value, dedup_is _ _ _ c.dedup-2.ensures.filtered)
          (IsStrictlyIncreasing-dedup c.sort_unstable.new.self.items c.sort_unstable.ensures.sorted);
    }

pub returns-clause-ok : goal.returns-clause-ok
returns-clause-ok c =
    let fewer : List ℕ = c.dedup.new.self.items in
    let once : List ℕ = c.dedup-2.new.self.items in
    let left = same_deduped c.push_ends-3.new.nodes.items fewer (dedup_is _ _ _ c.dedup.ensures.filtered) in
    let members =
    same_once fewer c.sort_unstable.new.self.items once c.sort_unstable.ensures.permutation
    (dedup_is _ _ _ c.dedup-2.ensures.filtered) in
    on_ok_weaker c.note_all.result
    (λ noted M slot ls b a is b_is a_is.
    let ends =
    three_lists M ls b a c.push_ends.new.nodes.items c.push_ends-2.new.nodes.items c.push_ends-3.new.nodes.items
    (rw c.new-nodes.ensures.items at (c.in_ok-push_ends.ensures M slot ls is)) (c.in_ok-push_ends-2.ensures M slot b b_is)
    (c.in_ok-push_ends-3.ensures M slot a a_is) in
    grown_by _ c.note_all.new.self once (λ v. NodeOf M ls v ⊎ (NodeOf M b v ⊎ NodeOf M a v))
    (λ v. (λ h. (ends v).0 ((left v).0 ((members v).0 h)), λ h. (members v).1 ((left v).1 ((ends v).1 h)))) noted)
    (rw c.deref.ensures.value at c.note_all.ensures.ok)
