-- The entries of a queue.
--     queue_key d p      the number for slot p at length d: the nearer first, and of equally near ones the smaller
--         slot
--     Queued q d p      slot p is queued, at length d
--     queue_len q      how many entries there are
--     IsPopped q r limit x      x is the length and the slot of the entry with the least number in q, at most at the limit;
--         r has the others
--     LowLabels table q      no slot is queued at a length that is less than its label
use Rattle.std.specs.Prelude.{◌≡◌, ℕ, ◌+◌, ◌*◌, ◌<◌, ◌≤◌, ◌⊎◌, ◌^◌, List, Contains}
use Rattle.std.specs.BinaryHeap.{heap_items, heap_len}
use Rattle.olr_search.specs.Notes.{label_in}
use Rattle.olr_search.specs.declared.queue.Queue.{Queue}

abbrev pub queue_key : ℕ → ℕ → ℕ
queue_key d p = d * 2 ^ 32 + p

pub record Queued (q : Queue) (d p : ℕ) : Type 0 where
  pub small : p < 2 ^ 32
  pub there : Contains (heap_items q.heap) (record { 0 = queue_key d p })

abbrev pub queue_len : Queue → ℕ
queue_len q = heap_len q.heap

pub record IsPopped (q r : Queue) (limit : ℕ) (x : ℕ × ℕ) : Type 0 where
  pub within : x.0 ≤ limit
  pub there : Queued q x.0 x.1
  pub least : (d p : ℕ) → Queued q d p → x.0 ≤ d
  pub others : (d p : ℕ) → Queued q d p → Queued r d p ⊎ ((d ≡ x.0) × (p ≡ x.1))
  pub gone : ¬ Queued r x.0 x.1
  pub len : queue_len r + 1 ≡ queue_len q

abbrev pub LowLabels : List ℕ → Queue → Type 0
LowLabels table q = (d p : ℕ) → Queued q d p → label_in table p ≤ d
