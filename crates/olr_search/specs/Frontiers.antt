-- The state of a search, and how it changes.
--     label_of f p      the label in slot p; UNREACHED if there is none
--     frontier_len f      how many slots the table has
--     IsQueued f d p      slot p is queued, at length d
--     IsEmpty f      no labels, and nothing is queued
--     IsAlike f g      the tables and the slots with labels are the same
--     IsRelaxed f g p d      the label in slot p was lowered to d, unless it was no greater
--     Moves f g      no label increased, and where one is new its slot is queued
--     to_do f      what is left to do: it decreases with each label that is lowered and each entry that is removed
--     IsAhead f next      nothing is queued at a length less than next
use Rattle.std.specs.Prelude.{◌≡◌, ◌≢◌, ℕ, ◌+◌, ◌*◌, ◌≤◌, ◌<◌, ◌⊎◌, List, [], ◌∷◌, ◌++◌, Contains, length, min, sum, vec_len}
use Rattle.olr_search.specs.Notes.{label_in, AreApart}
use Rattle.olr_search.specs.Queues.{Queued, queue_len}
use Rattle.olr_search.specs.declared.frontier.TheConstants.{UNREACHED, GREATEST_LIMIT}
use Rattle.olr_search.specs.declared.frontier.Frontier.{Frontier}

abbrev pub label_of : Frontier → ℕ → ℕ
label_of f p = label_in f.table.items p

abbrev pub frontier_len : Frontier → ℕ
frontier_len f = vec_len f.table

abbrev pub IsQueued : Frontier → ℕ → ℕ → Type 0
IsQueued f d p = Queued f.queue d p

abbrev pub to_do : Frontier → ℕ
to_do f = 2 * sum f.table.items + queue_len f.queue

pub record IsEmpty (f : Frontier) : Type 0 where
  pub labels : (p : ℕ) → label_of f p ≡ UNREACHED
  pub reached : f.reached.items ≡ []
  pub queue : queue_len f.queue ≡ 0

pub record IsAlike (f g : Frontier) : Type 0 where
  pub table : g.table.items ≡ f.table.items
  pub reached : g.reached.items ≡ f.reached.items
  pub len : frontier_len g ≡ frontier_len f

-- the slot is recorded if it had no label
abbrev pub NotedOnce : Frontier → Frontier → ℕ → Type 0
NotedOnce f g p =
    ((g.reached.items ≡ f.reached.items) × (label_of g p ≤ GREATEST_LIMIT → label_of f p ≤ GREATEST_LIMIT))
    ⊎ ((g.reached.items ≡ f.reached.items ++ p ∷ []) × (GREATEST_LIMIT < label_of f p)
    × (label_of g p < label_of f p))

pub record IsRelaxed (f g : Frontier) (p d : ℕ) : Type 0 where
  pub here : label_of g p ≡ min (label_of f p) d
  pub others : (q : ℕ) → q ≢ p → label_of g q ≡ label_of f q
  pub waits : (label_of g p ≡ label_of f p) ⊎ IsQueued g (label_of g p) p
  pub kept : (e q : ℕ) → IsQueued f e q → IsQueued g e q
  pub added : (e q : ℕ) → IsQueued g e q → IsQueued f e q ⊎ ((e ≡ d) × (q ≡ p))
  pub noted : NotedOnce f g p
  pub len : frontier_len g ≡ frontier_len f
  pub less : to_do g ≤ to_do f

pub record Moves (f g : Frontier) : Type 0 where
  pub better : (p : ℕ) → label_of g p ≤ label_of f p
  pub fresh : (p : ℕ) → (label_of g p ≡ label_of f p) ⊎ IsQueued g (label_of g p) p
  pub kept : (e q : ℕ) → IsQueued f e q → IsQueued g e q
  pub len : frontier_len g ≡ frontier_len f
  pub less : to_do g ≤ to_do f

abbrev pub IsAhead : Frontier → ℕ → Type 0
IsAhead f next = (d p : ℕ) → IsQueued f d p → next ≤ d
