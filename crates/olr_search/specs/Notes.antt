-- A table of labels by slot, and the list of the slots with labels.
--     label_in table p      the label in slot p; UNREACHED if there is none
--     AreAllReached table reached      each label is in a slot of the list
--     AreApart ps      no slot is in the list twice
--     NotesOnce old new label p      p is appended to the list if the label is none
--     AreFilled M slot ps      each of the slots has a node of the map
--     AreNodesIn M slot ps vs      vs are the nodes in the slots ps, in their order
use Rattle.std.specs.Prelude.{◌≡◌, ◌≢◌, ℕ, ◌<◌, ◌≤◌, ◌⊎◌, List, [], ◌∷◌, ◌++◌, Contains, IsTrue, map, slice_index_or}
use Rattle.std.specs.List.{AllPairs}
use Rattle.olr_spec.specs.Map.{Map, has_node}
use Rattle.olr_search.specs.declared.frontier.TheConstants.{GREATEST_LIMIT, UNREACHED}

abbrev pub label_in : List ℕ → ℕ → ℕ
label_in table p = slice_index_or table p UNREACHED

abbrev pub AreAllReached : List ℕ → List ℕ → Type 0
AreAllReached table reached = (p : ℕ) → ((q : ℕ) → Contains reached q → q ≢ p) → label_in table p ≡ UNREACHED

abbrev pub AreApart : List ℕ → Type 0
AreApart ps = AllPairs (λ (q p : ℕ). q ≢ p) ps

abbrev pub NotesOnce : List ℕ → List ℕ → ℕ → ℕ → Type 0
NotesOnce old new label p =
    ((new ≡ old) × (label ≤ GREATEST_LIMIT)) ⊎ ((new ≡ old ++ p ∷ []) × (GREATEST_LIMIT < label))

abbrev pub AreFilled : Map → (ℕ → ℕ) → List ℕ → Type 0
AreFilled M slot ps = (p : ℕ) → Contains ps p → (v : ℕ) × IsTrue (has_node M v) × (slot v ≡ p)

pub record AreNodesIn (M : Map) (slot : ℕ → ℕ) (ps vs : List ℕ) : Type 0 where
  pub slots : map slot vs ≡ ps
  pub there : (v : ℕ) → Contains vs v → IsTrue (has_node M v)
