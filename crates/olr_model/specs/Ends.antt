-- The lines of a node with their far ends and lengths, and the slots of the nodes.
--     ends_out M slot v, ends_in M slot v      for each line that leaves v (enters v), in order: the slot of the
--         node at its far end, and its length
--     AreLinesAt M slot k lines_out ends_out xs es      the lines that leave the node in slot k, and their far ends;
--         likewise with lines_in and ends_in
--     HaveSlotsApart M slot count      the nodes have distinct slots, each below the count
use Rattle.std.specs.Prelude.{◌≡◌, ℕ, ◌<◌, ◌≤◌, ◌^◌, List, map, IsTrue}
use Rattle.olr_spec.specs.Map.{Map, has_node, start, end, dm, lines_in, lines_out}
use Rattle.olr_model.specs.declared.read.LineEnd.{LineEnd}

abbrev pub end_out : Map → (ℕ → ℕ) → ℕ → LineEnd
end_out M slot x = record { slot = slot (end M x); len = dm M x }

abbrev pub end_in : Map → (ℕ → ℕ) → ℕ → LineEnd
end_in M slot x = record { slot = slot (start M x); len = dm M x }

abbrev pub ends_out : Map → (ℕ → ℕ) → ℕ → List LineEnd
ends_out M slot v = map (end_out M slot) (lines_out M v)

abbrev pub ends_in : Map → (ℕ → ℕ) → ℕ → List LineEnd
ends_in M slot v = map (end_in M slot) (lines_in M v)

pub record AreLinesAt (M : Map) (slot : ℕ → ℕ) (k : ℕ) (lines_of : Map → ℕ → List ℕ)
    (ends_of : Map → (ℕ → ℕ) → ℕ → List LineEnd) (xs : List ℕ) (es : List LineEnd) : Type 0 where
  pub lines : (v : ℕ) → IsTrue (has_node M v) → slot v ≡ k → xs ≡ lines_of M v
  pub ends : (v : ℕ) → IsTrue (has_node M v) → slot v ≡ k → es ≡ ends_of M slot v

pub record HaveSlotsApart (M : Map) (slot : ℕ → ℕ) (count : ℕ) : Type 0 where
  pub below : (v : ℕ) → IsTrue (has_node M v) → slot v < count
  pub apart : (v w : ℕ) → IsTrue (has_node M v) → IsTrue (has_node M w) → slot v ≡ slot w → v ≡ w
  pub few : count ≤ 2 ^ 32
