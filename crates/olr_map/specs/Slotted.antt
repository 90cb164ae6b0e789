-- Values in slots, some of which are free.
--     present es      the values, in the order of the slots
--     at es p, in_slot es o      the content of slot p;  of the slot, if there is one
--     IsSlotted es free room      the free slots are listed, each once, and there is capacity to list all slots
use Rattle.std.specs.Prelude.{◌≡◌, ◌≢◌, ℕ, ◌<◌, ◌≤◌, ◌^◌, List, Option, Some, None, length, slice_index}
use Rattle.std.specs.Prelude.{slice_index_or, cond, ◌==◌, IsNone}
use Rattle.std.specs.List.{filter_map}
use Rattle.std.specs.Coded.{Coded-set, coded_ℕ, le_prop}
use Rattle.std.proofs.Props.{props}

module _ {X : Type 0} where
  abbrev pub present : List (Option X) → List X
  present es = filter_map (λ o. o) es

  abbrev pub at : List (Option X) → ℕ → Option X
  at es p = slice_index_or es p None

  abbrev pub in_slot : List (Option X) → Option ℕ → Option X
  in_slot es None = None
  in_slot es (Some p) = at es p

  pub record IsSlotted (es : List (Option X)) (free : List ℕ) (room : ℕ) : Type 0 where
    pub inside : (i : ℕ) → i < length free → slice_index free i < length es
    pub vacant : (i : ℕ) → i < length free → IsNone (at es (slice_index free i))
    pub apart : (i j : ℕ) → i < j → j < length free → slice_index free i ≢ slice_index free j
    pub roomy : length es ≤ room
    pub few : length es < 2 ^ 32

  pub IsSlotted-prop : (es : List (Option X)) (free : List ℕ) (room : ℕ) → IsProp (IsSlotted es free room)
  IsSlotted-prop es free room = hlevel (props, Coded-set coded_ℕ, le_prop)

  -- slot p, which held o, holds w; the other slots are unchanged
  pub record IsWritten (old new : List (Option X)) (p : ℕ) (o w : Option X) : Type 0 where
    pub was : at old p ≡ o
    pub now : (q : ℕ) → at new q ≡ cond (p == q) w (at old q)

  -- a value was added in a free slot, was removed from its slot, or was replaced in it
  abbrev pub IsInserted : List (Option X) → List (Option X) → ℕ → X → Type 0
  IsInserted old new p e = IsWritten old new p None (Some e)

  abbrev pub IsRemoved : List (Option X) → List (Option X) → ℕ → X → Type 0
  IsRemoved old new p e = IsWritten old new p (Some e) None

  abbrev pub IsReplaced : List (Option X) → List (Option X) → ℕ → X → X → Type 0
  IsReplaced old new p e f = IsWritten old new p (Some e) (Some f)
