-- The bytes that are written so far.
use Rattle.olr_input.proofs.Common.{◌≡◌, ◌∙◌, ◌+◌, ◌-◌, ◌≤◌, ◌<◌, ℕ, List, [], length, take, drop, None, Some, Err, refl, ap}
use Rattle.olr_input.proofs.Common.{sym, arith, length-drop, Appends-trans, Appends-kept, take-add, append-nil}
use Rattle.olr_input.proofs.Common.{take-append-drop, take_all, Appends, Keeps, Known, AllOrFront, Write}

-- the first n bytes
pub record Written (before now : Known) (bytes : List ℕ) (n : ℕ) : Type 0 where
  pub within : n ≤ length bytes
  pub front : Appends before now (take n bytes)

-- the bytes after them
abbrev pub rest_from : List ℕ → ℕ → List ℕ
rest_from bytes n = take (length bytes - n) (drop n bytes)

pub rest_is : (bytes : List ℕ) (n : ℕ) → rest_from bytes n ≡ drop n bytes
rest_is bytes n = grind (arith, take_all, length-drop)

pub written_more : (before now later : Known) (bytes : List ℕ) (n k : ℕ) → Written before now bytes n →
    k ≤ length (rest_from bytes n)
    → Appends now later (take k (rest_from bytes n)) → Written before later bytes (n + k)
written_more before now later bytes n k w l h = grind (arith, rest_is, length-drop, take-add, Appends-trans)

-- the writer took nothing more, or failed: only the first bytes were written, not all of them
pub front_of : (before now later : Known) (bytes : List ℕ) (n : ℕ) → Written before now bytes n → n < length bytes →
    Keeps now later → AllOrFront (Appends before later) bytes (Err Write)
front_of before now later bytes n w more k = (
  take n bytes,
  drop n bytes,
  sym (take-append-drop n bytes),
  (λ none. let size = length-drop n bytes in let nothing : length (drop n bytes) ≡ 0 = ap length none in omega arith),
  Appends-kept before now later _ w.front k,
  refl,
)

pub took_nothing : (now later : Known) → Appends now later [] → Keeps now later
took_nothing None later h = tt
took_nothing (Some xs) None h = h
took_nothing (Some xs) (Some ys) h = h ∙ append-nil xs
