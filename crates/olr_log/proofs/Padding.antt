-- The bytes of a file after writes.
use Rattle.olr_log.proofs.Common.{◌≡◌, inl, inr, ℕ, ◌+◌, ◌-◌, ◌≤◌, ◌<◌, List, [], ◌∷◌, ◌++◌, length, take, drop, get_or}
use Rattle.olr_log.proofs.Common.{replicate, refl, sym, ◌∙◌, ap, subst, arith, length-drop, take-add, cases_lt, get_or-take}
use Rattle.olr_log.proofs.Common.{get_or-drop, get_or-replicate, length-replicate, length-take-le, drop-append-le, drop-take, same_number_lists}
use Rattle.olr_log.proofs.Common.{Holds, Torn, text_in, KeepsFirst, IsBlank}

pub first_bytes : (n : ℕ) (a b : List ℕ) → n ≤ length a → n ≤ length b → ((i : ℕ) → i < n → get_or a i 0 ≡ get_or b i 0) → take n a ≡ take n b
first_bytes n a b long_a long_b same =
    let size_a = length-take-le n a long_a in
    let size_b = length-take-le n b long_b in
    same_number_lists (take n a) (take n b) (size_a ∙ sym size_b) (λ i low.
    let within : i < n = omega (arith, low, size_a) in
    get_or-take n a i 0 within ∙ same i within ∙ sym (get_or-take n b i 0 within))

-- the bytes of a write
pub bytes_at : (file bytes : List ℕ) (at : ℕ) → Holds file at bytes → take (length bytes) (drop at file) ≡ bytes
bytes_at file bytes at holds =
    let long : length bytes ≤ length (drop at file) = omega (arith, holds.within, length-drop at file) in
    let size = length-take-le (length bytes) (drop at file) long in
    same_number_lists (take (length bytes) (drop at file)) bytes size (λ i low.
    let within : i < length bytes = omega (arith, low, size) in
    get_or-take (length bytes) (drop at file) i 0 within ∙ get_or-drop at file i 0 ∙ holds.each i within)

there : (bytes file : List ℕ) (at : ℕ) → (0 < length bytes → Holds file at bytes) → take (length bytes) (drop at file) ≡ bytes
there [] file at holds = refl
there (b ∷ bytes) file at holds = bytes_at file (b ∷ bytes) at (holds (omega arith))

pub KeepsFirst-trans : (n : ℕ) (a b c : List ℕ) → KeepsFirst n a b → KeepsFirst n b c → KeepsFirst n a c
KeepsFirst-trans n a b c first second = record {
  no_shorter = omega (arith, first.no_shorter, second.no_shorter);
  below = λ i low within. second.below i (omega (arith, first.no_shorter)) within ∙ first.below i low within;
}

-- a write from `at` on keeps the bytes before
pub torn_keeps : (n at size : ℕ) (old new : List ℕ) → n ≤ at → Torn at size old new → KeepsFirst n old new
torn_keeps n at size old new le torn = record {
  no_shorter = torn.no_shorter;
  below = λ i low within. torn.below i low (omega arith);
}

pub keeps_take : (n m : ℕ) (old new : List ℕ) → KeepsFirst n old new → m ≤ n → m ≤ length old → take m new ≡ take m old
keeps_take n m old new keeps le within =
    first_bytes m new old (omega (arith, keeps.no_shorter)) within (λ i low. keeps.below i (omega arith) (omega arith))

-- the bytes before a write, and those of the write
pub written_front : (at : ℕ) (bytes old new : List ℕ) → at ≤ length old → (0 < length bytes → Holds new at bytes) → Torn at (length bytes) old new
    → take (at + length bytes) new ≡ take at old ++ bytes
written_front at bytes old new within holds torn =
    take-add at (length bytes) new
    ∙ ap (λ (x : List ℕ). x ++ take (length bytes) (drop at new)) (keeps_take at at old new (torn_keeps at at (length bytes) old new (omega arith) torn) (omega arith) within)
    ∙ ap (λ (x : List ℕ). take at old ++ x) (there bytes new at holds)

-- a write reaches this far
pub written_reach : (at : ℕ) (bytes old new : List ℕ) → at ≤ length old → (0 < length bytes → Holds new at bytes) → Torn at (length bytes) old new
    → at + length bytes ≤ length new
written_reach at [] old new within holds torn = omega (arith, torn.no_shorter)
written_reach at (b ∷ bytes) old new within holds torn = (holds (omega arith)).within

-- of the first bytes, those behind the first line
pub text_from : (n m : ℕ) (file bytes : List ℕ) → m ≡ n + 1 → take m file ≡ bytes → text_in n file ≡ drop 1 bytes
text_from n m file bytes size is =
    let e : 1 + n ≡ m = omega (arith, size) in
    sym (drop-take 1 n file) ∙ ap (λ (x : List ℕ). drop 1 x) (ap (λ (j : ℕ). take j file) e ∙ is)

pub text_same : (n : ℕ) (old new : List ℕ) → take (n + 1) new ≡ take (n + 1) old → text_in n new ≡ text_in n old
text_same n old new same = text_from n (n + 1) new (take (n + 1) old) refl same ∙ sym (text_from n (n + 1) old (take (n + 1) old) refl refl)

-- text that is written behind a text
pub text_more : (n : ℕ) (bytes old new : List ℕ) → n + 1 ≤ length old → (0 < length bytes → Holds new (n + 1) bytes) → Torn (n + 1) (length bytes) old new
    → text_in (n + length bytes) new ≡ text_in n old ++ bytes
text_more n bytes old new within holds torn =
    let size = length-take-le (n + 1) old within in
    text_from (n + length bytes) (n + 1 + length bytes) new (take (n + 1) old ++ bytes) (omega arith) (written_front (n + 1) bytes old new within holds torn)
    ∙ drop-append-le 1 (take (n + 1) old) bytes (omega (arith, size))
    ∙ ap (λ (x : List ℕ). x ++ bytes) (sym (text_from n (n + 1) old (take (n + 1) old) refl refl))

-- a write within a range
pub Torn-within : (from m at n : ℕ) (a b c : List ℕ) → from ≤ at → at + n ≤ from + m → Torn from m a b → Torn at n b c → Torn from m a c
Torn-within from m at n a b c low high first second = record {
  no_shorter = omega (arith, first.no_shorter, second.no_shorter);
  no_longer = omega (arith, first.no_longer, second.no_longer);
  below = λ i short before. second.below i (omega (arith, first.no_shorter)) (omega arith) ∙ first.below i short before;
  above = λ i short behind. second.above i (omega (arith, first.no_shorter)) (omega arith) ∙ first.above i short behind;
}

-- more carriage returns
pub blank_more : (from at : ℕ) (bytes old new : List ℕ) → from ≤ at → (from < at → IsBlank from at old) → ((i : ℕ) → i < length bytes → get_or bytes i 0 ≡ 13)
    → Holds new at bytes → Torn at (length bytes) old new → IsBlank from (at + length bytes) new
blank_more from at bytes old new low so_far all holds torn = record {
  reach = holds.within;
  each = λ i above below. elim (cases_lt i at) [
    | inl before ↦ let blank = so_far (omega arith) in torn.below i (omega (arith, blank.reach)) before ∙ blank.each i above before
    | inr reached ↦
        let place : at + (i - at) ≡ i = omega arith in
        subst (λ (j : ℕ). get_or new j 0 ≡ 13) place (holds.each (i - at) (omega arith) ∙ all (i - at) (omega arith))
  ];
}

abbrev pub carriage_returns : ℕ → List ℕ
carriage_returns m = replicate m 13

pub returns_taken : (n m : ℕ) → n ≤ m → length (take n (carriage_returns m)) ≡ n
returns_taken n m within = length-take-le n (carriage_returns m) (omega (arith, length-replicate {A = ℕ} m 13))

pub returns_at : (n m : ℕ) → n ≤ m → (i : ℕ) → i < length (take n (carriage_returns m)) → get_or (take n (carriage_returns m)) i 0 ≡ 13
returns_at n m within i low =
    let size = returns_taken n m within in
    get_or-take n (carriage_returns m) i 0 (omega (arith, low, size)) ∙ get_or-replicate m i 13 0 (omega (arith, low, size))
