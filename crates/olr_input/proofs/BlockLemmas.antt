-- The blocks of an input.
use Rattle.olr_input.proofs.Common.{◌≡◌, ◌∙◌, ◌+◌, ◌-◌, ◌≤◌, ◌<◌, ℕ, List, [], ◌∷◌, ◌++◌, length, take, drop, Some, None}
use Rattle.olr_input.proofs.Common.{length-append, refl, sym, ap, subst, arith, min, take-append-drop, drop-drop, drop-take}
use Rattle.olr_input.proofs.Common.{take_at, Keeps, Consumes, IsAtEnd, prepend_known, Known, prepend_known-read}
use Rattle.std.proofs.Common.{length-take-le}

pub consumes_stored : (a b c : Known) (out : List ℕ) → Keeps a b → Consumes b c out → Consumes a c out
consumes_stored None b c out h k = tt
consumes_stored (Some xs) None c out h k = absurd h
consumes_stored (Some xs) (Some ys) None out h k = k
consumes_stored (Some xs) (Some ys) (Some zs) out h k = sym h ∙ k

pub block_read : (k l : Known) (before block : List ℕ) → before ≡ [] → Consumes k l block →
    Keeps (prepend_known before k) (prepend_known block l)
block_read None l before block none h = tt
block_read (Some xs) None before block none h = h
block_read (Some xs) (Some ys) before block none h = sym h ∙ ap (λ (b : List ℕ). b ++ xs) (sym none)

pub block_lost : (k l : Known) (before : List ℕ) → before ≡ [] → Keeps k l →
    Keeps (prepend_known before k) (prepend_known [] l)
block_lost None l before none h = tt
block_lost (Some xs) None before none h = h
block_lost (Some xs) (Some ys) before none h = h ∙ ap (λ (b : List ℕ). b ++ xs) (sym none)

pub none_behind : (l : Known) (block : List ℕ) → block ≡ [] → IsAtEnd l → IsAtEnd (prepend_known block l)
none_behind None block none h = tt
none_behind (Some xs) block none h = (λ i. none i ++ h i)

-- nothing was read
pub block_end : (l : Known) (bytes : List ℕ) (n : ℕ) → n ≤ length bytes → 0 < length bytes →
    (n ≡ 0 → 0 < length bytes → IsAtEnd l) → take (n - 0) (drop 0 bytes) ≡ [] →
    IsAtEnd (prepend_known (take (n - 0) (drop 0 bytes)) l)
block_end l bytes n bound some end empty =
    let size : n - 0 ≡ n = omega arith in
    let none : take n bytes ≡ [] = ap (λ (k : ℕ). take k bytes) (sym size) ∙ empty in
    let nothing : n ≡ 0 = sym (length-take-le n bytes bound) ∙ ap length none in
    none_behind l (take (n - 0) (drop 0 bytes)) empty (end nothing some)

pub block_after : (bytes : List ℕ) (start end n : ℕ) → start ≤ end → n ≤ end - start →
    take (end - (start + n)) (drop (start + n) bytes) ≡ drop n (take (end - start) (drop start bytes))
block_after bytes start end n order within =
    let size : end - start ≡ n + (end - (start + n)) = omega arith in
    ap (take (end - (start + n))) (sym (drop-drop n start bytes))
    ∙ sym (drop-take n (end - (start + n)) (drop start bytes))
    ∙ ap (λ (k : ℕ). drop n (take k (drop start bytes))) (sym size)

-- what was copied to the front of a buffer
pub front_copied : (copied rest bytes : List ℕ) (n : ℕ) → copied ≡ take n bytes → n ≤ length bytes →
    take n (copied ++ rest) ≡ take n bytes
front_copied copied rest bytes n is within =
    take_at copied rest n (ap length is ∙ length-take-le n bytes within) ∙ is

pub keeps_self : (a : Known) → Keeps a a
keeps_self None = tt
keeps_self (Some xs) = refl

pub given_front : (k l : Known) (block later out : List ℕ) (n : ℕ) → l ≡ k → later ≡ drop n block → out ≡ take n block →
    Consumes (prepend_known block k) (prepend_known later l) out
given_front k l block later out n same drops is =
    let all : block ≡ out ++ later = sym (take-append-drop n block) ∙ (λ i. sym is i ++ sym drops i) in
    let kept = subst (λ (x : Known). Keeps (prepend_known block k) (prepend_known block x)) (sym same)
    (keeps_self (prepend_known block k)) in
    (prepend_known-read (prepend_known block k) l block later out ⊥ kept all (λ never. absurd never)).0

-- none are given
pub none_given : (k l : Known) (block later : List ℕ) (n m : ℕ) → l ≡ k → later ≡ drop n block → n ≡ min (length block) m →
    (block ≡ [] → IsAtEnd (prepend_known block k)) → n ≡ 0 → 0 < m → IsAtEnd (prepend_known later l)
none_given k l [] later n m same drops size end none room =
    let is : later ≡ [] = drops ∙ ap (λ (j : ℕ). drop j []) none in
    subst (λ (x : Known). IsAtEnd (prepend_known later x)) (sym same)
    (subst (λ (b : List ℕ). IsAtEnd (prepend_known b k)) (sym is) (end refl))
none_given k l (b ∷ block) later n m same drops size end none room = absurd (omega arith)

pub has_room : (copied bytes : List ℕ) (n : ℕ) → length copied ≡ n → n ≡ 0 → 0 < length (copied ++ drop n bytes) →
    0 < length bytes
has_room copied bytes n size none some =
    let all : length (copied ++ drop n bytes) ≡ length copied + length (drop n bytes) = length-append copied (drop n bytes) in
    let rest : length (drop n bytes) ≡ length bytes = ap (λ (j : ℕ). length (drop j bytes)) none in
    omega (arith, all, rest, size, none, some)
