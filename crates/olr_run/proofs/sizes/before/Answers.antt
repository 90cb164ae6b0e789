use Rattle.std.proofs.lemmas.Str.Pattern.{strip_suffix_char}
use Rattle.std.proofs.Common.{◌≡◌, ◌≢◌, ◌∙◌, ◌-◌, ◌<◌, ◌==◌, ℕ, suc, Bool, true, false, List, [], ◌∷◌, ◌++◌, length, take, ap}
use Rattle.std.proofs.Common.{sym, refl, arith, Option, Some, None, MatchOption, Bor, get_or}
use Rattle.std.proofs.lemmas.List.{length-append}
use Rattle.std.proofs.Math.Seq.{take-suc, take-length, take-append_seam, get_or-append_seam}
use Rattle.olr_run.specs.Sizes.{last_byte}
use Rattle.olr_run.proofs.sizes.before.Goals as goal

-- a text that isn't empty
at_end : (bs : List ℕ) → 0 < length bs → bs ≡ take (length bs - 1) bs ++ last_byte bs ∷ []
at_end bs h =
    let all : suc (length bs - 1) ≡ length bs = omega (arith, h) in
    sym (take-length bs) ∙ sym (ap (λ (n : ℕ). take n bs) all) ∙ take-suc bs (length bs - 1) 0 (omega (arith, h))

before_end : (front : List ℕ) (c : ℕ) → length (front ++ c ∷ []) - 1 ≡ length front
before_end front c = omega (arith, length-append front (c ∷ []))

ends : (front : List ℕ) (c : ℕ) (bs : List ℕ) → bs ≡ front ++ c ∷ [] →
    ((last_byte bs == c) ≡ true) × (front ≡ take (length bs - 1) bs)
ends front c bs is =
    let last : last_byte (front ++ c ∷ []) ≡ c = ap (λ (n : ℕ). get_or (front ++ c ∷ []) n 0) (before_end front c)
    ∙ get_or-append_seam front c [] 0 in
    let first : take (length (front ++ c ∷ []) - 1) (front ++ c ∷ []) ≡ front =
    ap (λ (n : ℕ). take n (front ++ c ∷ [])) (before_end front c) ∙ take-append_seam front (c ∷ []) in
    let last_of : last_byte bs ≡ c = ap last_byte is ∙ last in
    (grind (arith, last_of), sym (ap (λ (xs : List ℕ). take (length xs - 1) xs) is ∙ first))

never : (c : ℕ) (bs : List ℕ) → 0 < c → ((front : List ℕ) → bs ≢ front ++ c ∷ []) → (last_byte bs == c) ≡ false
never c [] some h = grind (arith, some)
never c (b ∷ bs) some h = by (last_byte (b ∷ bs) == c) refl
  where
    by : (is : Bool) → (last_byte (b ∷ bs) == c) ≡ is → is ≡ false
    by false e = refl
    by true e =
        let same : last_byte (b ∷ bs) ≡ c = grind (arith, e) in
        absurd (h (take (length (b ∷ bs) - 1) (b ∷ bs)) (at_end (b ∷ bs) (omega arith)
        ∙ ap (λ (x : ℕ). take (length (b ∷ bs) - 1) (b ∷ bs) ++ x ∷ []) same))

stripped : (c : ℕ) (bs : List ℕ) (r : Option (Bor (List ℕ))) → 0 < c →
    MatchOption r ((front : List ℕ) → bs ≢ front ++ (c ∷ [])) (λ x. bs ≡ x.now ++ (c ∷ [])) →
    MatchOption r ((last_byte bs == c) ≡ false)
    (λ x. ((last_byte bs == c) ≡ true) × (x.now ≡ take (length bs - 1) bs))
stripped c bs None some h = never c bs some h
stripped c bs (Some x) some h = ends x.now c bs h

pub returns : goal.returns
returns c =
    let letter = c.args.letter in
    let text = c.args.text.now in
    stripped letter text c.strip_suffix.result c.requires.0
    (strip_suffix_char letter text c.strip_suffix.result c.strip_suffix.ensures.cases c.requires.1)
