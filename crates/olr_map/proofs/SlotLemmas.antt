-- Slots, after a value is added, removed or replaced.
use Rattle.olr_map.proofs.Common.{◌≡◌, ◌==◌, ℕ, ◌+◌, ◌<◌, ◌≤◌, true, cond, List, [], ◌∷◌, ◌++◌, Option, Some, None, is_some}
use Rattle.olr_map.proofs.Common.{length, get_or, refl, sym, ap, ◌∙◌, subst, arith, cases_eq, cases_order, eq-eqb, ne_eqb}
use Rattle.olr_map.proofs.Common.{get_or_past, length-set, length_push, none_of, some_of, at, IsSlotted, IsWritten}
use Rattle.olr_map.proofs.Common.{common_steps, IsDistinct-from_apart, eqb-true, ◌^◌, zero, suc, set, slice_index, IsNone}
use Rattle.std.proofs.lemmas.Map.Views.{Contains-from_any}
use Rattle.std.proofs.lemmas.List.{get_or-set_same, get_or-set_other, get_or_default, get_or_push, get_or_append_left}
use Rattle.std.proofs.lemmas.Map.Steps.{length-le_from_distinct_below}

-- ---- the element at each index after one was written, and after one was appended

module _ {Y : Type 0} (ys : List Y) where
  pub get_or-written : (p q : ℕ) (y d : Y) → p < length ys → get_or (set ys p y) q d ≡ cond (p == q) y (get_or ys q d)
  get_or-written p q y d lt = grind (arith, common_steps, cases_eq, eq-eqb, ne_eqb, get_or-set_same, get_or-set_other)

  pub get_or-pushed : (p q : ℕ) (y d : Y) → p ≡ length ys → get_or (ys ++ y ∷ []) q d ≡ cond (p == q) y (get_or ys q d)
  get_or-pushed p q y d is = grind (arith, common_steps, cases_order, eq-eqb, ne_eqb, get_or_push, get_or_past, get_or_append_left, length_push)

module _ {X : Type 0} where
  pub holds_within : (es : List (Option X)) (p : ℕ) (e : X) → at es p ≡ Some e → p < length es
  holds_within [] p e h = absurd cc
  holds_within (x ∷ es) zero e h = omega arith
  holds_within (x ∷ es) (suc p) e h = let lt = holds_within es p e h in omega arith

  pub written : (es : List (Option X)) (p : ℕ) (o w : Option X) → p < length es → at es p ≡ o →
      IsWritten es (set es p w) p o w
  written es p o w lt h = record { was = h; now = λ q. get_or-written es p q w None lt }

  -- slots are numbered by `u32`
  pub few_slots : {es : List (Option X)} {fs : List ℕ} {room : ℕ} → IsSlotted es fs room → length es ≤ 2 ^ 32
  few_slots s = let few = s.few in omega arith

  -- ---- the free slots

  none_at : (o : Option X) → o ≡ None → IsNone o
  none_at o e = ap (λ p. is_some p) e

  pub some_within : (es : List (Option X)) (p : ℕ) → is_some (at es p) ≡ true → p < length es
  some_within es p h = let x = some_of (at es p) h in holds_within es p x.0 x.1

  module _ (es : List (Option X)) (fs : List ℕ) (room : ℕ) (s : IsSlotted es fs room) where
    free_at : (i : ℕ) → i < length fs → at es (slice_index fs i) ≡ None
    free_at i lt = none_of _ (s.vacant i lt)

    still_free : (p q : ℕ) (w : Option X) → p < length es → (p ≡ q → ⊥) → at es q ≡ None → IsNone (at (set es p w) q)
    still_free p q w lt ne free = grind (arith, common_steps, get_or-written, ne_eqb)

    pub put_slotted : (gs : List ℕ) (p : ℕ) (f : X) → fs ≡ gs ++ p ∷ [] → IsSlotted (set es p (Some f)) gs room
    put_slotted gs p f is =
        let long : length fs ≡ length gs + 1 = ap (λ xs. length xs) is ∙ length_push gs p in
        let here : slice_index fs (length gs) ≡ p = grind (arith, get_or_push) in
        let same : (i : ℕ) → i < length gs → slice_index fs i ≡ slice_index gs i =
        λ i lt. grind (arith, get_or_append_left) in
        let inside = s.inside (length gs) (omega arith) in
        let size : length (set es p (Some f)) ≡ length es = length-set es p (Some f) in
        let roomy = s.roomy in
        let few = s.few in
        record {
          inside = λ i lt. grind (arith, s.inside i, same i);
          vacant = λ i lt. grind (arith, still_free p (slice_index gs i) (Some f), s.apart i (length gs), same i, free_at i);
          apart = λ i j lt h e. grind (arith, s.apart i j, same);
          roomy = omega arith;
          few = omega arith;
        }

    pub push_none : (f : X) (gs : List ℕ) (more : ℕ) (now : List (Option X)) → length fs ≡ 0 → length gs ≡ 0 →
        more ≡ room → length es + 1 ≤ room → length es + 1 < 2 ^ 32 → now ≡ es ++ Some f ∷ [] → IsSlotted now gs more
    push_none f gs more now none none' same le lt is =
        let size = length_push es (Some f) in
        subst (λ (xs : List (Option X)). IsSlotted xs gs more) (sym is) (record {
          inside = λ i h. absurd (omega arith);
          vacant = λ i h. absurd (omega arith);
          apart = λ i j h k. absurd (omega arith);
          roomy = omega arith;
          few = omega arith;
        })

    pub take_slotted : (p : ℕ) (now : List ℕ) (more : ℕ) → is_some (at es p) ≡ true → now ≡ fs ++ p ∷ [] → room ≤ more →
        IsSlotted (set es p None) now more
    take_slotted p now more there is le =
        let inside = some_within es p there in
        let size : length (set es p None) ≡ length es = length-set es p None in
        let long = length_push fs p in
        let roomy = s.roomy in
        let few = s.few in
        subst (λ (xs : List ℕ). IsSlotted (set es p None) xs more) (sym is) (record {
          inside = λ i lt. grind (arith, common_steps, cases_eq, get_or_append_left, get_or_push, s.inside i);
          vacant = λ i lt.
              let out = s.vacant i in
              grind (arith, common_steps, cases_eq, get_or_append_left, get_or_push, out, free_at, still_free, get_or-set_same);
          apart = λ i j lt k.
              grind (arith, common_steps, cases_eq, get_or_append_left, get_or_push, s.vacant i, s.apart i j);
          roomy = omega arith;
          few = omega arith;
        })

    free_few : length fs ≤ length es
    free_few =
        length-le_from_distinct_below fs (length es)
        (IsDistinct-from_apart ◌==◌ fs (λ i j d lt k. grind (arith, common_steps, ne_eqb, s.apart i j, get_or_default)))
        (λ q on. let c = Contains-from_any (λ x y e. eqb-true x y e) q fs on in
        let lt = s.inside c.0 c.1 in let is = get_or_default fs c.0 0 q c.1 in let here = c.2 in omega arith)

  -- there is capacity for one more free slot
  pub free_room : (es : List (Option X)) (fs : List ℕ) (room : ℕ) → IsSlotted es fs room → (p : ℕ) →
      is_some (at es p) ≡ true → length fs < room
  free_room es fs room s p there =
      let few = free_few (set es p None) (fs ++ p ∷ []) room (take_slotted es fs room s p (fs ++ p ∷ []) room there refl (omega arith)) in
      let long = length_push fs p in
      let size = length-set es p None in
      let roomy = s.roomy in
      omega arith
