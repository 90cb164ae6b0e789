-- The records of a text, one after another, as csv reads them.
use Rattle.olr_input.proofs.Common.{◌≡◌, ◌∙◌, ℕ, zero, ◌+◌, ◌<◌, ◌≤◌, true, false, List, [], ◌∷◌, ◌++◌, length, Option, Some}
use Rattle.olr_input.proofs.Common.{None, refl, sym, ap, subst, arith, suc, cases_Bool, append-nil, step, Read, in_field}
use Rattle.olr_input.proofs.Common.{is_end, ends_at_end, fields_after, field_after, default_config, strip_bom, State, Action}
use Rattle.olr_input.proofs.Common.{HasNone, TakesOne, csv_records}
use Rattle.csv.specs.Reading.{records_next, AreRecords, records_from, Reached}
use Rattle.csv.specs.Machine.{next_record}
use Rattle.csv.specs.declared.parser.State.TheVariants as st

-- after a record, the next has not begun
Rests : State × Action → Type 0
Rests p = is_end p.1 ≡ true → ends_at_end p.0 ≡ false

in_field_rests : (c : ℕ) → Rests (in_field default_config c)
unfolding Rests
in_field_rests c = grind (arith, cases_Bool)

step_rests : (s : State) (c : ℕ) → Rests (step default_config s c)
unfolding Rests
step_rests st.StartRecord c = grind (arith, cases_Bool, in_field_rests)
step_rests st.StartField c = grind (arith, cases_Bool, in_field_rests)
step_rests st.InField c = in_field_rests c
step_rests st.InQuoted c = grind (arith, cases_Bool)
step_rests st.InEscape c = λ e. absurd cc
step_rests st.AfterQuote c = grind (arith, cases_Bool, in_field_rests)
step_rests st.InComment c = grind (arith, cases_Bool)
step_rests st.AfterCr c = grind (arith, cases_Bool, in_field_rests)

-- the rest is no longer than the text, and no record has begun after the one that was read
read_leaves : (s : State) (fields : List (List ℕ)) (field xs : List ℕ) (p : Read) →
    next_record default_config s fields field xs ≡ Some p
    → (length p.2 ≤ length xs) × (ends_at_end p.1 ≡ false)
unfolding next_record Rests
read_leaves s fields field [] p e = grind arith
read_leaves s fields field (c ∷ rest) p e =
    let x = step default_config s c in
    grind (
      arith,
      cases_Bool,
      step_rests s c,
      read_leaves x.0 (fields_after x.1 fields field) (field_after x.1 c field) rest p,
    )

-- the rest is shorter if no record had begun
read_shortens : (s : State) (xs : List ℕ) (p : Read) → ends_at_end s ≡ false →
    next_record default_config s [] [] xs ≡ Some p → length p.2 < length xs
unfolding next_record
read_shortens s [] p f e = grind arith
read_shortens s (c ∷ rest) p f e = grind (arith, read_leaves)

-- ---- all records

abbrev pub Are : State → List ℕ → List (List (List ℕ)) → Type 0
Are s xs rs = AreRecords default_config s xs rs

pub are_none : (s : State) (xs : List ℕ) → next_record default_config s [] [] xs ≡ None → Are s xs []
unfolding Reached
are_none s xs e = (s, xs, (refl, refl), e)

pub are_more : (s t : State) (xs ys : List ℕ) (r : List (List ℕ)) (rs : List (List (List ℕ))) →
    next_record default_config s [] [] xs ≡ Some (r, t, ys) → Are t ys rs → Are s xs (r ∷ rs)
unfolding Reached
are_more s t xs ys r rs e h = (h.0, h.1, ((r, t, ys), e, refl, h.2), h.3)

pub none_taken : (s : State) (xs : List ℕ) → next_record default_config s [] [] xs ≡ None → HasNone (Are s xs)
unfolding Reached
none_taken s xs e [] h = refl
none_taken s xs e (r ∷ rs) h = absurd (let never : None ≡ Some h.2.0 = sym e ∙ h.2.1 in cc)

pub one_taken : (s t : State) (xs ys : List ℕ) (r : List (List ℕ)) →
    next_record default_config s [] [] xs ≡ Some (r, t, ys) → TakesOne (Are s xs) (Are t ys) r
unfolding Reached
one_taken s t xs ys r e [] h =
    absurd (let never : None ≡ Some (r, t, ys) = sym h.3 ∙ (λ i. next_record default_config (sym h.2.0 i) [] [] (sym h.2.1 i)) ∙ e in cc)
one_taken s t xs ys r e (q ∷ rs) h =
    let same : h.2.0 ≡ (r, t, ys) = (let both : Some h.2.0 ≡ Some (r, t, ys) = sym h.2.1 ∙ e in cc) in (
      rs,
      ap (λ (x : List (List ℕ)). x ∷ rs) (h.2.2 ∙ ap (λ (p : Read). p.0) same),
      (
        h.0,
        h.1,
        subst (λ (p : Read). Reached default_config p.1 p.2 rs h.0 h.1) same h.2.3,
        h.3,
      ),
    )

-- with enough steps
from_all : (n : ℕ) (s : State) (xs : List ℕ) → length xs < n → ends_at_end s ≡ false →
    Are s xs (records_from default_config n s xs)
unfolding records_from
from_all zero s xs l f = absurd (omega arith)
from_all (suc n) s xs l f = by_next (next_record default_config s [] [] xs) refl (from_all n)
  where
    by_next : (o : Option Read) → next_record default_config s [] [] xs ≡ o →
        ((t : State) (ys : List ℕ) → length ys < n → ends_at_end t ≡ false → Are t ys (records_from default_config n t ys))
        → Are s xs (records_next (records_from default_config n) (next_record default_config s [] [] xs))
    by_next None e more = rw e (are_none s xs e)
    by_next (Some p) e more =
        let shorter = read_shortens s xs p f e in
        rw e (are_more s p.1 xs p.2 p.0 (records_from default_config n p.1 p.2) e
        (more p.1 p.2 (omega arith) (read_leaves s [] [] xs p e).1))

pub all_records : (bytes : List ℕ) → Are st.StartRecord (strip_bom bytes) (csv_records bytes)
all_records bytes = from_all (length (strip_bom bytes) + 1) st.StartRecord (strip_bom bytes) (omega arith) refl

-- after the first of them the others are left
others : (rs : List (List (List ℕ))) (s t : State) (xs ys : List ℕ) (all : List (List (List ℕ))) → Are s xs all →
    Reached default_config s xs rs t ys → (rest : List (List (List ℕ))) × (all ≡ rs ++ rest) × Are t ys rest
unfolding Reached
others [] s t xs ys all are h =
    (all, refl, subst (λ (x : State × List ℕ). Are x.0 x.1 all) (λ i. (h.0 i, h.1 i)) are)
others (r ∷ rs) s t xs ys all are h =
    let p = h.0 in
    let one = one_taken s p.1 xs p.2 p.0 h.1 all are in
    let more = others rs p.1 t p.2 ys one.0 one.2 h.3 in
    (more.0, one.1 ∙ (λ i. sym h.2 i ∷ more.1 i), more.2)

pub first_records : (input : List ℕ) (records : List (List (List ℕ))) (state : State) (left : List ℕ) →
    Reached default_config st.StartRecord (strip_bom input) records state left
    → (rest : List (List (List ℕ))) × (csv_records input ≡ records ++ rest)
    × (next_record default_config state [] [] left ≡ None → rest ≡ [])
first_records input records state left h =
    let x = others records st.StartRecord state (strip_bom input) left (csv_records input) (all_records input) h in
    (x.0, x.1, λ none. none_taken state left none x.0 x.2)

-- there is one list of them
pub only_records : (bytes : List ℕ) (rs : List (List (List ℕ))) → Are st.StartRecord (strip_bom bytes) rs →
    csv_records bytes ≡ rs
only_records bytes rs h =
    let f = first_records bytes rs h.0 h.1 h.2 in
    f.1 ∙ ap (λ (xs : List (List (List ℕ))). rs ++ xs) (f.2 h.3) ∙ append-nil rs
