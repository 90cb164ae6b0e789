-- One byte more of a text that is read for the end of its whole records.
use Rattle.olr_log.proofs.Common.{◌≡◌, ℕ, suc, ◌+◌, ◌≤◌, ◌<◌, Bool, true, false, List, [], ◌∷◌, ◌++◌, length, take, refl, sym}
use Rattle.olr_log.proofs.Common.{◌∙◌, ap, subst, arith, length-append, length-take, append_assoc, ◌==◌, ◌&&◌, ◌||◌, not}
use Rattle.olr_log.proofs.Common.{if◌then◌else◌, codes, bytes_eq, take-append-le, take-take, take_all, and_left, and_right}
use Rattle.olr_log.proofs.Common.{cond-true, cond-false, ne_eqb, is_whole_from, stays_open, is_empty, counts, ends_blank}
use Rattle.olr_log.proofs.Common.{ends_blank_behind, longest_front, StandsAt, Scanned}
use Rattle.olr_log.proofs.StoredLines.{empty_snoc}
use Rattle.olr_log.specs.Texts.{unpadded, recovered}
use Rattle.olr_log.specs.declared.scan.Scan.{Scan}
use Rattle.olr_log.proofs.Behind.{unpadded_return, unpadded_other}
use Rattle.olr_log.proofs.Fronts.{recovered_stop, longest_within}

-- with one byte more, a text is recovered as a whole, or as before
recovered_snoc : (x : List ℕ) (b : ℕ) → recovered (x ++ b ∷ []) ≡ (if counts (x ++ b ∷ []) then x ++ b ∷ [] else recovered x)
unfolding recovered
recovered_snoc x b =
    let all = x ++ b ∷ [] in
    let size : length all ≡ suc (length x) = omega (arith, length-append x (b ∷ [])) in
    ap (λ (n : ℕ). longest_front n all) size ∙ ap (λ (t : List ℕ). if counts t then t else longest_front (length x) all) (take_all (suc (length x)) all (omega (arith, size)))
    ∙ ap (λ (r : List ℕ). if counts all then all else r) (longest_within (length x) x (b ∷ []) (omega arith))

-- the last two bytes decide
blank_last : (before : ℕ) (x : List ℕ) (a b : ℕ) → ends_blank_behind before (x ++ a ∷ b ∷ []) ≡ (a == 10 && b == 10)
blank_last before [] a b = refl
blank_last before (c ∷ []) a b = refl
blank_last before (c ∷ d ∷ x) a b = blank_last c (d ∷ x) a b

-- what a front of 8 bytes tells of a line
begins_front : (line : List ℕ) → bytes_eq (take 8 line) (codes "begin") ≡ bytes_eq line (codes "begin")
begins_front [] = refl
begins_front (a ∷ []) = refl
begins_front (a ∷ b ∷ []) = refl
begins_front (a ∷ b ∷ c ∷ []) = refl
begins_front (a ∷ b ∷ c ∷ d ∷ []) = refl
begins_front (a ∷ b ∷ c ∷ d ∷ e ∷ []) = refl
begins_front (a ∷ b ∷ c ∷ d ∷ e ∷ f ∷ line) = refl

empty_front : (line : List ℕ) → is_empty (take 8 line) ≡ is_empty line
empty_front [] = refl
empty_front (a ∷ line) = refl

stays_front : (o : Bool) (line begun : List ℕ) → take 8 line ≡ begun → stays_open o begun ≡ stays_open o line
stays_front o line begun is =
    let f : Bool → List ℕ → Bool = λ p x. p || o && not (bytes_eq x (codes "commit,")) in
    ap (stays_open o) (sym is) ∙ (λ i. f (begins_front line i) (take-take 7 8 line (omega arith) i))

-- the front of a line with one byte more
pub front_more : (line begun : List ℕ) (b : ℕ) → take 8 line ≡ begun → length begun < 8 → take 8 (line ++ b ∷ []) ≡ begun ++ b ∷ []
front_more line begun b is short =
    let all : take 8 line ≡ line = short_line line (subst (λ (x : List ℕ). length x < 8) (sym is) short) in
    let same : line ≡ begun = sym all ∙ is in
    take_all 8 (line ++ b ∷ []) (omega (arith, length-append line (b ∷ []), ap length same)) ∙ ap (λ (x : List ℕ). x ++ b ∷ []) same
  where
    short_line : (l : List ℕ) → length (take 8 l) < 8 → take 8 l ≡ l
    short_line l low = take_all 8 l (omega (arith, low, length-take 8 l))

pub front_same : (line begun : List ℕ) (b : ℕ) → take 8 line ≡ begun → 8 ≤ length begun → take 8 (line ++ b ∷ []) ≡ begun
front_same line begun b is long =
    take-append-le 8 line (b ∷ []) (omega (arith, ap length is, length-take 8 line)) ∙ is

-- a line goes on
pub byte_stands : (o : Bool) (begun later x : List ℕ) (b : ℕ) (s : StandsAt o begun x) → (b ≡ 10 → ⊥) → (b ≡ 13 → ⊥) → take 8 (s.line ++ b ∷ []) ≡ later → StandsAt o later (x ++ b ∷ [])
byte_stands o begun later x b s no_feed no_return front = record {
  line = s.line ++ b ∷ [];
  front = front;
  rest = λ more. ap (λ (y : List ℕ). is_whole_from false [] y) (append_assoc x (b ∷ []) more) ∙ s.rest (b ∷ more) ∙ goes more;
  blank = ap (λ (y : List ℕ). ends_blank y) (append_assoc x (b ∷ []) (10 ∷ [])) ∙ blank_last 10 x b 10 ∙ and_left (b == 10) true (ne_eqb b 10 no_feed) ∙ sym (empty_snoc s.line b);
}
  where
    goes : (more : List ℕ) → is_whole_from o s.line (b ∷ more) ≡ is_whole_from o (s.line ++ b ∷ []) more
    goes more = cond-false _ _ _ (ne_eqb b 10 no_feed) ∙ ap (λ (p : Bool). not p && is_whole_from o (s.line ++ b ∷ []) more) (ne_eqb b 13 no_return)

pub byte_counts : (o : Bool) (begun x : List ℕ) (b : ℕ) (s : StandsAt o begun x) → (b ≡ 10 → ⊥) → counts (x ++ b ∷ []) ≡ false
byte_counts o begun x b s no_feed =
    and_left _ _ (s.rest (b ∷ []) ∙ cond-false _ _ _ (ne_eqb b 10 no_feed) ∙ and_right (not (b == 13)) _ (and_right (not o) _ (empty_snoc s.line b)))

pub byte_recovered : (o : Bool) (begun x : List ℕ) (b : ℕ) (s : StandsAt o begun x) → (b ≡ 10 → ⊥) → recovered (x ++ b ∷ []) ≡ recovered x
byte_recovered o begun x b s no_feed = recovered_snoc x b ∙ cond-false _ _ _ (byte_counts o begun x b s no_feed)

-- a line ends
pub line_stands : (o : Bool) (begun x : List ℕ) (s : StandsAt o begun x) → StandsAt (stays_open o s.line) [] (x ++ 10 ∷ [])
line_stands o begun x s = record {
  line = [];
  front = refl;
  rest = λ more. ap (λ (y : List ℕ). is_whole_from false [] y) (append_assoc x (10 ∷ []) more) ∙ s.rest (10 ∷ more);
  blank = ap (λ (y : List ℕ). ends_blank y) (append_assoc x (10 ∷ []) (10 ∷ [])) ∙ blank_last 10 x 10 10;
}

line_counts : (o : Bool) (begun x : List ℕ) (s : StandsAt o begun x) → counts (x ++ 10 ∷ []) ≡ (not (stays_open o s.line) && not (is_empty s.line))
line_counts o begun x s =
    let f : Bool → Bool → Bool = λ p q. p && not q in
    ap (λ (p : Bool). f p (ends_blank (x ++ 10 ∷ []))) (s.rest (10 ∷ []) ∙ whole (not (stays_open o s.line))) ∙ ap (λ (q : Bool). f (not (stays_open o s.line)) q) s.blank
  where
    whole : (p : Bool) → (p && true) ≡ p
    whole true = refl
    whole false = refl

pub found_more : (n : ℕ) (x more : List ℕ) → n ≤ length x → take n x ≡ recovered x → recovered (x ++ more) ≡ recovered x → take n (x ++ more) ≡ recovered (x ++ more)
found_more n x more within found same = take-append-le n x more within ∙ found ∙ sym same

-- where whole records end, behind a line that ends
line_found : (x : List ℕ) (ends : Bool) → ends ≡ counts (x ++ 10 ∷ []) → (at found new : ℕ) → at ≡ length x → found ≤ length x → take found x ≡ recovered x
    → new ≡ (if ends then at + 1 else found) → (take new (x ++ 10 ∷ []) ≡ recovered (x ++ 10 ∷ [])) × (new ≤ length (x ++ 10 ∷ []))
line_found x true is at found new here within so_far new_is =
    let long : new ≡ length (x ++ 10 ∷ []) = omega (arith, new_is, here, length-append x (10 ∷ [])) in
    (take_all new (x ++ 10 ∷ []) (omega (arith, long)) ∙ sym (recovered_snoc x 10 ∙ cond-true _ _ _ (sym is)), omega (arith, long))
line_found x false is at found new here within so_far new_is = (
  ap (λ (n : ℕ). take n (x ++ 10 ∷ [])) new_is ∙ found_more found x (10 ∷ []) within so_far (recovered_snoc x 10 ∙ cond-false _ _ _ (sym is)),
  omega (arith, new_is, within, length-append x (10 ∷ [])),
)

-- the state behind one byte more
module _ (s new : Scan) (x : List ℕ) (known : Scanned s x) (at : new.at ≡ s.at + 1) where
  size : (b : ℕ) → length (x ++ b ∷ []) ≡ length x + 1
  size b = length-append x (b ∷ [])

  pub scanned_return : (b : ℕ) → b ≡ 13 → new.found ≡ s.found → new.last ≡ s.last → new.is_over ≡ true → Scanned new (x ++ b ∷ [])
  scanned_return b is found last over = subst (λ (n : ℕ). Scanned new (x ++ n ∷ [])) (sym is) (record {
    at = at ∙ ap (λ (n : ℕ). n + 1) known.at ∙ sym (size 13);
    found = ap (λ (n : ℕ). take n (x ++ 13 ∷ [])) found ∙ found_more s.found x (13 ∷ []) known.within known.found (recovered_stop x []);
    within = omega (arith, found, known.within, size 13);
    reach = omega (arith, last, known.reach, size 13);
    rest = unpadded_return x ∙ known.rest ∙ sym (take-append-le s.last x (13 ∷ []) known.reach) ∙ ap (λ (n : ℕ). take n (x ++ 13 ∷ [])) (sym last);
    over = λ _ more. ap recovered (append_assoc x (13 ∷ []) more) ∙ recovered_stop x more ∙ sym (recovered_stop x []);
    stands = λ not_over. absurd (cc (over, not_over));
  })

  -- it is no carriage return
  all_left : (b : ℕ) → new.last ≡ s.at + 1 → (b ≡ 13 → ⊥) → unpadded (x ++ b ∷ []) ≡ take new.last (x ++ b ∷ [])
  all_left b last other = unpadded_other x b other ∙ sym (take_all new.last (x ++ b ∷ []) (omega (arith, last, known.at, size b)))

  -- behind a carriage return nothing counts
  pub scanned_over : (b : ℕ) → new.found ≡ s.found → new.last ≡ s.at + 1 → new.is_over ≡ s.is_over → s.is_over ≡ true → (b ≡ 13 → ⊥) → Scanned new (x ++ b ∷ [])
  scanned_over b found last same over no_return = record {
    at = at ∙ ap (λ (n : ℕ). n + 1) known.at ∙ sym (size b);
    found = ap (λ (n : ℕ). take n (x ++ b ∷ [])) found ∙ found_more s.found x (b ∷ []) known.within known.found (known.over over (b ∷ []));
    within = omega (arith, found, known.within, size b);
    reach = omega (arith, last, known.at, size b);
    rest = all_left b last no_return;
    over = λ _ more. ap recovered (append_assoc x (b ∷ []) more) ∙ known.over over (b ∷ more) ∙ sym (known.over over (b ∷ []));
    stands = λ not_over. absurd (cc (over, same, not_over));
  }

  pub scanned_byte : (b : ℕ) → new.found ≡ s.found → new.last ≡ s.at + 1 → new.is_over ≡ s.is_over → s.is_over ≡ false → new.is_open ≡ s.is_open → (b ≡ 10 → ⊥) → (b ≡ 13 → ⊥)
      → ((line : List ℕ) → take 8 line ≡ s.begun.items → take 8 (line ++ b ∷ []) ≡ new.begun.items) → Scanned new (x ++ b ∷ [])
  scanned_byte b found last same goes opened no_feed no_return front =
      let stands = known.stands goes in
      record {
        at = at ∙ ap (λ (n : ℕ). n + 1) known.at ∙ sym (size b);
        found = ap (λ (n : ℕ). take n (x ++ b ∷ [])) found ∙ found_more s.found x (b ∷ []) known.within known.found (byte_recovered s.is_open s.begun.items x b stands no_feed);
        within = omega (arith, found, known.within, size b);
        reach = omega (arith, last, known.at, size b);
        rest = all_left b last no_return;
        over = λ over. absurd (cc (goes, same, over));
        stands = λ _. subst (λ (o : Bool). StandsAt o new.begun.items (x ++ b ∷ [])) (sym opened) (byte_stands s.is_open s.begun.items new.begun.items x b stands no_feed no_return (front stands.line stands.front));
      }

  pub scanned_line : (b : ℕ) → b ≡ 10 → new.last ≡ s.at + 1 → new.is_over ≡ s.is_over → s.is_over ≡ false → new.is_open ≡ stays_open s.is_open s.begun.items → new.begun.items ≡ []
      → new.found ≡ (if not new.is_open && not (is_empty s.begun.items) then s.at + 1 else s.found) → Scanned new (x ++ b ∷ [])
  scanned_line b is last same goes opened begun found =
      let stands = known.stands goes in
      let open_is : new.is_open ≡ stays_open s.is_open stands.line = opened ∙ stays_front s.is_open stands.line s.begun.items stands.front in
      let empty : is_empty s.begun.items ≡ is_empty stands.line = sym (ap is_empty stands.front) ∙ empty_front stands.line in
      let counted : (not new.is_open && not (is_empty s.begun.items)) ≡ counts (x ++ 10 ∷ []) =
      ap (λ (p : Bool). not p && not (is_empty s.begun.items)) open_is ∙ ap (λ (q : Bool). not (stays_open s.is_open stands.line) && not q) empty ∙ sym (line_counts s.is_open s.begun.items x stands) in
      let ends = line_found x (not new.is_open && not (is_empty s.begun.items)) counted s.at s.found new.found known.at known.within known.found found in
      subst (λ (n : ℕ). Scanned new (x ++ n ∷ [])) (sym is) (record {
        at = at ∙ ap (λ (n : ℕ). n + 1) known.at ∙ sym (size 10);
        found = ends.0;
        within = ends.1;
        reach = omega (arith, last, known.at, size 10);
        rest = all_left 10 last (λ never. omega (arith, never));
        over = λ over. absurd (cc (goes, same, over));
        stands = λ _. subst (λ (o : Bool). StandsAt o new.begun.items (x ++ 10 ∷ [])) (sym open_is)
            (subst (λ (begun : List ℕ). StandsAt (stays_open s.is_open stands.line) begun (x ++ 10 ∷ [])) (sym begun) (line_stands s.is_open s.begun.items x stands));
      })
