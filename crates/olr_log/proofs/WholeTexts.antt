-- Whether a text is whole, byte by byte.
use Rattle.olr_log.proofs.Common.{◌≡◌, ◌≢◌, ◌∙◌, ◌≤◌, ◌<◌, ◌-◌, ◌+◌, ℕ, Bool, false, not, List, [], ◌∷◌, length, take, drop}
use Rattle.olr_log.proofs.Common.{◌==◌, refl, sym, ap, subst, arith, length-drop, length-take, drop-length, ne_eqb, eq-eqb}
use Rattle.olr_log.proofs.Common.{◌&&◌, is_empty, is_whole, is_whole_from, stays_open}
use Rattle.std.specs.List.{slice_index}
use Rattle.olr_input.proofs.CsvBytes.{at, empty, longer}

-- the bytes from one index to another
abbrev pub line_at : List ℕ → ℕ → ℕ → List ℕ
line_at text s i = take (i - s) (drop s text)

pub record Reads (text : List ℕ) (is_open : Bool) (s i : ℕ) : Type 0 where
  pub order : s ≤ i
  pub rest : is_whole text ≡ is_whole_from is_open (line_at text s i) (drop i text)

pub reads_none : (text : List ℕ) → Reads text false 0 0
reads_none text = record { order = omega arith; rest = refl }

module _ (text : List ℕ) (is_open : Bool) (s i : ℕ) (a : Reads text is_open s i) (below : i < length text) where
  now : is_whole text ≡ is_whole_from is_open (line_at text s i) (slice_index text i ∷ drop (i + 1) text)
  now = a.rest ∙ ap (λ (x : List ℕ). is_whole_from is_open (line_at text s i) x) (at text i below)

  pub reads_byte : slice_index text i ≢ 13 → slice_index text i ≢ 10 → Reads text is_open s (i + 1)
  reads_byte no_return no_feed =
      record {
        order = let order = a.order in omega (arith, order);
        rest = subst (λ (l : List ℕ). is_whole text ≡ is_whole_from is_open l (drop (i + 1) text))
            (sym (longer text s i a.order below)) (rw (ne_eqb _ _ no_return, ne_eqb _ _ no_feed) at now);
      }

  pub reads_line : slice_index text i ≡ 10 → Reads text (stays_open is_open (line_at text s i)) (i + 1) (i + 1)
  reads_line feed = record { order = omega arith; rest = rw (empty text i) (rw feed at now) }

  pub reads_return : slice_index text i ≡ 13 → is_whole text ≡ false
  reads_return return = rw return at now

empty_by : (x : List ℕ) (s n : ℕ) → length x + s ≡ n → is_empty x ≡ (s == n)
empty_by [] s n e = sym (eq-eqb s n (omega arith))
empty_by (b ∷ x) s n e = sym (ne_eqb s n (λ same. omega (arith, same)))

-- at the end
pub reads_end : (text : List ℕ) (is_open : Bool) (s i : ℕ) → Reads text is_open s i → i ≡ length text → s ≤ length text →
    is_whole text ≡ (not is_open && s == length text)
reads_end text is_open s i a end within =
    let nothing_left : drop i text ≡ [] = ap (λ (n : ℕ). drop n text) end ∙ drop-length text in
    let size = length-take (i - s) (drop s text) in
    let rest = length-drop s text in
    a.rest ∙ ap (λ (x : List ℕ). is_whole_from is_open (line_at text s i) x) nothing_left
    ∙ ap (λ (b : Bool). not is_open && b) (empty_by (line_at text s i) s (length text) (omega (arith, size, rest, end, within)))
