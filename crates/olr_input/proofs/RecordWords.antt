-- What is known of a field whose word was found.
use Rattle.olr_input.proofs.Common.{◌≡◌, ℕ, zero, suc, Bool, true, false, List, [], ◌∷◌, refl, sym, subst, arith, and_parts}
use Rattle.olr_input.proofs.Common.{if◌then◌else◌, unwrap_or}
use Rattle.std.specs.Prelude.{slice_index_or}
use Rattle.std.specs.List.{list_all}
use Rattle.std.specs.Str.{bytes_eq}
use Rattle.std.proofs.lemmas.Slice.Eq.{bytes_eq-Decides}
use Rattle.csv.specs.Records.{field_at}
use Rattle.olr_input.specs.RecordWords.{word_in}
use Rattle.olr_input.specs.declared.record.Word.{Word}
use Rattle.olr_input.specs.declared.record.Word.TheVariants as word

pub same_text : (a b : List ℕ) → bytes_eq a b ≡ true → a ≡ b
same_text a b h = grind (arith, bytes_eq-Decides a b)

-- a test of each word with its text holds of each field with its word
pub by_word : (test : List ℕ → Word → Bool) → ((f : List ℕ) → test f word.Unknown ≡ true) → (ws : List (List ℕ × Word)) →
    list_all (λ w. test w.0 w.1) ws ≡ true → (f : List ℕ) → test f (word_in ws f) ≡ true
by_word test none [] h f = none f
by_word test none (w ∷ ws) h f = one (bytes_eq f w.0) refl (by_word test none ws (and_parts _ _ h).1 f)
  where
    one : (b : Bool) → bytes_eq f w.0 ≡ b → test f (word_in ws f) ≡ true → test f (if b then w.1 else word_in ws f) ≡ true
    one true e k = subst (λ (g : List ℕ). test g w.1 ≡ true) (sym (same_text f w.0 e)) (and_parts _ _ h).0
    one false e k = k

-- past the last field there are no bytes
pub field_is : (fs : List (List ℕ)) (k : ℕ) → slice_index_or fs k [] ≡ unwrap_or (field_at fs k) []
unfolding field_at
field_is [] k = refl
field_is (f ∷ fs) zero = refl
field_is (f ∷ fs) (suc k) = field_is fs k
