-- The texts and entries of a list whose paths were encoded, and such a list as what its iterator has left.
use Rattle.olr_paths.proofs.Common.{arith, ◌≡◌, ℕ, Bool, List, Bor, IsTrue, Option, Some, None, sym, ap, ◌∙◌, subst, option_map}
use Rattle.olr_paths.proofs.Common.{bytes_eq, IsReference, bytes_decides, result_ok, published_text, option_eq, true, is_some}
use Rattle.olr_paths.proofs.Common.{[], ◌∷◌, refl, Results, Item, results_of, results_of_named, ◌≢◌, ◌&&◌}
use Rattle.olr_paths.proofs.Common.{map, string_bytes, Rc, AreEncoded, Published, list_all, Global}
use Rattle.olr_binary.proofs.TextLemmas.{one_reference}
use Rattle.olr_spec.specs.Reference.{Reference}
use Rattle.olr_binary.specs.Text.{IsTextOf, text_of}
use Rattle.olr_spec.specs.Encoding as spec
use Rattle.olr_paths.proofs.NamedEntries.{Entries, items_of}

-- ---- two texts

same_texts : (q r : Reference) (s t : List ℕ) → IsTextOf q s → IsTextOf r t →
    (IsTrue (bytes_eq s t) → spec.Points q ≡ spec.Points r) × (spec.Points q ≡ spec.Points r → IsTrue (bytes_eq s t))
same_texts q r s t p h = (
  (λ e. ap spec.Points (one_reference q r s p (h.0, (bytes_decides s t).0 e ∙ h.1))),
  (λ e. let same : q ≡ r = cc in (bytes_decides s t).1 (p.1 ∙ ap text_of same ∙ sym h.1)),
)

-- a stored text determines the reference that it encodes
pub decided : (q r : Reference) (o p : Option (Bor (List ℕ))) → IsReference q → IsReference r
    → option_map (λ s. s.now) o ≡ result_ok (published_text (spec.Points q)) →
    option_map (λ s. s.now) p ≡ result_ok (published_text (spec.Points r))
    → (b : Bool) → b ≡ option_eq (λ s t. bytes_eq s.now t.now) o p
    → (IsTrue b → spec.Points q ≡ spec.Points r) × (spec.Points q ≡ spec.Points r → IsTrue b)
decided q r (Some s) (Some t) soundq soundr textq textr b e =
    let first : s.now ≡ text_of q = cc in
    let second : t.now ≡ text_of r = cc in
    let both = same_texts q r s.now t.now (soundq, first) (soundr, second) in
    subst (λ (c : Bool). (IsTrue c → spec.Points q ≡ spec.Points r) × (spec.Points q ≡ spec.Points r → IsTrue c))
    (sym e) both
decided q r _ _ soundq soundr textq textr b e = absurd cc

-- ---- what was encoded

some_results : (o : Option (Rc Published Global)) → option_map (λ p. results_of p.value) o ≢ None → is_some o ≡ true
some_results o h = grind arith

pub all_some : (es : Entries) → AreEncoded (items_of es) → list_all (λ e. is_some e.1.published) es ≡ true
all_some [] a = refl
all_some (e ∷ es) a =
    ap (λ b. b && list_all (λ e. is_some e.1.published) es) (some_results e.1.published a.0) ∙ all_some es a.1

pub all_left : (es : Entries) → map {B = List ℕ × Option Results} (λ e. (string_bytes e.0, results_of_named e.1)) es
    ≡ map (λ (i : Item). (i.name, i.results)) (items_of es)
all_left [] = refl
all_left (e ∷ es) = ap (λ (xs : List (List ℕ × Option Results)). (string_bytes e.0, results_of_named e.1) ∷ xs) (all_left es)
