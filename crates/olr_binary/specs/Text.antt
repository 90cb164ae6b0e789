-- References as text: the standard base64 of their bytes.
--     IsTextOf r text      the reference encodes as the text
use Rattle.std.specs.Prelude.{◌≡◌, ℕ, List}
use Rattle.base64.specs.Engines.{standard}
use Rattle.base64.specs.GeneralPurpose.{encode_of}
use Rattle.olr_spec.specs.Reference.{Reference}
use Rattle.olr_spec.specs.Bytes.{IsReference, reference_bytes}

unfoldable pub text_of : Reference → List ℕ
text_of r = encode_of standard (reference_bytes r)

abbrev pub IsTextOf : Reference → List ℕ → Type 0
IsTextOf r text = IsReference r × (text ≡ text_of r)

-- ---- laws

abbrev pub OneText : Type 0
OneText = (r : Reference) (s t : List ℕ) → IsTextOf r s → IsTextOf r t → s ≡ t

abbrev pub OneReference : Type 0
OneReference = (q r : Reference) (text : List ℕ) → IsTextOf q text → IsTextOf r text → q ≡ r
