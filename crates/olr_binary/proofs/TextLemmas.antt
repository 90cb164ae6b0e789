-- The text of a reference decodes to this reference.
use Rattle.olr_binary.proofs.Common.{◌≡◌, List, Some, None, refl, sym, ap, ◌∙◌, Reference, reference_bytes, v3_fault, decode_of}
use Rattle.olr_binary.proofs.Common.{one_decoding, encoded_passes, Bytes, NotBase64}
use Rattle.olr_spec.proofs.Common.{ℕ, IfErr, Result, Ok, Err}
use Rattle.base64.specs.Engines.{standard}
use Rattle.base64.proofs.EngineFacts.{decode_of-encode_of}
use Rattle.olr_binary.specs.declared.faults.V3Fault.TheVariants.{Memory}
use Rattle.olr_binary.specs.declared.faults.TextFault.{TextFault}
use Rattle.olr_binary.specs.Faults.{IsFaultOf, IsOfText}
use Rattle.olr_binary.specs.Text.{IsTextOf, text_of}
use Rattle.olr_spec.specs.Bytes.{V3Fault as Fault}
use Rattle.olr_binary.proofs.EncodedLemmas.{reference_bytes-bytes}

decode-text : (r : Reference) (text : List ℕ) → IsTextOf r text → decode_of standard text ≡ Ok (reference_bytes r)
unfolding text_of
decode-text r text is =
    ap (decode_of standard) is.1 ∙ decode_of-encode_of standard (reference_bytes r) refl (reference_bytes-bytes r is.0)

pub one_reference : (q r : Reference) (text : List ℕ) → IsTextOf q text → IsTextOf r text → q ≡ r
one_reference q r text p s =
    let both = sym (decode-text q text p) ∙ decode-text r text s in
    let same : reference_bytes q ≡ reference_bytes r = cc both in
    one_decoding q r p.0 s.0 same

bytes-no_text : (text b : List ℕ) (f : Fault) → decode_of standard text ≡ Ok b → v3_fault b ≡ Some f → (r : Reference) →
    ¬ IsTextOf r text
bytes-no_text text b f decoded fault r is =
    let both = sym decoded ∙ decode-text r text is in
    let same : b ≡ reference_bytes r = cc both in
    let sound : v3_fault b ≡ None = ap v3_fault same ∙ encoded_passes r is.0 in
    cc (sound, fault)

pub fault-no_text : (text : List ℕ) (f : TextFault) → IsFaultOf text f → IsOfText f → (r : Reference) →
    ¬ IsTextOf r text
fault-no_text text (Bytes Memory) fault reported r is = reported
fault-no_text text NotBase64 fault reported r is =
    let some = decode-text r text is in
    let none = fault.1 in
    cc (some, none)
fault-no_text text f fault reported r is = bytes-no_text text fault.0 _ fault.1 fault.2 r is

pub no_text : {T : Type 0} (text : List ℕ) (r : Result T TextFault) → IfErr r (λ f. IsFaultOf text f) →
    IfErr r (λ f. IsOfText f → (s : Reference) → ¬ IsTextOf s text)
no_text text (Ok x) faults = tt
no_text text (Err f) faults = fault-no_text text f faults
