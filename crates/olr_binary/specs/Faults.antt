-- The faults of bytes and of text.
use Rattle.std.specs.Prelude.{◌≡◌, ℕ, List, Option, Some, None, Ok, Err}
use Rattle.base64.specs.Engines.{standard}
use Rattle.base64.specs.GeneralPurpose.{decode_of}
use Rattle.base64.specs.declared.decode.DecodeError.{DecodeError}
use Rattle.olr_spec.specs.Bytes.{V3Fault as Fault, Length as Wrong_length, Status as Wrong_status, Flags as Wrong_flags}
use Rattle.olr_spec.specs.Bytes.{Reserved as Bits_reserved, v3_fault}
use Rattle.olr_binary.specs.declared.faults.V3Fault.{V3Fault}
use Rattle.olr_binary.specs.declared.faults.V3Fault.TheVariants.{Length, Status, Flags, Reserved, Memory}
use Rattle.olr_binary.specs.declared.faults.TextFault.{TextFault}
use Rattle.olr_binary.specs.declared.faults.TextFault.TheVariants.{Bytes, NotBase64}

-- what is wrong with the bytes; out of memory says nothing about them
abbrev pub bytes_fault_of : V3Fault → Option Fault
bytes_fault_of Length = Some Wrong_length
bytes_fault_of Status = Some Wrong_status
bytes_fault_of Flags = Some Wrong_flags
bytes_fault_of Reserved = Some Bits_reserved
bytes_fault_of Memory = None

-- what is wrong with the text: it decodes to bytes with that fault, or it isn't base64
abbrev pub IsFaultOf : List ℕ → TextFault → Type 0
IsFaultOf text (Bytes Memory) = Unit {0}
IsFaultOf text (Bytes f) = (b : List ℕ) × (decode_of standard text ≡ Ok b) × (v3_fault b ≡ bytes_fault_of f)
IsFaultOf text NotBase64 = (e : DecodeError) × (decode_of standard text ≡ Err e)

-- the fault says something about the text
abbrev pub IsOfText : TextFault → Type 0
IsOfText (Bytes Memory) = ⊥
IsOfText f = Unit {0}
