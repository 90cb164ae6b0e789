-- The names that most proofs of olr_binary cite, passed on from one place. Declares nothing.
pub use Rattle.base64.specs.GeneralPurpose.{IsBytes, decode_of}
pub use Rattle.olr_binary.specs.declared.faults.TextFault.TheVariants.{Bytes, NotBase64}
pub use Rattle.olr_spec.proofs.BytesLemmas.{flag_below, one_decoding, part}
pub use Rattle.olr_spec.proofs.Common.{AllByRecursion, First, IsMiddle, IsReference, List, Middle, None, Reference, Some, []}
pub use Rattle.olr_spec.proofs.Common.{ap, arith, drop, first_bytes, flat_map, from_abs24, ints, last_bytes, length, map}
pub use Rattle.olr_spec.proofs.Common.{middle_bytes, nat_abs, nat_le, nat_tests, reference_bytes, refl, rules, slice_index}
pub use Rattle.olr_spec.proofs.Common.{slice_range, status_byte, steps_sum, suc, sym, take, take_all, to_z-of_z, v3_fault, w16}
pub use Rattle.olr_spec.proofs.Common.{zero, ◌*◌, ◌++◌, ◌+ℤ◌, ◌+◌, ◌-◌, ◌/◌, ◌^◌, ◌∙◌, ◌∷◌, ◌≡◌, ◌≤◌, w128, w32, w64}
pub use Rattle.olr_spec.proofs.QueryLemmas.{stretch_parts}
pub use Rattle.olr_spec.proofs.ReadLemmas.{AreBytes, encoded_passes}
pub use Rattle.std.proofs.lemmas.Grind.{common_steps}
