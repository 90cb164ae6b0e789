use Rattle.olr_binary.proofs.Common.{◌≡◌, ◌∙◌, ◌+◌, ◌*◌, List, slice_range, arith, rules, flat_map, Reference, IsReference}
use Rattle.olr_binary.proofs.Common.{middle_bytes, ap, sym, ◌++◌, length, stretch_parts, encoded_passes}
use Rattle.olr_spec.proofs.Common.{ℕ, length-drop, length-take}
use Rattle.olr_binary.proofs.LayoutLemmas.{last_bytes, no_fault}
use Rattle.olr_binary.proofs.PointLemmas.{reference_bytes-parts}
use Rattle.olr_binary.proofs.read.read_v3.Goals as goal

pub returns-in_err-layout-clause-unspelled : goal.returns-in_err-layout-clause-unspelled
returns-in_err-layout-clause-unspelled c = grind (arith, encoded_passes)

pub read_last-last-requires : goal.read_last-last-requires
read_last-last-requires c =
    let size = c.in_ok-layout.ensures.ok.size in
    let last = last_bytes c.args.bytes.now _ _ c.in_ok-layout.ensures.ok c.in_ok-layout.ensures.sound in
    rw c.bytes_at-2.ensures record {
      size = omega (arith, length-drop {A = ℕ}, length-take {A = ℕ}, last.0, last.1);
      reserved_1 = last.3;
      reserved_4 = omega (arith, last.0, last.2);
    }

pub returns-clause-ok : goal.returns-clause-ok
returns-clause-ok c =
    let b : List ℕ = c.args.bytes.now in
    let m = c.in_ok-layout.layout.middle in
    let size = c.in_ok-layout.ensures.ok.size in
    let points = c.in_ok-middle.middle.items in
    let r : Reference =
    record {
      first = c.read_first-first.result;
      middle = points;
      last = c.read_last-last.result.0;
      pos = c.read_last-last.result.1;
      neg = c.read_last-last.result.2;
    } in
    let fit : IsReference r = search rules in
    let middle : flat_map middle_bytes points ≡ slice_range b 10 (10 + 7 * m) = search rules in
    let k = 10 + 7 * m in
    let parts = sym (stretch_parts b k (k + 6) (length b) (omega arith) (omega arith)) in
    let whole = c.read_last-last.ensures.encoded ∙ ap (λ (p : List ℕ). p ++ slice_range b (k + 6) (length b)) c.bytes_at-2.ensures ∙ parts in
    let state = (no_fault b c.in_ok-layout.ensures.sound).state in (
      fit,
      reference_bytes-parts b m r (omega arith) state (c.read_first-first.ensures.encoded ∙ c.bytes_at.ensures) middle
          whole,
    )
