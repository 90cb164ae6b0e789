use Rattle.olr_paths.proofs.Common.{◌≡◌, ◌∙◌, ℕ, inl, inr, get_or, slice_get, Some, sym, ap, arith, subst, length}
use Rattle.olr_paths.proofs.Common.{slice_get_within, cases_lt, named_keys, IsNoted}
use Rattle.olr_paths.proofs.PathIdLemmas.{noted_grown}
use Rattle.olr_paths.proofs.path_list.PathList.all_noted.Goals as goal

some_same : {A : Type 0} {x y : A} → Some x ≡ Some y → x ≡ y
some_same e = cc

pub loop-k-preserved : goal.loop-k-preserved
loop-k-preserved c j e lt at =
    let es = c.args.self.now.paths.entries in
    let k = c.loop-k.k in
    let g = c.note.new.self in
    elim (cases_lt j k) [
      | inl low ↦ noted_grown c.loop-k.finder g (get_or c.args.self.now.path_ids.items j 0) (named_keys e.1) c.note.ensures.grows
          (c.loop-k.invariant j e low at)
      | inr high ↦
          let same : j ≡ k = omega arith in
          let here : (c.in-Some.field-0-0.now, c.in-Some.named.now) ≡ e =
          some_same (c.in-Some.ensures.entry ∙ ap (λ (i : ℕ). slice_get es i) (sym same) ∙ at) in
          rw (← here, same, ← c.deref-path_id-items.ensures.value)
          (subst (IsNoted g (get_or c.deref-path_id-items.result.now k 0)) c.keys.ensures c.in_ok-note.ensures.noted)
    ]

pub returns : goal.returns
returns c k e at =
    let l = c.args.self.now in
    c.loop-k.invariant k e
    (omega (
      arith,
      slice_get_within l.paths.entries k e at,
      c.loop-k-test.false,
      ap length c.deref-path_id-items.ensures.value,
      l.long,
    )) at
