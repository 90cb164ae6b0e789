-- A full handle, as a box that was taken apart.
use Rattle.olr_c.proofs.Common.{◌≡◌, List, [], ◌∷◌, ◌++◌, refl, ap, ◌∙◌, Val, vptr, vstruct, of_list, has_ty, WT, T}
use Rattle.olr_c.proofs.Common.{layout, SProp, emp, never, fst∗, ftrue, fact, fact_i, tables, WpFn, sem, ‵, raw, ◌⊛◌}
use Rattle.olr_c.proofs.Common.{◌$◌, ◌∵◌, !, qed, by, move, keep, split, use0, fsplit, fjoin, fpick, fpack, feq_i}
use Rattle.olr_c.proofs.Common.{feq_l, prop, regoal, rewrite, stop, fld, of_opd, no_more, and_then, returns, enter}
use Rattle.olr_c.proofs.Common.{alloc_all, pass_all, free_all, look_at, get, get_in, sets, agg, sub, whole, Valss, owns}
use Rattle.olr_c.proofs.Common.{lone, types_at, plain, Ptr, RawPtr, block_ptr, null_ptr, ptr_val, in_a_block, nothing}
use Rattle.olr_c.proofs.Common.{heard, within, shape, Stays, stay_dropped, walk_of, Goes-blank, handle_tells, Some}
use Rattle.olr_c.proofs.Common.{box_owns, ghosts, proved_at, leaves, Keep, al, pair, and_tt, bare, Option, IsSome}
use Rattle.olr_c.specs.Held.{owns_keep}
use Rattle.olr_spec.proofs.OptionLemmas.{some_of}
use Rattle.olr_c.proofs.owned.Owned.into_loose.Statement.{statement}
use Rattle.std.specs.contracts.alloc.Global as heap
use Rattle.olr_c.specs.contracts.keep.Keep as kept
use Rattle.olr_c.specs.contracts.loose.Loose as loose
use Rattle.olr_c.specs.contracts.owned.Owned as owned
use Rattle.olr_c.specs.contracts.owned.Owned.into_loose as f
use Rattle.olr_c.proofs.owned.Owned.into_loose.Code as code

pub into_loose_spec : {M : Type 1} → statement M
into_loose_spec 𝓤 𝓛 𝓜 𝓡 wired =
    let H = 𝓛.H in let 𝓣 = tables 𝓤 H 𝓜 𝓡 𝓡.env in let c = f.clauses 𝓛 𝓜.mem 𝓡.returns in let fn = code.function in
    let L = owned.the_row in
    let hs : Stays f.ended.signature.params f.ended.kept = (stay_dropped (plain (λ _. L)) f.ended.kept.0, tt) in
    proved_at 𝓛 f.ended hs c 𝓜 𝓡 (Goes-blank 𝓛 0 (plain (λ _. L)) f.ended.kept.0 (λ κs x g. tt), tt) f.Key.name fn (code.unfolded 𝓤 H 𝓜 𝓡 wired) (λ z are.
    let Post : Val → SProp 𝓤 = (walk_of 𝓛 f.ended hs c).post z in
    let v = z.0.3.0 in
    let Full : Type 0 = IsSome v.keep in
    qed 𝓛 ((‵ ftrue ⊛ ‵ (owns (types_at f.ended.signature.params z.0.0) z.0.3 z.0.4)) ∷ raw (fact 𝓤 Full) ∷ []) ∵ move ! (1 ∷ []) $ heard ! Full (λ full.
    let x = (some_of v.keep full).0 in let is = (some_of v.keep full).1 in
    split ! $ move ! (1 ∷ []) $ fsplit ! $
    fsplit ! $ fpick ! (λ vss. fsplit ! $ feq_l ! (λ ev. fsplit ! $ feq_l ! (λ ep. fsplit ! $ handle_tells al ! v.alloc vss.1.0 (λ h ea fits.
    move ! (2 ∷ 0 ∷ []) $ rewrite ! 0 (λ (k : Option Keep). ‵ (owns_keep v.at v.alloc k)) is refl $
    in_a_block ! v.at (λ p. box_owns (ghosts.dealloc_token v.alloc) kept.the_row p x) (fst∗ 𝓤 (never 𝓤) (sem 𝓛 (ghosts.dealloc_token v.alloc (bare (lone kept.the_row.mir)) null_ptr))) (λ b o e.
    -- [the value; the allocator's handle]
    keep ! (0 ∷ 1 ∷ []) $
    let w : Val = pair (vptr b o) h in
    let good : T (has_ty (layout owned.the_row) w) × WT w = (and_tt _ fits.0, (tt, (fits.1, tt))) in
    let r : (loose.the_row kept.the_row heap.the_row ghosts).Denot = record { at = block_ptr b o; alloc = v.alloc; value = x } in
    let Says : Type 0 = v.keep ≡ Some r.value in
    let word = ev ∙ (λ j. vstruct (of_list ((ep ∙ ap (λ (p : Ptr). ptr_val p ∷ []) e) j ++ (ea j ++ []))) ∷ []) in
    regoal ! (λ (us : List Val). prop (WpFn 𝓤 H 𝓣.C 𝓣.Λ fn us Post)) (λ i. word i ++ []) refl $
    enter ! 𝓣.C 𝓣.Λ fn (w ∷ []) Post $ alloc_all ! (λ l. pass_all ! refl (good, tt) $
    sets ! (of_opd ! (get_in ! (fld ! refl (stop !)) (sub ! 0 refl (whole !)))) refl (tt, tt) $
    sets ! (of_opd ! (get_in ! (fld ! refl (stop !)) (sub ! 1 refl (whole !)))) refl fits $
    sets ! (agg ! (and_then ! (get ! refl) (and_then ! (get ! refl) (no_more !)))) refl good $
    returns ! (look_at ! 0 refl) $ free_all ! refl $
    nothing ! $ move ! (2 ∷ 0 ∷ []) $ fjoin ! $
    feq_i ! (List Val) (vptr b o ∷ []) (vptr b o ∷ []) refl $ fjoin ! $ feq_i ! (List Val) (w ∷ []) (w ∷ []) refl $ fjoin ! $
    fpack ! (Valss (RawPtr ∷ heap.the_row ∷ [])) (within (shape (loose.the_type kept.the_row heap.the_row ghosts)) (block_ptr b o, (v.alloc, tt)) (w ∷ [])) (vptr b o ∷ [], (h ∷ [], tt)) $ fjoin ! $
    use0 𝓛 (raw (fact 𝓤 Says)) (fact_i 𝓤 Says (emp 𝓤) is) $ nothing ! $ nothing ! $ fjoin ! $ nothing ! $ move ! (0 ∷ 1 ∷ 3 ∷ 2 ∷ []) $
    by ! (leaves 𝓛 f.ended hs c z w r (tt, tt) (tt, tt))))))))))
