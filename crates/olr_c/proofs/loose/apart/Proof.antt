-- A box is taken apart: its pointer, its allocator, and what it owns.
use Rattle.olr_c.proofs.Common.{◌≡◌, List, [], ◌∷◌, ◌++◌, refl, ap, ◌∙◌, true, ◌&&◌, T, a_type, dcons, dnil, inst_fn}
use Rattle.olr_c.proofs.Common.{Val, vptr, vstruct, of_list, has_ty, WT, SProp, emp, never, id⊢, fst∗, ftrue, flft}
use Rattle.olr_c.proofs.Common.{fact, fact_i, tables, WpFn, sem, ‵, raw, ◌⊛◌, some, later, ◌$◌, ◌∵◌, !, qed, by, move}
use Rattle.olr_c.proofs.Common.{keep, drop, split, split3, join, use0, use1, fsplit, fjoin, fpick, fpack, pick, await}
use Rattle.olr_c.proofs.Common.{feq_i, feq_l, prop, regoal, rewrite, stop, fld, of_opd, no_more, and_then, returns}
use Rattle.olr_c.proofs.Common.{enter, alloc_all, pass_all, free_all, look_at, get, get_in, sets, agg, sub, whole}
use Rattle.olr_c.proofs.Common.{RattleType, Valss, owns, layout, bounded, types_at, plain, Ptr, RawPtr, block_ptr}
use Rattle.olr_c.proofs.Common.{null_ptr, ptr_val, in_a_block, nothing, only, heard, within, shape, triple_of, framed}
use Rattle.olr_c.proofs.Common.{Stays, stay_dropped, walk_of, no, Goes-blank, handle_tells, proved_at, leaves, box_out}
use Rattle.olr_c.proofs.Common.{box_in, box_owns, met, fsep, lands_as, calls_at, pair, and_tt, bare}
use denote.Struct.Tuple.{Tuple}
use Rattle.olr_c.proofs.loose.apart.Statement.{statement}
use Rattle.std.proofs.BoxSteps.Form as box
use Rattle.std.specs.contracts.boxed.Box.into_raw_with_allocator as g
use Rattle.olr_c.specs.contracts.loose.Loose as loose
use Rattle.olr_c.specs.contracts.loose.apart as f
use Rattle.olr_c.proofs.loose.apart.Code as code

pub apart_spec : {M : Type 1} → statement M
apart_spec 𝓤 𝓛 𝓜 𝓡 wired X Z LX LZ gh d dx dd allocator glue glued =
    let H = 𝓛.H in let 𝓣 = tables 𝓤 H 𝓜 𝓡 𝓡.env in
    let E : box.Bx = record { row = X; laws = LX; al = record { row = Z; laws = LZ; g = gh; d = d; drops = dd } } in
    let R : RattleType = box.R E in let P : RattleType = box.P E in let B : RattleType = box.B E in
    let En = f.ended X Z gh d dx dd in let c = f.clauses X Z gh d dx dd 𝓛 𝓜.mem 𝓡.returns in
    let inst = bounded (a_type ∷ a_type ∷ []) (X, (Z, tt)) (dcons d (dcons dx (dcons dd dnil))) in let fn = inst_fn inst code.function in
    let G = triple_of 𝓛 (g.signature X Z gh d dd dx) (g.spec X Z gh d dd dx 𝓛 𝓜.mem 𝓡.returns) in
    let hs : Stays En.signature.params En.kept = (stay_dropped (plain (λ _. B)) no, tt) in
    proved_at 𝓛 En hs c 𝓜 𝓡 (Goes-blank 𝓛 2 (plain (λ _. B)) no (λ κs x w. tt), tt) (f.Key.name inst) fn (code.unfolded 𝓤 H 𝓜 𝓡 wired (X, (Z, tt)) d dx dd) (λ z are.
    let κs = z.0.0 in let qs = z.0.1 in let v = z.0.3.0 in
    let Post : Val → SProp 𝓤 = (walk_of 𝓛 En hs c).post z in
    let alive = ‵ (flft κs.0 qs.0) ⊛ ‵ (flft κs.1.0 qs.1.0) ⊛ ‵ ftrue in
    qed 𝓛 ((alive ⊛ ‵ (owns (types_at En.signature.params κs) z.0.3 z.0.4)) ∷ raw ((c κs z.0.3).requires z.1) ∷ []) ∵ split ! $ move ! (1 ∷ []) $ fsplit ! $
    box_out E ! v z.0.4.0 (λ b o h e ws fits. box_in E ! v b o v.value e refl $
    let w : Val = box.word E h b o in let good = box.box_typed E h b o fits in
    let y : G.Ghost = ((κs, qs, tt, (v, tt), (w ∷ [], tt)), tt) in
    -- [the box; nothing; the tokens; the `requires`]
    fjoin ! $ move ! (1 ∷ 0 ∷ []) $ join ! $ join ! $ use1 𝓛 (raw (G.pre y)) (id⊢ 𝓤 _) $
    regoal ! (λ (us : List Val). prop (WpFn 𝓤 H 𝓣.C 𝓣.Λ fn us Post)) (λ i. ws i ++ []) refl $
    enter ! 𝓣.C 𝓣.Λ fn (w ∷ []) Post $ alloc_all ! (λ l. pass_all ! refl (good, tt) $
    sets ! (of_opd ! (get ! refl)) refl good $
    calls_at ! (framed 𝓤 H 𝓜 𝓣) G (met 𝓤 𝓛 𝓜 𝓡 (code.calls-std_alloc::boxed::Box::into_raw_with_allocator 𝓡.env wired) X Z LX LZ gh d dd dx allocator glued glue) y (and_then ! (get ! refl) (no_more !)) (λ u.
    use1 𝓛 (later (some (λ (r : Ptr × Z.Denot). (alive ⊛ ‵ ((Tuple (RawPtr ∷ P ∷ [])).own_val r (u ∷ []))) ⊛ some (λ (_ : (Unit {0} × (Unit {0} × Unit {0})) × Unit {0}).
    ‵ (fsep (fsep ftrue (fsep ftrue ftrue)) ftrue) ⊛ (raw (fact 𝓤 (r.1 ≡ v.alloc)) ⊛ ‵ (box_owns (gh.dealloc_token v.alloc) R r.0 v.value)))))) (id⊢ 𝓤 _) $
    await ! tt $ pick ! (λ r. split ! $ move ! (1 ∷ []) $ pick ! (λ _. split3 ! $ drop ! $ heard ! (r.1 ≡ v.alloc) (λ same.
    in_a_block ! r.0 (λ p. box_owns (gh.dealloc_token v.alloc) R p v.value) (fst∗ 𝓤 (never 𝓤) (sem 𝓛 (gh.dealloc_token v.alloc (bare (layout X)) null_ptr))) (λ b' o' e'.
    -- [what the box owned; the tokens and the pair]
    move ! (1 ∷ []) $ split ! $ move ! (1 ∷ []) $ fpick ! (λ vss. fsplit ! $ feq_l ! (λ eu. fsplit ! $ feq_l ! (λ ep. fsplit ! $
    rewrite ! 0 (λ (s : Z.Denot). ‵ (Z.own_val s vss.1.0)) same refl $ handle_tells E.al ! v.alloc vss.1.0 (λ h' eh fits'.
    let w' : Val = pair (vptr b' o') h' in
    let good' : T (has_ty (layout Z) h' && true) × WT w' = (and_tt (has_ty (layout Z) h') fits'.0, (tt, (fits'.1, tt))) in
    let made : (loose.the_row R P gh).Denot = record { at = block_ptr b' o'; alloc = v.alloc; value = v.value } in
    let Says : Type 0 = made.value ≡ v.value in
    lands_as ! (ap only (eu ∙ (λ j. vstruct (of_list ((ep ∙ ap (λ (p : Ptr). ptr_val p ∷ []) e') j ++ (eh j ++ []))) ∷ []))) refl good' $
    sets ! (of_opd ! (get_in ! (fld ! refl (stop !)) (sub ! 0 refl (whole !)))) refl (tt, tt) $
    sets ! (of_opd ! (get_in ! (fld ! refl (stop !)) (sub ! 1 refl (whole !)))) refl fits' $
    sets ! (of_opd ! (get ! refl)) refl fits' $
    sets ! (agg ! (and_then ! (get ! refl) (and_then ! (get ! refl) (no_more !)))) refl good' $
    returns ! (look_at ! 0 refl) $ free_all ! refl $ keep ! (3 ∷ 0 ∷ 2 ∷ []) $
    -- [what the box owned; the allocator's handle; the tokens]
    nothing ! $ move ! (2 ∷ 0 ∷ []) $ fjoin ! $
    feq_i ! (List Val) (vptr b' o' ∷ []) (vptr b' o' ∷ []) refl $ fjoin ! $ feq_i ! (List Val) (w' ∷ []) (w' ∷ []) refl $ fjoin ! $
    fpack ! (Valss (RawPtr ∷ P ∷ [])) (within (shape (loose.the_type R P gh)) (block_ptr b' o', (v.alloc, tt)) (w' ∷ [])) (vptr b' o' ∷ [], (h' ∷ [], tt)) $ fjoin ! $
    use0 𝓛 (raw (fact 𝓤 Says)) (fact_i 𝓤 Says (emp 𝓤) refl) $ nothing ! $ nothing ! $ fjoin ! $ move ! (3 ∷ 0 ∷ 2 ∷ 1 ∷ []) $
    by ! (leaves 𝓛 En hs c z w' made ((tt, (tt, tt)), tt) (tt, tt))))))))))))))
