-- A box that was taken apart is a box again.
use Rattle.olr_c.proofs.Common.{◌≡◌, List, [], ◌∷◌, ◌++◌, refl, sym, ap, subst, ◌∙◌, true, ◌&&◌, T, a_type, dcons, dnil}
use Rattle.olr_c.proofs.Common.{inst_fn, Val, vptr, vstruct, of_list, has_ty, WT, SProp, never, id⊢, fst∗, ftrue, flft}
use Rattle.olr_c.proofs.Common.{fact, tables, WpFn, sem, ‵, raw, ◌⊛◌, some, later, ◌$◌, ◌∵◌, !, qed, by, move, keep}
use Rattle.olr_c.proofs.Common.{drop, split, split3, join, use1, fsplit, fjoin, fpick, pick, await, feq_i, feq_l, prop}
use Rattle.olr_c.proofs.Common.{regoal, rewrite, stop, fld, of_opd, no_more, and_then, returns, enter, alloc_all}
use Rattle.olr_c.proofs.Common.{pass_all, free_all, look_at, get, get_in, sets, sub, whole, RattleType, owns, layout}
use Rattle.olr_c.proofs.Common.{bounded, types_at, plain, Ptr, block_ptr, null_ptr, ptr_val, in_a_block, nothing, only}
use Rattle.olr_c.proofs.Common.{triple_of, framed, Stays, stay_dropped, walk_of, no, Goes-blank, handle_tells}
use Rattle.olr_c.proofs.Common.{proved_at, leaves, box_out, box_in, box_owns, at_ret, first, blocks, exec, lands_last}
use Rattle.olr_c.proofs.Common.{env, calls_at_last, pair, and_tt, bare}
use denote.Triple.Clauses.{Lasts, lasts}
use contract.BorrowLft.{◌⊑◌}
use Rattle.std.proofs.VecSteps.Shapes.{after}
use Rattle.std.proofs.boxed.Box.from_raw.Met.{met}
use Rattle.olr_c.proofs.loose.boxed.Statement.{statement}
use Rattle.std.proofs.BoxSteps.Form as box
use Rattle.std.specs.contracts.boxed.Box.from_raw as g
use Rattle.olr_c.specs.contracts.loose.Loose as loose
use Rattle.olr_c.specs.contracts.loose.boxed as f
use Rattle.olr_c.proofs.loose.boxed.Code as code

pub boxed_spec : {M : Type 1} → statement M
boxed_spec 𝓤 𝓛 𝓜 𝓡 wired X Z LX LZ gh d dd allocator glued =
    let H = 𝓛.H in let 𝓣 = tables 𝓤 H 𝓜 𝓡 𝓡.env in
    let E : box.Bx = record { row = X; laws = LX; al = record { row = Z; laws = LZ; g = gh; d = d; drops = dd } } in
    let R : RattleType = box.R E in let P : RattleType = box.P E in let B : RattleType = box.B E in let L : RattleType = loose.the_row R P gh in
    let En = f.ended X Z gh d dd in let c = f.clauses X Z gh d dd 𝓛 𝓜.mem 𝓡.returns in
    let inst = bounded (a_type ∷ a_type ∷ []) (X, (Z, tt)) (dcons d (dcons dd dnil)) in let fn = inst_fn inst code.function in
    let G = triple_of 𝓛 (g.signature X Z gh d dd) (g.spec X Z gh d dd 𝓛 𝓜.mem 𝓡.returns) in
    let hs : Stays En.signature.params En.kept = (stay_dropped (plain (λ _. L)) no, tt) in
    proved_at 𝓛 En hs c 𝓜 𝓡 (Goes-blank 𝓛 2 (plain (λ _. L)) no (λ κs x w. tt), tt) (f.Key.name inst) fn (code.unfolded 𝓤 H 𝓜 𝓡 wired (X, (Z, tt)) d dd) (λ z are.
    let κs = z.0.0 in let qs = z.0.1 in let v = z.0.3.0 in
    let Post : Val → SProp 𝓤 = (walk_of 𝓛 En hs c).post z in
    let alive = ‵ (flft κs.0 qs.0) ⊛ ‵ (flft κs.1.0 qs.1.0) ⊛ ‵ ftrue in
    qed 𝓛 ((alive ⊛ ‵ (owns (types_at En.signature.params κs) z.0.3 z.0.4)) ∷ raw ((c κs z.0.3).requires z.1) ∷ []) ∵ split ! $ move ! (1 ∷ []) $ fsplit ! $
    fsplit ! $ fpick ! (λ vss. fsplit ! $ feq_l ! (λ ev. fsplit ! $ feq_l ! (λ ep. fsplit ! $ handle_tells E.al ! v.alloc vss.1.0 (λ h ea fits.
    move ! (2 ∷ 0 ∷ []) $
    in_a_block ! v.at (λ p. box_owns (gh.dealloc_token v.alloc) R p v.value) (fst∗ 𝓤 (never 𝓤) (sem 𝓛 (gh.dealloc_token v.alloc (bare (layout X)) null_ptr))) (λ b o e.
    -- [what is owned; the allocator's handle; nothing, twice; the tokens; the `requires`]
    move ! (2 ∷ 3 ∷ []) $ drop ! $ drop ! $
    let w : Val = pair (vptr b o) h in
    let good : T (has_ty (layout Z) h && true) × WT w = (and_tt (has_ty (layout Z) h) fits.0, (tt, (fits.1, tt))) in
    let y : G.Ghost = ((κs, qs, tt, (v.alloc, (block_ptr b o, tt)), (h ∷ [], (vptr b o ∷ [], tt))), v.value) in
    let word = ev ∙ (λ j. vstruct (of_list ((ep ∙ ap (λ (p : Ptr). ptr_val p ∷ []) e) j ++ (ea j ++ []))) ∷ []) in
    move ! (3 ∷ []) $ use1 𝓛 (raw (fact 𝓤 (κs.0 ⊑ X.lives)) ⊛ raw (fact 𝓤 (κs.1.0 ⊑ Z.lives)) ⊛ ‵ ftrue) (id⊢ 𝓤 _) $ split3 ! $ move ! (2 ∷ []) $ drop ! $
    -- [that X lives; that Z lives; what is owned; the allocator's handle; the tokens]
    move ! (1 ∷ 2 ∷ []) $ join ! $ move ! (1 ∷ 0 ∷ []) $ join ! $
    nothing ! $ feq_i ! (List Val) (vptr b o ∷ []) (vptr b o ∷ []) refl $ fjoin ! $ move ! (2 ∷ 0 ∷ []) $ fjoin ! $ move ! (2 ∷ 0 ∷ []) $ join ! $ join ! $
    use1 𝓛 (raw (G.pre y)) (id⊢ 𝓤 _) $
    regoal ! (λ (us : List Val). prop (WpFn 𝓤 H 𝓣.C 𝓣.Λ fn us Post)) (λ i. word i ++ []) refl $
    enter ! 𝓣.C 𝓣.Λ fn (w ∷ []) Post $ alloc_all ! (λ l. pass_all ! refl (good, tt) $ let Ev = env fn.locals l in
    sets ! (of_opd ! (get_in ! (fld ! refl (stop !)) (sub ! 0 refl (whole !)))) refl (tt, tt) $
    sets ! (of_opd ! (get_in ! (fld ! refl (stop !)) (sub ! 1 refl (whole !)))) refl fits $
    first ! $ blocks ! $ sets ! (of_opd ! (get ! refl)) refl fits $
    calls_at_last ! (framed 𝓤 H 𝓜 𝓣) G (met 𝓤 𝓛 𝓜 𝓡 (code.calls-std_alloc::boxed::Box::from_raw 𝓡.env wired) X Z LX LZ gh d dd allocator glued) y (and_then ! (get ! refl) (and_then ! (get ! refl) (no_more !))) (λ u.
    use1 𝓛 (later (some (λ (r : B.Denot). (alive ⊛ ‵ (B.own_val r (u ∷ []))) ⊛ some (λ (ls : Lasts (g.ended X Z gh d dd) κs y.0.3).
    ‵ (lasts (g.ended X Z gh d dd) κs y.0.3 ls) ⊛ (raw (fact 𝓤 (r.value ≡ v.value)) ⊛ raw (fact 𝓤 (r.alloc ≡ v.alloc))))))) (id⊢ 𝓤 (G.post y u)) $
    await ! tt $ pick ! (λ r. split ! $ move ! (1 ∷ []) $ pick ! (λ _. split3 ! $ drop ! $ move ! (2 ∷ []) $ split ! $ move ! (1 ∷ []) $
    -- [the box; the tokens; that its value is the same; ..]
    box_out E ! r (u ∷ []) (λ b' o' h' e' us fits'. box_in E ! r b' o' r.value e' refl $ rewrite ! 0 (λ (xs : List Val). ‵ (B.own_val r xs)) (sym us) refl $
    let good' = subst (λ (x : Val). T (has_ty (layout B) x) × WT x) (sym (ap only us)) (box.box_typed E h' b' o' fits') in
    lands_last ! refl good' $ exec ! 𝓣.C 𝓣.Λ Ev (after 3 fn.body) (at_ret Ev Post) $ sets ! (of_opd ! (get ! refl)) refl good' $ nothing ! $ nothing ! $ fjoin ! $
    returns ! (look_at ! 0 refl) $ free_all ! refl $ keep ! (2 ∷ 0 ∷ 1 ∷ 3 ∷ []) $ by ! (leaves 𝓛 En hs c z u r ((tt, (tt, tt)), tt) (tt, tt)))))))))))))
