-- A handle that owns nothing.
use Rattle.olr_c.proofs.Common.{◌≡◌, List, [], ◌∷◌, ◌++◌, refl, Val, has_ty, WT, T, layout, SProp, emp, ftrue, fact}
use Rattle.olr_c.proofs.Common.{fact_i, tables, WpFn, ‵, raw, ◌⊛◌, ◌$◌, ◌∵◌, !, qed, by, move, keep, split, use0}
use Rattle.olr_c.proofs.Common.{fsplit, fjoin, fpack, feq_i, prop, regoal, no_more, and_then, returns, enter, alloc_all}
use Rattle.olr_c.proofs.Common.{pass_all, free_all, look_at, get, sets, agg, Valss, owns, types_at, plain, null_ptr}
use Rattle.olr_c.proofs.Common.{ptr_val, nothing, within, shape, to, Stays, stay_dropped, walk_of, Goes-blank}
use Rattle.olr_c.proofs.Common.{handle_tells, proved_at, leaves, lit<, vint, w64, lit, None, al, pair, and_tt}
use Rattle.olr_c.proofs.owned.Owned.none.Statement.{statement}
use Rattle.std.specs.contracts.alloc.Global as heap
use Rattle.olr_c.specs.contracts.owned.Owned as owned
use Rattle.olr_c.specs.contracts.owned.Owned.none as f
use Rattle.olr_c.proofs.owned.Owned.none.Code as code

pub none_spec : {M : Type 1} → statement M
none_spec 𝓤 𝓛 𝓜 𝓡 wired =
    let H = 𝓛.H in let 𝓣 = tables 𝓤 H 𝓜 𝓡 𝓡.env in let c = f.clauses 𝓛 𝓜.mem 𝓡.returns in let fn = code.function in
    let L = heap.the_row in
    let hs : Stays f.ended.signature.params f.ended.kept = (stay_dropped (plain (λ _. L)) f.ended.kept.0, tt) in
    proved_at 𝓛 f.ended hs c 𝓜 𝓡 (Goes-blank 𝓛 0 (plain (λ _. L)) f.ended.kept.0 (λ κs x g. tt), tt) f.Key.name fn (code.unfolded 𝓤 H 𝓜 𝓡 wired) (λ z are.
    let Post : Val → SProp 𝓤 = (walk_of 𝓛 f.ended hs c).post z in
    let v = z.0.3.0 in
    qed 𝓛 ((‵ ftrue ⊛ ‵ (owns (types_at f.ended.signature.params z.0.0) z.0.3 z.0.4)) ∷ ‵ ftrue ∷ []) ∵ split ! $ move ! (1 ∷ []) $ fsplit ! $
    handle_tells al ! v z.0.4.0 (λ h ea fits.
    keep ! (0 ∷ []) $
    let w : Val = pair (vint w64 0) h in
    let good : T (has_ty (layout owned.the_row) w) × WT w = (and_tt _ fits.0, (record { fits = lit< tt }, (fits.1, tt))) in
    let r : owned.the_row.Denot = record { at = null_ptr; alloc = v; keep = None } in
    let Says : Type 0 = r.keep ≡ None in
    regoal ! (λ (us : List Val). prop (WpFn 𝓤 H 𝓣.C 𝓣.Λ fn us Post)) (λ i. ea i ++ []) refl $
    enter ! 𝓣.C 𝓣.Λ fn (h ∷ []) Post $ alloc_all ! (λ l. pass_all ! refl (fits, tt) $
    sets ! (agg ! (and_then ! (lit ! tt) (and_then ! (get ! refl) (no_more !)))) refl good $
    returns ! (look_at ! 0 refl) $ free_all ! refl $
    nothing ! $ nothing ! $ move ! (2 ∷ 0 ∷ []) $ fjoin ! $
    feq_i ! (List Val) (ptr_val null_ptr ∷ []) (ptr_val null_ptr ∷ []) refl $ fjoin ! $ feq_i ! (List Val) (w ∷ []) (w ∷ []) refl $ fjoin ! $
    fpack ! (Valss (shape owned.the_type).fields) (within (shape owned.the_type) (to owned.the_type r) (w ∷ [])) (ptr_val null_ptr ∷ [], (h ∷ [], tt)) $ fjoin ! $
    use0 𝓛 (raw (fact 𝓤 Says)) (fact_i 𝓤 Says (emp 𝓤) refl) $ nothing ! $ nothing ! $ fjoin ! $ nothing ! $ move ! (0 ∷ 1 ∷ 3 ∷ 2 ∷ []) $
    by ! (leaves 𝓛 f.ended hs c z w r (tt, tt) (tt, tt)))))
