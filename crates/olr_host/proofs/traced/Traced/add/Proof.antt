-- Nothing is done in memory: the borrow is taken up, and given back with one more call in its list.
use Rattle.olr_host.proofs.Common.{List, Val, tables, ◌$◌, ◌∵◌, !, qed, keep, join, suffices, done, returns, enter, alloc_all}
use Rattle.olr_host.proofs.Common.{pass_all, free_all, look_at, sets, nothing, on_entry, says, ends_at, proved, Traced}
use Rattle.std.proofs.Common.{ℕ, [], ◌∷◌, refl, MutBor}
use denote.Steps.{opens, closes}
use mir.Val.{vunit, vptr}
use types.Run.{unit_lit, of_opd}
use seplogic.Ra.Ura.{Ura}
use mir.Syntax.{named}
use base.Logic.{SProp, ent, sep, emp, via, fst∗, id⊢}
use base.Fml.{GName, Lft, Share, ftrue, flft, fobs, fbor}
use prog.Memory.{Memory}
use prog.Routine.{Routine}
use prog.Wp.{Calls, Loops, WpFn}
use types.Logic.{Logic}
use contract.Monad.{Fun}
use contract.Lifetimes.{AllOutlive}
use types.Kit.{‵, ◌⊛◌, by, move, drop, use1, split, fsplit, fsplit3, fjoin, fjoin3, feq_i}
use types.SemTy.{Body}
use denote.RattleType.{owns}
use denote.Memory.{mem}
use denote.Ref.{Bor, MutRef, ShrRef, mut_vals, mut_Tells, shr_vals, shr_Tells}
use denote.Signature.{plain, named_lft}
use denote.Triple.Walked.{Stays, stay_ref, stay_dropped, walk_of, AllGo, Goes-ref, Goes-dropped}
use Rattle.olr_host.specs.Tracing.{event_of}
use denote.Builtin.{RefOf}
use denote.Exit.{yes}
use Rattle.olr_host.specs.declared.traced.Call.{Call}
use Rattle.olr_host.specs.contracts.traced.Traced.add.Key.{name as #it}
use Rattle.olr_host.specs.contracts.traced.Traced as T
use Rattle.olr_host.specs.contracts.traced.Traced.add as it
use Rattle.olr_host.proofs.traced.Traced.add.Statement as stated
use Rattle.olr_host.proofs.traced.Traced.add.Code as code
use Rattle.olr_host.specs.contracts.traced.Call as Calling

abbrev Arg : Type 0
Arg = MutBor Traced × (Bor Call × Unit {0})

abbrev stayed : Stays (it.ended).signature.params (it.ended).kept
stayed = (stay_ref (0 ∷ []) tt (plain (λ _. T.the_row)), (stay_dropped _ yes, tt))

module _ {M : Type 1} {𝓤 : Ura M} (𝓛 : Logic 𝓤) (at_mem : Memory → SProp 𝓤) (run : Routine → Fun 𝓤) (κ κ' κ'' : Lft) (q q' q'' : Share) (b o : ℕ) (γ : GName) (h : Traced) (k : Bor Call) (bounds : AllOutlive (it.ended).signature.lifetimes (it.ended).signature.outlives (κ, (κ', (κ'', tt)))) where
  open 𝓛 use {H, A}

  abbrev x : Arg
  x = (record { ref_ptr = (b, o); ghost_name = γ; now = h }, (k, tt))

  abbrev h' : Traced
  h' = record { marker = h.marker; events = event_of k.now ∷ h.events }

  abbrev at : List Val × (List Val × Unit {0})
  at = (vptr b o ∷ [], (vptr k.ref_ptr.0 k.ref_ptr.1 ∷ [], tt))

  abbrev Post : Val → SProp 𝓤
  Post = (walk_of 𝓛 it.ended stayed (it.clauses 𝓛 at_mem run)).post (((κ, (κ', (κ'', tt))), (q, (q', (q'', tt))), bounds, x, at), tt)

  exits : ent 𝓤 (sep 𝓤 (A.obs γ ((T.the_row).coded.code h')) (sep 𝓤 (A.bor κ (Body (mem T.the_row) b o γ)) (sep 𝓤 (A.lft κ q) (sep 𝓤 (A.lft κ' q') (sep 𝓤 (A.lft κ'' q'') (emp 𝓤)))))) (Post vunit)
  exits =
      qed 𝓛 (‵ (fobs γ ((T.the_row).coded.code h')) ∷ ‵ (fbor κ (Body (mem T.the_row) b o γ)) ∷ ‵ (flft κ q) ∷ (‵ (flft κ' q') ⊛ (‵ (flft κ'' q'') ⊛ ‵ ftrue)) ∷ []) ∵
      suffices ! _ (ends_at 𝓛 it.ended stayed (it.clauses 𝓛 at_mem run) (((κ, (κ', (κ'', tt))), (q, (q', (q'', tt))), bounds, x, at), tt) vunit tt (h', (tt, tt)) (tt, (tt, tt))) $ says ! refl $ move ! (2 ∷ 3 ∷ []) $ join ! $ move ! (1 ∷ 2 ∷ []) $
      feq_i ! (List Val) (vptr b o ∷ []) (vptr b o ∷ []) refl $ fjoin3 ! $ nothing ! $ nothing ! $ fjoin ! $ move ! (1 ∷ 0 ∷ []) $ fjoin ! $
      feq_i ! (List Val) (vunit ∷ []) (vunit ∷ []) refl $ move ! (2 ∷ 1 ∷ 0 ∷ []) $ done !

  module _ (C : Calls 𝓤 H) (Λ : Loops 𝓤 H) where
    walk : ent 𝓤 (on_entry 𝓛 it.signature (κ, (κ', (κ'', tt))) (q, (q', (q'', tt))) x at) (WpFn 𝓤 H C Λ code.function (vptr b o ∷ vptr k.ref_ptr.0 k.ref_ptr.1 ∷ []) Post)
    walk =
        qed 𝓛 ((‵ (flft κ q) ⊛ (‵ (flft κ' q') ⊛ (‵ (flft κ'' q'') ⊛ ‵ ftrue))) ∷ ‵ (owns (MutRef (named 0) κ T.the_row ∷ ShrRef (named 1) κ' (Calling.the_row (named_lft 3 2 tt (κ, (κ', (κ'', tt))))) ∷ []) x at) ∷ []) ∵ split ! $ move ! (2 ∷ []) $ fsplit ! $ fsplit3 ! $ drop ! $ move ! (0 ∷ 1 ∷ 3 ∷ []) $
        enter ! C Λ code.function (vptr b o ∷ vptr k.ref_ptr.0 k.ref_ptr.1 ∷ []) _ $
        alloc_all ! (λ l. pass_all ! refl ((tt, tt), ((tt, tt), tt)) $
        move ! (0 ∷ 1 ∷ 2 ∷ []) $ opens ! tt T.the_row {h = h} b o (λ vs.
        sets ! (of_opd ! (unit_lit !)) refl (tt, tt) $
        move ! (1 ∷ []) $ use1 𝓛 (‵ ((T.the_row).own_val h' vs)) (id⊢ 𝓤 _) $ move ! (1 ∷ 0 ∷ []) $ closes ! tt T.the_row h' vs b o $
        returns ! (look_at ! 0 refl) $ free_all ! refl $
        keep ! (0 ∷ 1 ∷ 2 ∷ 4 ∷ []) $ by ! exits))

goes : {M : Type 1} {𝓤 : Ura M} (𝓛 : Logic 𝓤) → AllGo 𝓛 3 (it.signature).params (it.ended).kept stayed
goes 𝓛 = (Goes-ref 𝓛 3 0 tt (plain (λ _. T.the_row)), (Goes-dropped 𝓛 3 (RefOf (1 ∷ []) tt (plain (λ κs. Calling.the_row (named_lft 3 2 tt κs))) (λ _. tt)) yes (λ κs x f. refl), tt))

pub add_spec : {M : Type 1} → stated.statement M
add_spec 𝓤 𝓛 𝓜 𝓡 wired =
    let 𝓣 = tables 𝓤 𝓛.H 𝓜 𝓡 𝓡.env in
    proved 𝓛 it.ended stayed (it.clauses 𝓛 𝓜.mem 𝓡.returns) 𝓜 𝓡 (goes 𝓛) #it code.function (code.unfolded 𝓤 𝓛.H 𝓜 𝓡 wired)
    (λ κs. (mut_vals, (shr_vals, tt))) (λ κs. (mut_Tells (named 0) κs.0 T.the_row, (shr_Tells (named 1) κs.1.0 (Calling.the_row (named_lft 3 2 tt κs)), tt)))
    (λ κs qs bounds a _ are. via 𝓤 _ (fst∗ 𝓤 _ (emp 𝓤)) (walk 𝓛 𝓜.mem 𝓡.returns κs.0 κs.1.0 κs.1.1.0 qs.0 qs.1.0 qs.1.1.0 a.0.ref_ptr.0 a.0.ref_ptr.1 a.0.ghost_name a.0.now a.1.0 bounds 𝓣.C 𝓣.Λ))
