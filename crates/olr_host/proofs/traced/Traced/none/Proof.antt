-- A value of no bytes, with no call in its list.
use Rattle.olr_host.proofs.Common.{Val, tables, ◌$◌, ◌∵◌, !, qed, keep, join, suffices, done, returns, enter, alloc_all, pass_all}
use Rattle.olr_host.proofs.Common.{free_all, look_at, sets, nothing, on_entry, says, ends_at, proved, Traced}
use denote.Shadow.{pure_i}
use mir.Val.{vstruct, vcons, vnil}
use types.ByLocal.{get}
use types.Kit.{raw}
use types.Part.{agg}
use types.Run.{no_more, and_then}
use mathlib.Core.Path.{refl}
use mathlib.Core.List.{[], ◌∷◌}
use Rattle.olr_host.specs.contracts.traced.Traced.none.Key.{name as #it}
use Rattle.olr_host.specs.contracts.traced.Traced as T
use Rattle.olr_host.specs.contracts.traced.Traced.none as it
use Rattle.olr_host.proofs.traced.Traced.none.Statement as stated
use Rattle.olr_host.proofs.traced.Traced.none.Code as code

abbrev v : Val
v = vstruct (vcons (vstruct vnil) vnil)

abbrev r : Traced
r = record { marker = record {}; events = [] }

pub none_spec : {M : Type 1} → stated.statement M
none_spec 𝓤 𝓛 𝓜 𝓡 wired =
    let 𝓣 = tables 𝓤 𝓛.H 𝓜 𝓡 𝓡.env in let c = it.clauses 𝓛 𝓜.mem 𝓡.returns in
    proved 𝓛 it.ended tt c 𝓜 𝓡 tt #it code.function (code.unfolded 𝓤 𝓛.H 𝓜 𝓡 wired) (λ κs. tt) (λ κs. tt) (λ κs qs bounds a g _.
    qed 𝓛 (raw (on_entry 𝓛 it.signature κs qs a tt) ∷ raw ((c κs a).requires g) ∷ []) ∵ keep ! [] $
    enter ! 𝓣.C 𝓣.Λ code.function [] _ $ alloc_all ! (λ l. pass_all ! refl tt $
    sets ! (agg ! (no_more !)) refl (tt, tt) $ sets ! (agg ! (and_then ! (get ! refl) (no_more !))) refl (tt, (tt, tt)) $
    returns ! (look_at ! 0 refl) $ free_all ! refl $
    pure_i ! ((T.the_row).own_val r (v ∷ [])) ((λ vss. (tt, ((λ uss. (tt, tt)), tt))), tt) (((vstruct vnil ∷ [], tt), (refl, ((tt, (refl, tt)), tt))), tt) $
    suffices ! _ (ends_at 𝓛 it.ended tt c ((κs, qs, bounds, a, tt), g) v r tt tt) $ says ! refl $
    nothing ! $ join ! $ nothing ! $ done !))
