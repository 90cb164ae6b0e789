use Rattle.olr_renewal.proofs.Common.{overlay_changes, after_renewal, AreEncoded, RemovesNone, items, Reported, Renewal}
use Rattle.olr_renewal.proofs.Common.{all_put, puts_of, Begins, Entry, subst, refl, List, ◌++◌, Item, ◌∷◌, inr, sym, ◌≡◌, ◌∙◌}
use Rattle.olr_renewal.proofs.Common.{inl, [], to_renew, false, results_at, Bool, true, put_on_overlaid, put_on_without}
use Rattle.olr_renewal.proofs.Common.{grown_differ, begins_all_put, under_overlay, entries_of, Put}
use Rattle.olr_paths.specs.declared.overlay.Overlay.{Overlay}
use Rattle.olr_renewal.proofs.reencode.put_results.Goals as goal

-- if each path is reported, each was encoded
are_encoded : (before js : List Item) (es : List Entry) → Reported before js es → AreEncoded js
are_encoded before [] es h = tt
are_encoded before (j ∷ js) es h = ((λ none. let lost = rw none at h.2 in cc lost), are_encoded before js h.1 h.3)

-- the results are those for each path, or for the paths that were affected
put_on_to_renew : (all : Bool) (before is : List Item) (ps : List Put) (es : List Entry) →
    Reported before (all_put (to_renew all is) ps) es → all_put is ps ≡ all_put (to_renew all is) ps
put_on_to_renew false before is ps es returned = refl
put_on_to_renew true before is ps es returned = put_on_without before is ps es returned

-- the results, put in the list with the new paths at its end
module _ (all : Bool) (is : List Item) (o : Overlay) (r : Renewal) (new : List Item)
    (none_removed : RemovesNone (overlay_changes o))
    (reported : (before : List Item) × Reported before (after_renewal r (to_renew all (under_overlay is o))) (entries_of r.renewed))
    (put : new ≡ all_put (is ++ items o.added) (puts_of r.fresh.items)) where
  alike : after_renewal r (under_overlay is o) ≡ after_renewal r (to_renew all (under_overlay is o))
  alike = put_on_to_renew all reported.0 (under_overlay is o) (results_at r) (entries_of r.renewed) reported.1

  renewed : new ≡ after_renewal r (to_renew all (under_overlay is o))
  renewed = put ∙ put_on_overlaid (overlay_changes o) reported.0 is (items o.added) (puts_of r.fresh.items)
      (entries_of r.renewed) none_removed
      (subst (λ (js : List Item). Reported reported.0 js (entries_of r.renewed)) (sym alike) reported.1) ∙ alike

  encoded : AreEncoded new
  encoded = subst AreEncoded (sym renewed) (are_encoded reported.0 _ (entries_of r.renewed) reported.1)

pub put_in-requires : goal.put_in-requires
put_in-requires g c =
    grown_differ (overlay_changes c.args.overlay.now) (items c.args.list.now) (items c.args.overlay.now.added)
    c.requires.none_removed c.requires.names

pub note_encoded-requires : goal.note_encoded-requires
note_encoded-requires g c =
    encoded c.args.update.now.sets_margin (items c.args.list.now) c.args.overlay.now c.args.renewal
    (items c.put_in.new.list) c.requires.none_removed c.requires.reported c.in_ok-put_in.ensures.ok

pub returns-clause-put : goal.returns-clause-put
returns-clause-put g c =
    let same = c.note_encoded.ensures
    ∙ renewed c.args.update.now.sets_margin (items c.args.list.now) c.args.overlay.now c.args.renewal
    (items c.put_in.new.list) c.requires.none_removed c.requires.reported c.in_ok-put_in.ensures.ok in
    record {
      items = same;
      entries = refl;
      work = refl;
      queries = λ l h. elim (begins_all_put
          (to_renew c.args.update.now.sets_margin (under_overlay (items c.args.list.now) c.args.overlay.now))
          _ l (subst (λ (is : List Item). Begins is l) same h)) [
            | inl a ↦ inl a
            | inr b ↦ inr ((rw c.deref.ensures.value at c.in_ok-queries.ensures) l b)
          ];
    }
