use Rattle.olr_register.proofs.Common.{◌≡◌, inl, inr, not, not-false, false, true, refl, sym, ap, ◌∙◌, subst, map_of, string_bytes, Item}
use Rattle.olr_register.proofs.Common.{Add_path, Set_path, Drop_path, items, to_renew, under_batch, under_overlay, has_name}
use Rattle.olr_register.proofs.Common.{path_by, begins_add, begins_set, begins_drop, NamesDiffer, No_memory, ByContent, same_name}
use Rattle.olr_register.proofs.Changing.{add_refused, add_ok, set_refused, set_ok, drop_lacks, drop_ok}
use Rattle.olr_register.proofs.Listed.{to_renew_add, to_renew_set, to_renew_drop, each_add, each_set, each_left, each_given}
use Rattle.olr_register.proofs.Listed.{each_if_any, each_follows, given_add, given_set, given_none, has_to_renew, named_to_renew}
use Rattle.olr_register.proofs.Making.{margin_made, path_unmade, path_made}
use Rattle.olr_register.proofs.batch.Batch.make.Goals as goal

pub returns-in-Edit : goal.returns-in-Edit
returns-in-Edit c = rw c.in-Edit.is (c.edit.ensures (items c.args.list.now))

pub returns-in-SetMargin : goal.returns-in-SetMargin
returns-in-SetMargin c = rw c.in-SetMargin.is
    (margin_made c.in-SetMargin.margin c.routes-routes.ensures.margin c.args.roads.now (items c.args.list.now) c.args.self.now)

-- ---- a path is added

pub hold-requires : goal.hold-requires
hold-requires c = (
  items c.args.list.now,
  ap (has_name (under_overlay (items c.args.list.now) c.args.self.now.overlay)) (sym c.deref.ensures)
      ∙ sym c.has-taken.ensures ∙ c.in_ok-path-in-AddPath.ensures.right,
)

pub returns-in_err-path-in-AddPath : goal.returns-in_err-path-in-AddPath
returns-in_err-path-in-AddPath c =
    let us = under_overlay (items c.args.list.now) c.args.self.now.overlay in
    rw c.in-AddPath.is (path_unmade c.in_err-path-in-AddPath.field-0.0 c.from_residual.ensures.1 refl
    (add_refused _ (string_bytes c.in-AddPath.name) (path_by c.in-AddPath.parts) c.has-taken.result _
    (c.has-taken.ensures ∙ ap (has_name us) c.deref.ensures ∙ sym (has_to_renew _ us _))
    c.in_err-path-in-AddPath.ensures.fault))

pub returns-in_err-hold-in-AddPath : goal.returns-in_err-hold-in-AddPath
returns-in_err-hold-in-AddPath c =
    let is = items c.args.list.now in
    rw c.in-AddPath.is (path_unmade No_memory c.from_residual-in_err-hold-in-AddPath.ensures.1
    (ap (to_renew c.args.self.now.all) (c.in_err-hold-in-AddPath.ensures.err is))
    (add_refused _ (string_bytes c.in-AddPath.name) (path_by c.in-AddPath.parts) c.has-taken.result _
    (c.has-taken.ensures ∙ ap (has_name (under_overlay is c.args.self.now.overlay)) c.deref.ensures
    ∙ sym (has_to_renew _ (under_overlay is c.args.self.now.overlay) _))
    c.in_ok-path-in-AddPath.ensures.lacks))

pub returns-in_ok-hold-in-AddPath : goal.returns-in_ok-hold-in-AddPath
returns-in_ok-hold-in-AddPath c =
    let roads = c.args.roads.now in
    let is = items c.args.list.now in
    let name = string_bytes c.in-AddPath.name in
    let path = path_by c.in-AddPath.parts in
    let b = c.args.self.now in
    let us = under_overlay is b.overlay in
    let ks = under_batch is b in
    let free : has_name ks name ≡ false =
    has_to_renew b.all us name ∙ ap (has_name us) (sym c.deref.ensures) ∙ sym c.has-taken.ensures
    ∙ c.in_ok-path-in-AddPath.ensures.right in
    rw c.in-AddPath.is (path_made roads is b c.hold.new.self (Add_path name path) _
    (rw (← c.in_ok-path-in-AddPath.ensures.ok)
    (ap (to_renew b.all) (c.in_ok-hold-in-AddPath.ensures.ok is) ∙ to_renew_add b.all us name _))
    (add_ok b.margin (map_of roads) ks name path _ free c.in_ok-path-in-AddPath.ensures.good) tt refl refl
    (λ xs g. given_add name path xs ks free g) (λ M. each_add (each_if_any b.margin M) ks _ tt)
    (each_add (each_follows is) ks _ (inl refl))
    (λ v on. elim (begins_add ks _ v on) [ inl old ↦ old | inr never ↦ absurd never ]))

-- ---- a path is replaced

pub returns-in_err-path-in-SetPath : goal.returns-in_err-path-in-SetPath
returns-in_err-path-in-SetPath c =
    let us = under_overlay (items c.args.list.now) c.args.self.now.overlay in
    rw c.in-SetPath.is (path_unmade c.in_err-path-in-SetPath.field-0.0 c.from_residual-in_err-path-in-SetPath.ensures.1 refl
    (set_refused _ (string_bytes c.in-SetPath.name) (path_by c.in-SetPath.parts) (not c.has-missing.result) _
    (ap not (c.has-missing.ensures ∙ ap (has_name us) c.deref-in-SetPath.ensures ∙ sym (has_to_renew _ us _)))
    c.in_err-path-in-SetPath.ensures.fault))

pub returns-in_err-hold_other-in-SetPath : goal.returns-in_err-hold_other-in-SetPath
returns-in_err-hold_other-in-SetPath c =
    let us = under_overlay (items c.args.list.now) c.args.self.now.overlay in
    rw c.in-SetPath.is (path_unmade No_memory c.from_residual-in_err-hold_other-in-SetPath.ensures.1
    (ap (to_renew c.args.self.now.all) (c.in_err-hold_other-in-SetPath.ensures.err (items c.args.list.now)))
    (set_refused _ (string_bytes c.in-SetPath.name) (path_by c.in-SetPath.parts) (not c.has-missing.result) _
    (ap not (c.has-missing.ensures ∙ ap (has_name us) c.deref-in-SetPath.ensures ∙ sym (has_to_renew _ us _)))
    c.in_ok-path-in-SetPath.ensures.lacks))

pub returns-in_ok-hold_other-in-SetPath : goal.returns-in_ok-hold_other-in-SetPath
returns-in_ok-hold_other-in-SetPath c =
    let roads = c.args.roads.now in
    let b = c.args.self.now in
    let is = items c.args.list.now in
    let name = string_bytes c.in-SetPath.name in
    let path = path_by c.in-SetPath.parts in
    let us = under_overlay is b.overlay in
    let ks = under_batch is b in
    let here : has_name us name ≡ true = ap (has_name us) (sym c.deref-in-SetPath.ensures) ∙ sym c.has-missing.ensures
    ∙ not-false c.has-missing.result c.in_ok-path-in-SetPath.ensures.right in
    let there = has_to_renew b.all us name ∙ here in
    let names = subst NamesDiffer (named_to_renew b.all us) c.requires.sound.names in
    rw c.in-SetPath.is (path_made roads is b c.hold_other.new.self (Set_path name path) _
    (rw (← c.in_ok-path-in-SetPath.ensures.ok)
    (ap (to_renew b.all) ((rw c.deref-in-SetPath-2.ensures at c.in_ok-hold_other-in-SetPath.ensures.ok) is names here)
    ∙ to_renew_set b.all name _ us))
    (set_ok b.margin (map_of roads) ks name path _ there c.in_ok-path-in-SetPath.ensures.good) tt refl refl
    (λ xs g. given_set name path xs ks g)
    (λ M. each_set (each_if_any b.margin M) (each_if_any b.margin M) name path _ (λ i e. tt) (λ i e p. p) ks)
    (each_set (each_follows is) (each_follows is) name path _ (λ i e. inl refl) (λ i e p. p) ks)
    (λ v on. elim (begins_set name path _ ks v on) [ inl old ↦ old | inr never ↦ absurd never ]))

-- ---- a path is dropped

pub returns-then-not-has : goal.returns-then-not-has
returns-then-not-has c =
    let us = under_overlay (items c.args.list.now) c.args.self.now.overlay in
    rw c.in-DropPath.is (path_unmade _ refl refl (ByContent (rw (has_to_renew c.args.self.now.all us (string_bytes c.in-DropPath.name)
    ∙ ap (has_name us) (sym c.deref-in-DropPath.ensures) ∙ sym c.if-not-has.ensures))))

pub returns-in_err-drop_path-in-DropPath : goal.returns-in_err-drop_path-in-DropPath
returns-in_err-drop_path-in-DropPath c =
    let us = under_overlay (items c.args.list.now) c.args.self.now.overlay in
    rw c.in-DropPath.is (path_unmade No_memory c.from_residual-in_err-drop_path-in-DropPath.ensures.1
    (ap (to_renew c.args.self.now.all) (c.in_err-drop_path-in-DropPath.ensures.err (items c.args.list.now)))
    (drop_lacks _ (string_bytes c.in-DropPath.name) (has_to_renew _ us (string_bytes c.in-DropPath.name)
    ∙ ap (has_name us) (sym c.deref-in-DropPath.ensures) ∙ sym c.if-not-has.ensures)))

pub returns-in_ok-drop_path-in-DropPath : goal.returns-in_ok-drop_path-in-DropPath
returns-in_ok-drop_path-in-DropPath c =
    let roads = c.args.roads.now in
    let is = items c.args.list.now in
    let name = string_bytes c.in-DropPath.name in
    let b = c.args.self.now in
    let us = under_overlay is b.overlay in
    let ks = under_batch is b in
    let names = subst NamesDiffer (named_to_renew b.all us) c.requires.sound.names in
    let keep = λ (i : Item). not (same_name i.name name) in
    rw c.in-DropPath.is (path_made roads is b c.drop_path.new.self (Drop_path name) _
    (ap (to_renew b.all) ((rw c.deref-in-DropPath-2.ensures at c.in_ok-drop_path-in-DropPath.ensures.ok) is names)
    ∙ to_renew_drop b.all name us)
    (drop_ok b.margin (map_of roads) ks name
    (has_to_renew b.all us name ∙ ap (has_name us) (sym c.deref-in-DropPath.ensures) ∙ sym c.if-not-has.ensures))
    tt refl refl
    (λ xs g. given_none xs (Drop_path name) _ (λ q. refl) (each_left (each_given xs) keep ks g))
    (λ M. each_left (each_if_any b.margin M) keep ks) (each_left (each_follows is) keep ks) (begins_drop keep ks))
