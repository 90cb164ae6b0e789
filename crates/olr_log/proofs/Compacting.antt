-- Records in the place of a log.
use Rattle.olr_log.proofs.Common.{◌≡◌, ◌∙◌, ◌⊎◌, ◌∷◌, ℕ, true, false, List, [], inl, inr, refl, sym, ap, subst, is_some, ◌&&◌}
use Rattle.olr_log.proofs.Common.{and_parts, not-true, Untouched, Replacement, is_closed, is_empty, is_whole, Gate, not}
use Rattle.olr_log.specs.Journals.{Only}
use Rattle.olr_log.specs.Gates.{Replaced, Left_as_it_was, Compacts, asks, batch}
use Rattle.olr_log.specs.Unstored.{waiting}
use Rattle.olr_log.specs.declared.journal.Journal as journal

none_of : (text : List ℕ) → is_empty text ≡ true → text ≡ []
none_of [] e = refl
none_of (b ∷ text) e = absurd cc

-- records are asked for while no batch is open, of a log that has not failed
pub asked : {J : Type 0} (g : Gate J) → asks g ≡ true → (is_closed g ≡ false) × (batch g ≡ [])
asked g e =
    let first = and_parts (g.is_wanted && not (is_closed g)) (is_empty (batch g)) e in
    let second = and_parts g.is_wanted (not (is_closed g)) first.0 in
    (not-true (is_closed g) second.1, none_of (batch g) first.1)

module _ {J : Type 0} (j : journal.Ghosts J) where
  -- the records aren't whole
  pub compacts_broken : (g : Gate J) (records : List ℕ) → is_whole records ≡ false → Compacts j g records g
  compacts_broken g records broken =
      record { closes = λ closed. inl closed; cut = λ c h. inl h; going = λ open_now. (open_now, Left_as_it_was (inl broken) refl (λ only. only) refl); length = refl }

  -- the log isn't where it was
  pub compacts_closed : (g h : Gate J) (records : List ℕ) → h ≡ record g { fault = h.fault } → is_closed h ≡ true →
      j.is_lost g.journal → Compacts j g records h
  compacts_closed g h records is closed lost =
      record {
        closes = λ closed. inr (g.journal, g.journal, [], inl lost);
        cut = λ c left. inl (subst (λ (x : J). j.may_leave x c) (ap (λ (x : Gate J). x.journal) is) left);
        going = λ open_now. absurd (let never : true ≡ false = sym closed ∙ open_now in cc);
        length = ap (λ (x : Gate J). x.compacted_from) is;
      }

  replacement_on : (g h k : Gate J) (records : List ℕ) → k.journal ≡ h.journal → k.unstored ≡ h.unstored →
      Replacement j g records h → Replacement j g records k
  replacement_on g h k records same u (Replaced none is only waits) =
      Replaced none (ap j.stored same ∙ is)
      (λ before. subst (λ (x : J). Only (j.stored x) (j.may_leave x)) (sym same) (only before)) (ap waiting u ∙ waits)
  replacement_on g h k records same u (Left_as_it_was why is only waits) =
      Left_as_it_was (subst (λ (x : J). (is_whole records ≡ false) ⊎ j.refuses g.journal records x) (sym same) why)
      (ap j.stored same ∙ is)
      (λ before. subst (λ (x : J). Only (j.stored x) (j.may_leave x)) (sym same) (only before)) (ap waiting u ∙ waits)

  pub compacts_on : (g h k : Gate J) (records : List ℕ) → Compacts j g records h → Untouched h k →
      k.unstored ≡ h.unstored → Compacts j g records k
  compacts_on g h k records a t u =
      record {
        closes = λ closed. a.closes (ap is_some (sym t.fault) ∙ closed);
        cut = λ c left. a.cut c (subst (λ (x : J). j.may_leave x c) t.journal left);
        going = λ open_now.
            let b = a.going (ap is_some (sym t.fault) ∙ open_now) in (b.0, replacement_on g h k records t.journal u b.1);
        length = t.length ∙ a.length;
      }
