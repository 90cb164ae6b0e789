-- The extended path, composed of the path and the parts of the tried runs.
use Rattle.olr_refs.proofs.Common.{◌⊎◌, ◌≡◌, ℕ, ◌+◌, ◌<◌, Bool, not, cond, List, [], ◌∷◌, ◌++◌, length, Contains, None, refl}
use Rattle.olr_refs.proofs.Common.{sym, ap, ◌∙◌, subst, arith, length-append, length-map, map-append, Map, has_line, dm_of}
use Rattle.olr_refs.proofs.Common.{first_unknown, Path, is_path, last, NodeOf, Along, Against, Extends, ResolvedLine}
use Rattle.olr_refs.proofs.Common.{records_of, ids, AreRecords, IsRun, no_unknown, path_nonempty, all_first, all_last, first}
use Rattle.olr_refs.proofs.Common.{LongestStart, LongestEnd, taken_start, taken_end, from_start, ◌↔◌, IsTrue}
use Rattle.olr_refs.proofs.Resolving.{ids_are, are_records, records_append, records_length}

last_behind : (xs ys : List ℕ) → 0 < length ys → last (xs ++ ys) ≡ last ys
last_behind [] ys h = refl
last_behind (x ∷ []) [] h = absurd (omega arith)
last_behind (x ∷ []) (y ∷ ys) h = refl
last_behind (x ∷ y ∷ xs) ys h = last_behind (y ∷ xs) ys h

-- ---- the part of a run, by whether it leads to a valid node

taken_is : (valid through : Bool) (rs : List ResolvedLine) → valid ≡ not through →
    ids (cond valid rs []) ≡ cond through [] (ids rs)
taken_is valid v1 rs e = grind arith

taken_records : (M : Map) (slot : ℕ → ℕ) (valid : Bool) (rs : List ResolvedLine) → AreRecords M slot rs → AreRecords M slot (cond valid rs [])
taken_records M slot v1 rs are = grind arith

len_taken : (M : Map) (valid : Bool) (rs : List ResolvedLine) (len : ℕ) → len ≡ dm_of M (ids rs) →
    cond valid len 0 ≡ dm_of M (ids (cond valid rs []))
len_taken M v1 rs len e = grind arith

module _ (M : Map) (slot : ℕ → ℕ) (P : Path) (good : IsTrue (is_path P.lines)) (unknown : first_unknown M P.lines ≡ None)
    (own : List ResolvedLine) (own_is : own ≡ records_of M slot P.lines) where
  some : 0 < length P.lines
  some = path_nonempty P.lines good

  own_ids : ids own ≡ P.lines
  own_ids = ids_are M slot P.lines own own_is

  pub own_some : 0 < length own
  own_some = let n = some in let l = records_length M slot P.lines own own_is in omega arith

  pub own_first : IsTrue (has_line M (first (ids own)))
  own_first = grind (arith, own_ids, all_first, some, no_unknown)

  module _ (before : List ResolvedLine) (before_len : ℕ) (before_valid : Bool)
      (b : IsRun M slot Against (ids own) before before_len before_valid)
      (front : List ResolvedLine) (front_is : front ≡ cond before_valid before [] ++ own) where
    start_is : ids (cond before_valid before []) ≡ taken_start M (ids before) P.lines
    start_is = taken_is before_valid _ before b.leads ∙ ap (λ (ls : List ℕ). taken_start M (ids before) ls) own_ids

    -- the path, extended at its start
    from_is : ids front ≡ from_start M P (ids before)
    from_is = grind (arith, map-append, start_is, own_ids)

    pub front_records : AreRecords M slot front
    front_records = grind (arith, records_append, taken_records, are_records)

    pub front_some : 0 < length front
    front_some = grind (arith, own_some, length-append)

    pub front_last : IsTrue (has_line M (last (ids front)))
    front_last = rw (from_is, last_behind (taken_start M (ids before) P.lines) P.lines some)
        (all_last _ P.lines some (no_unknown M P.lines unknown))

    module _ (after : List ResolvedLine) (after_len : ℕ) (after_valid : Bool)
        (a : IsRun M slot Along (ids front) after after_len after_valid)
        (whole : List ResolvedLine) (whole_is : whole ≡ front ++ cond after_valid after []) where
      back_is : ids (cond after_valid after []) ≡ taken_end M (from_start M P (ids before)) (ids after)
      back_is = taken_is after_valid _ after a.leads ∙ ap (λ (zs : List ℕ). taken_end M zs (ids after)) from_is

      pub whole_records : AreRecords M slot whole
      whole_records = grind (arith, records_append, front_records, taken_records)

      -- what the code composes is the extended path
      pub extends : (E : Path) (lead : ℕ) (F G : List ℕ) → lead ≡ length (cond before_valid before []) →
          E.lines ≡ ids whole → E.pos ≡ P.pos + cond before_valid before_len 0 →
          E.neg ≡ P.neg + cond after_valid after_len 0 →
          ((v : ℕ) → Contains G v ↔ (Contains F v ⊎ (NodeOf M (ids whole) v
          ⊎ (NodeOf M (ids before) v ⊎ NodeOf M (ids after) v)))) →
          Extends M P E lead F G
      extends E lead F G leads lines pos neg noted =
          let lines_are : E.lines ≡ from_start M P (ids before) ++ taken_end M (from_start M P (ids before)) (ids after) =
          lines ∙ ap ids whole_is ∙ map-append (λ (r : ResolvedLine). r.id) front (cond after_valid after [])
          ∙ (λ i. from_is i ++ back_is i) in
          let pos_is : E.pos ≡ P.pos + dm_of M (taken_start M (ids before) P.lines) =
          pos ∙ ap (λ n. P.pos + n) (len_taken M before_valid before before_len b.long ∙ ap (dm_of M) start_is) in
          let neg_is : E.neg ≡ P.neg + dm_of M (taken_end M (from_start M P (ids before)) (ids after)) =
          neg ∙ ap (λ n. P.neg + n) (len_taken M after_valid after after_len a.long ∙ ap (dm_of M) back_is) in
          record {
            before = ids before;
            after = ids after;
            tried = record {
              before = subst (LongestStart M (ids before)) own_ids b.longest;
              after = subst (λ (zs : List ℕ). LongestEnd M zs (ids after)) from_is a.longest;
            };
            path = λ i. record { lines = lines_are i; pos = pos_is i; neg = neg_is i };
            leads = leads ∙ sym (length-map (cond before_valid before []) (λ (r : ResolvedLine). r.id))
                ∙ ap (λ (ls : List ℕ). length ls) start_is;
            noted = rw lines noted;
          }
