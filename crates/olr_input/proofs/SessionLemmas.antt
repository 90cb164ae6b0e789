-- Histories of sessions, and the reads of a csv reader.
use Rattle.olr_input.proofs.Common.{default_config, next_record, csv_records, cases_Bool, option_map, StaysPlain, strip_bom, Bool}
use Rattle.olr_input.proofs.Common.{TakesLeft, csv_left, History, IsPlain, Option, IfSome, false, subst, arith, State, Known, ◌≡◌}
use Rattle.olr_input.proofs.Common.{Event, true, List, ◌++◌, Some, None, refl, Read, inl, inr, ◌∷◌, ◌∙◌, sym, Ok, [], ℕ}
use Rattle.std.specs.Prelude.{MatchOption}
use Rattle.csv.specs.Reading.{AreRecords, is_flexible, ExplainsRead, stops_reader, source_of, buffered_of, reader_source, reader_state}
use Rattle.csv.specs.Reading.{has_failed, reader_trim, took_first, unread_of, NextIs, ReadRecord, ReadsNext, Ready}
use Rattle.csv.specs.declared.error.ErrorKind.{ErrorKind}
use Rattle.csv.specs.declared.reader.Reader.{Reader}
use Rattle.csv.specs.declared.reader.Trim.TheVariants as trim
use Rattle.csv.specs.declared.error.ErrorKind.TheVariants as kind
use Rattle.csv.specs.declared.parser.State.TheVariants as st
use Rattle.olr_input.proofs.CsvRecords.{all_records, none_taken, one_taken}

abbrev AreKnown : State → Known → List (List (List ℕ)) → Type 0
AreKnown s known rs = MatchOption known ⊥ (λ bytes. AreRecords default_config s bytes rs)

-- a reader that accepts any number of fields is stopped by each fault
pub stopped : {R : Type 0} (remaining : R → Known) (old new : Reader R) (k : ErrorKind) → is_flexible old ≡ true →
    ExplainsRead remaining old new false k → stops_reader k ≡ true
stopped remaining old new (kind.Io e) f h = refl
stopped remaining old new kind.OutOfMemory f h = refl
stopped remaining old new (kind.UnequalLengths pos expected len) f h = grind arith
stopped remaining old new (kind.Utf8 pos err) f h = grind arith
stopped remaining old new (kind.Serialize why) f h = absurd h
stopped remaining old new (kind.Deserialize pos err) f h = absurd h

-- ---- one read of a csv reader

reads_left : (s t : State) (before after : Known) (failed found : Bool) (fields : List (List ℕ)) →
    ReadsNext default_config s before after found fields t →
    TakesLeft (AreKnown s before) (AreKnown t after) failed (Ok found) fields
reads_left s t None after failed true fields h = λ rs never. absurd never
reads_left s t None after failed false fields h = λ rs never. absurd never
reads_left s t (Some xs) None failed found fields h = absurd h
reads_left s t (Some xs) (Some ys) failed found fields h = by_next (next_record default_config s [] [] xs) refl h
  where
    Takes : Bool → Type 0
    Takes found = TakesLeft (AreKnown s (Some xs)) (AreKnown t (Some ys)) failed (Ok found) fields

    by_next : (o : Option Read) → next_record default_config s [] [] xs ≡ o → NextIs o found fields t ys → Takes found
    by_next None e n = subst Takes (sym n) (none_taken s xs e)
    by_next (Some p) e n =
        subst Takes (sym n.0) (one_taken s t xs ys fields (e ∙ (λ i. Some (sym n.1 i, sym n.2 i, sym n.3 i))))

module _ {R : Type 0} (remaining : R → Known) (old new : Reader R) where
  ready : IsPlain old → Ready old
  ready plain = elim (cases_Bool (took_first old)) [ inl e ↦ inl e | inr e ↦ inr (inr (plain.no_header, plain.none e)) ]

  pub read_left : (found : Bool) (fields : List (List ℕ)) → StaysPlain old → has_failed new ≡ has_failed old →
      (has_failed old ≡ true → found ≡ false)
      → (reader_trim old ≡ trim.None → Ready old → ReadRecord remaining old new found fields)
      → TakesLeft (csv_left remaining old) (csv_left remaining new) (has_failed new) (Ok found) fields
  read_left found fields plain same over reads = by_failed (has_failed old) found refl over reads
    where
      by_failed : (failed found : Bool) → has_failed old ≡ failed → (has_failed old ≡ true → found ≡ false) →
          (reader_trim old ≡ trim.None → Ready old → ReadRecord remaining old new found fields)
          → TakesLeft (csv_left remaining old) (csv_left remaining new) (has_failed new) (Ok found) fields
      by_failed true true e over reads = absurd (let never : true ≡ false = over e in cc)
      by_failed true false e over reads = λ rs h. rw e at h
      by_failed false true e over reads =
          let p = plain e in
          let r = reads p.trim (ready p) in
          rw (e, same ∙ e, r.1) (reads_left (reader_state old) (reader_state new) (unread_of remaining old)
          (buffered_of (remaining (reader_source new)) new) false true fields (rw (p.config, e, same ∙ e) at r.0))
      by_failed false false e over reads =
          let p = plain e in
          let r = reads p.trim (ready p) in
          rw e (reads_left (reader_state old) (reader_state new) (unread_of remaining old)
          (buffered_of (remaining (reader_source new)) new) false false fields (rw (p.config, e, same ∙ e) at r.0))

  -- before the first read
  pub begins : (known : Known) → has_failed old ≡ false → reader_state old ≡ st.StartRecord →
      source_of remaining old ≡ option_map strip_bom known → IfSome known (λ bytes. csv_left remaining old (csv_records bytes))
  begins None fresh first source = tt
  begins (Some bytes) fresh first source = rw (first, source, fresh) (all_records bytes)

-- the records of known bytes are left
pub known_left : (records_of : List ℕ → List (List (List ℕ))) (left : List (List (List ℕ)) → Type 0) (known : Known) →
    IfSome known (λ bytes. left (records_of bytes)) → IfSome (option_map records_of known) left
known_left records_of left None h = tt
known_left records_of left (Some bytes) h = h

pub history_join : {S : Type 0} (happens : S → Event → S → Type 0) (a b c : S) (es fs : List Event) →
    History happens a es b → History happens b fs c → History happens a (es ++ fs) c
history_join {S} happens a b c [] fs h k = subst (λ (x : S). History happens x fs c) (sym h) k
history_join happens a b c (e ∷ es) fs h k = (h.0, h.1, history_join happens h.0 b c es fs h.2 k)
