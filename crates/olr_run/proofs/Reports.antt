-- The text of a report, from what is published of each path, and what a report answers to a record.
use Rattle.olr_run.proofs.Common.{length-map, append-nil, append_assoc, count_line, fault_text, Field, read, CarriedOut}
use Rattle.olr_run.proofs.Common.{Outcome, IsOutcome, RecordOutcome, may_lack, Registered, ◌≡◌, answer_of, ◌≢◌, ℕ, List, []}
use Rattle.olr_run.proofs.Common.{◌∷◌, ◌++◌, length, map, refl, ap, ◌∙◌, suc, subst, sym, arith, IsTrue, Result, Ok, Err}
use Rattle.olr_run.proofs.Common.{Option, Some, inl, true, false, ne_eqb, concat, option_map_or, Map, Margin, Refusal, Named}
use Rattle.olr_run.proofs.Common.{Content, State, Memory, Report, Entry, Paths, AllOf, Lacks, entry, published_text, Results}
use Rattle.olr_run.proofs.Common.{entry_line, HaveEncodings, AllPublished, IsReport}

-- ---- the text

-- the lines of paths
abbrev pub line_of : List ℕ × Option Results → List ℕ
line_of p = option_map_or (λ m. entry_line (entry p.0 m.answer)) p.1 []

abbrev pub lines_of : List (List ℕ × Option Results) → List ℕ
lines_of xs = concat (map line_of xs)

abbrev named : List ℕ → Result (List ℕ) Refusal → Entry
named name p = record { name = name; published = p }

-- the text with one line more, before those that are left
pub one_more : (xs rest : List (List ℕ × Option Results)) (name : List ℕ) (m : Results) (p : Result (List ℕ) Refusal)
    (t u w : List ℕ) → xs ≡ (name, Some m) ∷ rest → p ≡ published_text m.answer → u ≡ t ++ entry_line (named name p)
    → t ++ lines_of xs ≡ w → u ++ lines_of rest ≡ w
one_more xs rest name m p t u w e q a h =
    ap (λ (x : List ℕ). x ++ lines_of rest)
    (a ∙ ap (λ (r : Result (List ℕ) Refusal). t ++ entry_line (named name r)) q)
    ∙ append_assoc t (entry_line (entry name m.answer)) (lines_of rest)
    ∙ ap (λ (ys : List (List ℕ × Option Results)). t ++ lines_of ys) (sym e) ∙ h

all_of : (g : Margin) (M : Map) (ps : List Named) (xs : List (List ℕ × Option Results)) → HaveEncodings g M ps xs →
    (es : List Entry) × AllOf g M ps es × (length es ≡ length ps) × (concat (map entry_line es) ≡ lines_of xs)
all_of g M [] xs h = ([], refl, refl, rw h refl)
all_of g M (p ∷ ps) xs (m, rest, encoding, more, is) =
    let r = all_of g M ps rest more in (
      entry p.name m.answer ∷ r.0,
      (m.answer, r.0, encoding.answer, r.1, refl),
      ap suc r.2,
      ap (λ (t : List ℕ). entry_line (entry p.name m.answer) ++ t) r.3 ∙ ap lines_of (sym is),
    )

-- the first line, and those of all paths
pub report_of : (register : Registered) (xs rest : List (List ℕ × Option Results)) (before mid after : List ℕ) (n : ℕ)
    → AllPublished register.state.content xs → n ≡ length register.state.content.paths → mid ≡ before ++ count_line n →
    rest ≡ [] → after ++ lines_of rest ≡ mid ++ lines_of xs → IsReport register (λ lines. after ≡ before ++ lines)
report_of register xs rest before mid after n h count first none last s represents =
    let r = all_of s.content.margin s.content.map s.content.paths xs (subst (λ (c : Content). AllPublished c xs) represents.0 h) in
    let size : n ≡ length (map entry_line r.0) =
    count ∙ ap (λ (c : Content). length c.paths) represents.0 ∙ sym r.2 ∙ sym (length-map r.0 entry_line) in
    let head : mid ≡ before ++ count_line (length (map entry_line r.0)) = first ∙ ap (λ k. before ++ count_line k) size in (
      r.0,
      r.1,
      sym (append-nil after) ∙ ap (λ (ys : List (List ℕ × Option Results)). after ++ lines_of ys) (sym none) ∙ last
          ∙ ap (λ (x : List ℕ). x ++ lines_of xs) head
          ∙ append_assoc before (count_line (length (map entry_line r.0))) (lines_of xs)
          ∙ ap (λ (x : List ℕ). before ++ (count_line (length (map entry_line r.0)) ++ x)) (sym r.3),
    )

-- ---- the outcome

record_outcome : (s : State) (fields : List Field) (o : Outcome) → read fields ≡ Ok Report → IsOutcome s Report o s →
    RecordOutcome s fields o s
record_outcome s fields o e h = inl (rw e h)

pub reports : (register : Registered) (fields : List Field) (text : List ℕ) → read fields ≡ Ok Report →
    IsReport register (λ lines. text ≡ lines) → CarriedOut register fields register (λ o. answer_of o ≡ (text, true))
reports register fields text e report s represents sound =
    let r = report s represents in (
      s,
      Ok (Paths r.0),
      represents,
      (record_outcome s fields (Ok (Paths r.0)) e (refl, r.1), sound),
      λ i. (sym r.2 i, true),
    )

may_lack_report : (s : State) → length s.content.paths ≢ 0 → IsTrue (may_lack s Report)
may_lack_report s some = grind (arith, ne_eqb)

pub lacks : (register : Registered) (fields : List Field) (line : List ℕ) → read fields ≡ Ok Report →
    length register.state.content.paths ≢ 0 → line ≡ fault_text Memory →
    CarriedOut register fields register (λ o. answer_of o ≡ (line, false))
lacks register fields line e some is s represents sound =
    let may = may_lack_report s (subst (λ (c : Content). length c.paths ≢ 0) represents.0 some) in
    (s, Err Memory, represents, (record_outcome s fields (Err Memory) e (Lacks refl may, refl), sound), λ i. (sym is i, false))
