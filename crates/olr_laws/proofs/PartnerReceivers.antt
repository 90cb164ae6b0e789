-- A receiver on a partner's map that takes the path's own line at each LRP recovers the legs, and nothing else.
use Rattle.olr_spec.proofs.Common.{◌≡◌, ℕ, zero, suc, ◌+◌, ◌-◌, List, [], ◌∷◌, length, drop, map, Some, None, slice_get}
use Rattle.olr_spec.proofs.Common.{slice_index, refl, sym, ap, ◌∙◌, subst, arith, IsTrue, ◌↔◌, Map, IsMap, Path, is_path}
use Rattle.olr_spec.proofs.Common.{path_fault, Reference, Points, EncodingWith, Middle, middle_points_with, attrs_with, legs}
use Rattle.olr_spec.proofs.Common.{stretch, extended_path, RecoversTo, RecoversLast, Attrs, LawOf}
use Rattle.olr_spec.proofs.DecodedLemmas.{Kept, form}
use Rattle.olr_spec.proofs.Facts.{path_also, path_at}
use Rattle.olr_spec.proofs.FitLemmas.{by_answer}
use Rattle.olr_spec.proofs.PartnerLemmas.{itself, chains_itself, along_roads, kept_roads}
use Rattle.olr_spec.proofs.ReceiverLemmas.{line_at_point, same_path, size}
use Rattle.olr_spec.specs.Split.{chains, RecoversRoads}
use Rattle.olr_spec.specs.Extension.{first, last}
use Rattle.olr_spec.proofs.SplitLemmas.{recovered_on_roads}
use Rattle.olr_spec.specs.Margins.{Margin}
use Rattle.olr_spec.specs.Receiver.{RecoversFrom, last_number, RecoversBy, attributes, Outgoing, Incoming, last_lrp, lrp_at, Lrp}
use Rattle.olr_spec.specs.Recovery.{stretches}
use Rattle.olr_laws.specs.ReceiverLaws.{TakesOwn, TakesRoads, IsRoadsWith, ReceiverLaws}
use Rattle.olr_laws.proofs.CommandLemmas.{path_in}

-- what is left of a list from an element on
split_at : {X : Type 0} (k : ℕ) (xs : List X) (y : X) (ys : List X) → drop k xs ≡ y ∷ ys →
    (slice_get xs k ≡ Some y) × (drop (suc k) xs ≡ ys)
split_at zero [] y ys e = absurd cc
split_at zero (x ∷ xs) y ys e = (cc, cc)
split_at (suc k) [] y ys e = absurd cc
split_at (suc k) (x ∷ xs) y ys e = split_at k xs y ys e

module _ (takes : Lrp → ℕ) (chain : ℕ → List ℕ) {g : Margin} (M N : Map) (m : IsMap M) (P : Path) (is : IsTrue (is_path P.lines))
    (none : path_fault M P ≡ None) (r : Reference) (e : EncodingWith g M P (Points r)) (own : TakesRoads takes chain g M P r) where
  abbrev Lines : List ℕ
  Lines = (extended_path M P e.before e.after).lines

  abbrev Points_kept : List ℕ
  Points_kept = Kept M P is none r e

  abbrev T : Lrp → ℕ → Type 0
  T t y = y ≡ takes t

  -- the attributes of the LRPs h, i and js but the last
  abbrev Along : ℕ → ℕ → List ℕ → List Attrs
  Along h i js = attrs_with g (legs M Lines) h i ∷ map (λ (m : Middle). m.attrs) (middle_points_with g (legs M Lines) h i js)

  taken : (k h : ℕ) (hs : List ℕ) (a : Attrs) (bs : List Attrs) → drop k Points_kept ≡ h ∷ hs → drop k (attributes r) ≡ a ∷ bs →
      takes (lrp_at r k a) ≡ first (chain (slice_index Lines h))
  taken k h hs a bs at along =
      own.outgoing k (slice_index Lines h) a (split_at k (attributes r) a bs along).0
      (line_at_point M m P is none r e Outgoing k h (split_at k Points_kept h hs at).0)

  taken_last : (k h : ℕ) → k ≡ last_number r → drop k Points_kept ≡ h ∷ [] → takes (last_lrp r) ≡ last (chain (slice_index Lines (h - 1)))
  taken_last k h last at =
      own.incoming (slice_index Lines (h - 1)) (line_at_point M m P is none r e Incoming (last_number r) h
      (subst (λ (n : ℕ). slice_get Points_kept n ≡ Some h) last (split_at k Points_kept h [] at).0))

  abbrev Roads : ℕ → ℕ → List ℕ
  Roads h i = chains chain (stretch Lines h i)

  -- from the path's own line at LRP k the legs after it are recovered
  from_point : (k h i : ℕ) (js : List ℕ) → drop k Points_kept ≡ h ∷ i ∷ js → drop k (attributes r) ≡ Along h i js →
      k + length (h ∷ i ∷ js) ≡ last_number r + 1 → RecoversRoads g M N chain Lines (h ∷ i ∷ js) → (ws : List (List ℕ)) →
      RecoversFrom T N r k (first (chain (slice_index Lines h))) (Along h i js) ws
      ↔ (ws ≡ map (chains chain) (stretches Lines (h ∷ i ∷ js)))
  from_point k h i [] at along long route ws =
      let c = (attrs_with g (legs M Lines) h i).lfrc in
      let x = first (chain (slice_index Lines h)) in
      let o = taken_last (suc k) i (omega arith) (split_at k Points_kept h (i ∷ []) at).1 in (
        (λ z. z.4 ∙ ap (λ (v : List ℕ). v ∷ [])
            ((route z.1).0 (coe 0 1 (n. RecoversLast N c x ((z.2 ∙ o) n) z.1) z.3))),
        (λ q. (last (chain (slice_index Lines (i - 1))), Roads h i, sym o, (route (Roads h i)).1 refl, q)),
      )
  from_point k h i (j ∷ js) at along long route ws =
      let c = (attrs_with g (legs M Lines) h i).lfrc in
      let x = first (chain (slice_index Lines h)) in
      let later = (split_at k Points_kept h (i ∷ j ∷ js) at).1 in
      let attrs = (split_at k (attributes r) (attrs_with g (legs M Lines) h i) (Along i j js) along).1 in
      let o = taken (suc k) i (j ∷ js) (attrs_with g (legs M Lines) i j) _ later attrs in
      let rest = from_point (suc k) i j js later attrs (omega arith) route.1 in (
        (λ z.
            let yes = z.3 ∙ o in
            let w = (route.0 z.1).0 (coe 0 1 (n. RecoversTo N c x (yes n) z.1) z.4) in
            z.5 ∙ (λ n. w n ∷ (rest z.2).0 (coe 0 1 (m. RecoversFrom T N r (suc k) (yes m) (Along i j js) z.2) z.6) n)),
        (λ q. (first (chain (slice_index Lines i)), Roads h i, _, sym o, (route.0 (Roads h i)).1 refl, q, (rest _).1 refl)),
      )

  recovered : RecoversRoads g M N chain Lines Points_kept → (ws : List (List ℕ)) → RecoversBy T N r ws ↔ IsRoadsWith g M chain P ws
  recovered route ws =
      let f = form M P is none r e in
      let along : attributes r ≡ Along f.h f.i f.js = ap attributes f.fields_are in
      let first_taken = taken 0 f.h (f.i ∷ f.js) r.first.attrs _ f.kept refl in
      let long : 0 + length (f.h ∷ f.i ∷ f.js) ≡ last_number r + 1 = omega (arith, ap length f.kept, size M m P is none r e) in
      let rest = from_point 0 f.h f.i f.js f.kept along long (coe 0 1 (n. RecoversRoads g M N chain Lines (f.kept n)) route) ws in
      let x = first (chain (slice_index Lines f.h)) in
      let by : RecoversFrom T N r 0 x (attributes r) ws ↔ (ws ≡ map (chains chain) (stretches Lines Points_kept)) =
      coe 1 0 (n. RecoversFrom T N r 0 x (along n) ws ↔ (ws ≡ map (chains chain) (stretches Lines (f.kept n)))) rest in (
        (λ z. path_also e (by.0 (coe 0 1 (n. RecoversFrom T N r 0 ((z.1 ∙ first_taken) n) (attributes r) ws) z.2))),
        (λ p. (x, sym first_taken, by.1 (path_at m is none e p))),
      )

pub read_on_roads : LawOf (λ (l : ReceiverLaws). l.read_on_roads)
read_on_roads c i N n a b within chain p at r e along roads takes own ws =
    let is = path_in c.paths p i.paths at in
    let x = by_answer c.map p.path r e in
    let legs_there = recovered_on_roads c.margin c.map N i.map n a b within chain p.path is r e along roads in
    recovered takes chain c.map N i.map p.path is x.0 r x.1 own (path_at i.map is x.0 x.1 legs_there).1 ws

-- ---- a map that splits none

all_itself : (xss : List (List ℕ)) → map (chains itself) xss ≡ xss
all_itself [] = refl
all_itself (xs ∷ xss) = λ n. chains_itself xs n ∷ all_itself xss n

pub read_elsewhere : LawOf (λ (l : ReceiverLaws). l.read_elsewhere)
read_elsewhere c i N n a b within p at r e along classes ours takes own ws =
    let is = path_in c.paths p i.paths at in
    let x = by_answer c.map p.path r e in
    let roads : TakesRoads takes itself c.margin c.map p.path r = record { outgoing = own.outgoing; incoming = own.incoming } in
    let by = read_on_roads c i N n a b within itself p at r e (along_roads i.map a b is x.0 along classes) (kept_roads i.map a b is x.0 along ours) takes roads ws in (
      (λ z. path_also x.1 (path_at i.map is x.0 x.1 (by.0 z) ∙ all_itself _)),
      (λ s. by.1 (path_also x.1 (path_at i.map is x.0 x.1 s ∙ sym (all_itself _)))),
    )
