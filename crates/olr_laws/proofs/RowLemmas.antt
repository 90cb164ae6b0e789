-- The worked paths on their maps: a path to which nothing is added, its answer, and its lines at the LRPs.
use Rattle.olr_spec.proofs.Common.{◌≡◌, MatchOption, kept_points, FollowWith, cases_Bool, IsWeighted, EncodingWith, has_no_twin}
use Rattle.olr_spec.proofs.Common.{LongestStart, extended_path, answer_by_points_with, UniqueShortest, no_margin, CandidateWith}
use Rattle.olr_spec.proofs.Common.{ℕ, ap, ◌≤◌, dm, not, has, ◌∷◌, sym, ◌∙◌, Map, end, Leg, leg, suc}
use Rattle.olr_spec.proofs.Common.{IsTrue, EndRun, Points, Option, Measure, nat_le, IsRoute, is_path, Encodes, Refusal, passing}
use Rattle.olr_spec.proofs.Common.{Refused, add-zero, StartRun, reference, leb-true, list_all, To_valid, not-true, has_line, []}
use Rattle.olr_spec.proofs.Common.{To_end, nat_lt, Bool, subst, arith, IsMap, start, first, dm_of, Tried, up_to, fit16, false}
use Rattle.olr_spec.proofs.Common.{Reference, slice_get, append-nil, LongestEnd, path_fault, candidates, option_map, is_nearest}
use Rattle.olr_spec.proofs.Common.{true, List, ◌++◌, refl, Some, ◌+◌, ◌<◌, None, cond, last, Path, legs, Side, zero, ◌&&◌, ints}
use Rattle.olr_spec.proofs.Facts.{path_at, empty_unique}
use Rattle.olr_spec.specs.Receiver.{decoded_coord, Outgoing, Incoming, Lrp, lrp_at, Rating}
use Rattle.olr_spec.specs.Recovery.{IsLineAtWith, line_by, DistinctAtWith, Distinct, are_cosines, is_cosine}
use Rattle.olr_laws.specs.ReceiverLaws.{stands_out, exceeded, rating_by, weighted, Differences, DistinctByDirection}
use Rattle.olr_laws.specs.ReceiverLaws.{DirectionReceiver, TakesByDirection, SeesDirections, count_where}
use Rattle.olr_laws.specs.Rows.{leg10, leg20, leg30, leg99, reference1, legs1, morning_lines, axes_sum, cosine, by_cosine}
use Rattle.olr_laws.specs.Rows.{morning_map, morning_path, morning_nodes, morning_records, fork_records, fork_reference}
use Rattle.olr_laws.specs.Rows.{fork_map, fork_path, fork_nodes, fork_lines, fork10, fork11, degrees10, TakesOther}
use Rattle.olr_laws.proofs.MapLemmas.{sound, passing_is, candidates_are, IsRoad, long, leg_in, has_line_is, leg_is, each_line}
use Rattle.olr_laws.proofs.MapLemmas.{road}
use Rattle.olr_laws.proofs.ReceiverLemmas.{some_weighted, apart}
use Rattle.olr_laws.proofs.DirectionLemmas.{sees_by_limits, by_weights}

-- ---- ends at valid nodes

-- no line leads to the lines ls or on from them
no_start_run : (M : Map) (ls : List ℕ) → passing M (start M (first ls)) ≡ false → (c : List ℕ) → StartRun M c ls → c ≡ []
no_start_run M ls h [] r = refl
no_start_run M ls h (x ∷ c) r = grind (arith, no_start_run M ls h c)

no_end_run : (M : Map) (ls : List ℕ) → passing M (end M (last ls)) ≡ false → (c : List ℕ) → EndRun M ls c → c ≡ []
no_end_run M ls h [] r = refl
no_end_run M ls h (x ∷ c) r = grind (arith, r.0.joins, r.0.through)

longest_start : (M : Map) (ls : List ℕ) → passing M (start M (first ls)) ≡ false → LongestStart M [] ls
longest_start M ls h =
    record { run = tt; within = omega arith; longest = λ d r w. omega (arith, ap (dm_of M) (no_start_run M ls h d r)) }

longest_end : (M : Map) (ls : List ℕ) → passing M (end M (last ls)) ≡ false → LongestEnd M ls []
longest_end M ls h =
    record { run = tt; within = omega arith; longest = λ d r w. omega (arith, ap (dm_of M) (no_end_run M ls h d r)) }

cond_same : (b : Bool) (xs : List ℕ) → cond b xs xs ≡ xs
cond_same b xs = grind (arith, cases_Bool b)

not_extended : (M : Map) (P : Path) → extended_path M P [] [] ≡ P
not_extended M P = grind (arith, cond_same, append-nil, add-zero)

-- ---- the row

-- a path of lines gs among the lines cs of a map, with the LRPs 0 and js and the reference r
pub record IsRow (M : Map) (P : Path) (js : List ℕ) (gs : List Leg) (cs : List (ℕ × Leg)) (r : Reference) : Type 0 where
  pub sound : IsMap M
  pub is : IsTrue (is_path P.lines)
  pub none : path_fault M P ≡ None
  pub starts : passing M (start M (first P.lines)) ≡ false
  pub ends : passing M (end M (last P.lines)) ≡ false
  pub follow : FollowWith no_margin M P.lines 0 js
  pub along : legs M P.lines ≡ gs
  pub all : candidates M ≡ cs
  pub answer : answer_by_points_with no_margin M P js ≡ Points r

module _ (M : Map) (P : Path) (js : List ℕ) (gs : List Leg) (cs : List (ℕ × Leg)) (r : Reference) (w : IsRow M P js gs cs r) where
  tried : Tried M P [] []
  tried =
      record {
        before = longest_start M P.lines w.starts;
        after =
            subst (λ (xs : List ℕ). LongestEnd M (xs ++ P.lines) []) (sym (cond_same (passing M (start M (first P.lines))) []))
            (longest_end M P.lines w.ends);
      }

  encoding : EncodingWith no_margin M P (Points r)
  encoding =
      record {
        before = [];
        after = [];
        points = js;
        tried = tried;
        follow = subst (λ (E : Path). FollowWith no_margin M E.lines 0 js) (sym (not_extended M P)) w.follow;
        holds = sym (ap (λ (E : Path). answer_by_points_with no_margin M E js) (not_extended M P) ∙ w.answer);
      }

  pub encodes : Encodes M P (Points r)
  encodes =
      subst (λ (o : Option Refusal). MatchOption o (EncodingWith no_margin M P (Points r)) (λ f. Points r ≡ Refused f))
      (sym w.none) encoding

  -- the path's line at an LRP
  line_found : (s : Side) (k x : ℕ) → IsLineAtWith no_margin M P s k x →
      option_map (line_by s P.lines) (slice_get (kept_points gs P.pos P.neg js) k) ≡ Some x
  unfolding encoding
  line_found s k x at =
      let there = path_at w.sound w.is w.none encoding at in
      ap (λ (gs : List Leg). option_map (line_by s P.lines) (slice_get (kept_points gs P.pos P.neg js) k)) (sym w.along)
      ∙ ap (λ (E : Path). option_map (line_by s E.lines) (slice_get (kept_points (legs M E.lines) E.pos E.neg js) k)) (sym (not_extended M P))
      ∙ there

  module _ (s : Side) (k y : ℕ) (g : Leg) (on : option_map (line_by s P.lines) (slice_get (kept_points gs P.pos P.neg js) k) ≡ Some y)
      (is_g : leg M y ≡ g) (far : Measure) where
    pub own_is : (x : ℕ) → IsLineAtWith no_margin M P s k x → y ≡ x
    own_is x at = let there = line_found s k x at in cc (there, on)

    -- a test of line y by the lines of the map
    holds : (Q : ℕ → Leg → List (ℕ × Leg) → Bool) → Q y g cs ≡ true → (x : ℕ) → IsLineAtWith no_margin M P s k x →
        IsTrue (Q x (leg M x) (candidates M))
    holds Q h x at =
        subst (λ (x : ℕ). IsTrue (Q x (leg M x) (candidates M))) (own_is x at) ((λ i. Q y (is_g i) (w.all i)) ∙ h)

    -- it is distinct at LRP k
    pub distinct_at : is_nearest far s (decoded_coord r k) g cs ≡ true → has_no_twin s y g cs ≡ true →
        DistinctAtWith no_margin far M P s k (decoded_coord r k)
    distinct_at near none =
        record { nearest = holds (λ _. is_nearest far s (decoded_coord r k)) near; alone = holds (has_no_twin s) none }

    -- it stands out
    pub stands_at : (slack : ℕ) → stands_out far slack s (decoded_coord r k) y g cs ≡ true → (x : ℕ) →
        IsLineAtWith no_margin M P s k x → IsTrue (stands_out far slack s (decoded_coord r k) x (leg M x) (candidates M))
    stands_at slack = holds (stands_out far slack s (decoded_coord r k))

-- ---- the first worked path: the lines 10, 20 and 30 with three LRPs; line 99, between the ends of line 20, is shorter

abbrev M : Map
M = morning_map

abbrev Lines : List ℕ
Lines = 10 ∷ 20 ∷ 30 ∷ []

-- ---- the map

pub morning_sound : IsMap morning_map
morning_sound = sound morning_nodes morning_records tt tt refl refl

pub morning_candidates : candidates morning_map ≡ morning_lines
morning_candidates = candidates_are morning_nodes morning_records tt tt

road10 : IsRoad M 10 leg10 1 2
road10 = road morning_nodes morning_records tt tt 10 1 2 (refl, refl, refl)

road20 : IsRoad M 20 leg20 2 3
road20 = road morning_nodes morning_records tt tt 20 2 3 (refl, refl, refl)

road30 : IsRoad M 30 leg30 3 4
road30 = road morning_nodes morning_records tt tt 30 3 4 (refl, refl, refl)

road99 : IsRoad M 99 leg99 2 3
road99 = road morning_nodes morning_records tt tt 99 2 3 (refl, refl, refl)

lengths : (dm M 10 ≡ 5610) × (dm M 20 ≡ 2000) × (dm M 30 ≡ 740) × (dm M 99 ≡ 1500)
lengths = (long road10, long road20, long road30, long road99)

-- ---- the LRPs

by_side : IsRoute M (end M 10) (start M 30) (99 ∷ [])
by_side = (road99.known, road99.from ∙ sym road10.to, road99.to ∙ sym road30.from)

not_over : ¬ UniqueShortest M (end M 10) (start M 30) (20 ∷ [])
not_over u = omega (arith, u.others (99 ∷ []) by_side (λ e. absurd cc), lengths.1, lengths.3)

at_most_one : (k : ℕ) → CandidateWith no_margin M Lines 0 k → k ≤ 1
at_most_one zero c = omega arith
at_most_one (suc zero) c = omega arith
at_most_one (suc (suc zero)) c = absurd (not_over (c.covered (omega arith)))
at_most_one (suc (suc (suc zero))) c = absurd (not_over (c.covered (omega arith)))
at_most_one (suc (suc (suc (suc k)))) c = absurd (omega (arith, c.upto))

none_between : (v w u : ℕ) → w ≡ u → v ≡ u → UniqueShortest M v w []
none_between v w u to from = subst (λ (v : ℕ). UniqueShortest M v w []) (to ∙ sym from) (empty_unique M morning_sound w)

first_leg : CandidateWith no_margin M Lines 0 1
first_leg =
    let covered = none_between (end M 10) (start M 20) 2 road20.from road10.to in
    record {
      after = omega arith;
      upto = omega arith;
      covered = λ _. covered;
      near = omega (arith, lengths.0);
      fits = λ i. fit16 (road10.is i).begin (road20.is i).begin;
    }

last_leg : CandidateWith no_margin M Lines 1 3
last_leg =
    let covered = none_between (end M 20) (start M 30) 3 road30.from road20.to in
    record {
      after = omega arith;
      upto = omega arith;
      covered = λ _. covered;
      near = omega (arith, lengths.1, lengths.2);
      fits = λ i. fit16 (road20.is i).begin (road30.is i).finish;
    }

follows : FollowWith no_margin M Lines 0 (1 ∷ 3 ∷ [])
follows = (
  To_valid (λ c. let few : 3 ≤ 1 = at_most_one 3 c in omega arith) (record {
    holds = (first_leg, ap (passing M) road20.from ∙ passing_is morning_nodes morning_records tt tt 2);
    others = λ k c. at_most_one k c.0;
  }),
  (To_end refl last_leg, λ j c. omega (arith, c.after, c.upto)),
)

no_fault : path_fault M morning_path ≡ None
no_fault =
    let longer : nat_le (dm M 10 + (dm M 20 + (dm M 30 + 0))) 1500 ≡ false =
    grind (arith, lengths.0, leb-true, cases_Bool (nat_le (dm M 10 + (dm M 20 + (dm M 30 + 0))) 1500)) in
    simp (road10.known, road20.known, road30.known, road10.to, road20.from, road20.to, road30.from, longer)

along : legs M Lines ≡ legs1
along i = road10.is i ∷ road20.is i ∷ road30.is i ∷ []

row1 : IsRow M morning_path (1 ∷ 3 ∷ []) legs1 morning_lines reference1
row1 =
    record {
      sound = morning_sound;
      is = refl;
      none = no_fault;
      starts = ap (passing M) road10.from ∙ passing_is morning_nodes morning_records tt tt 1;
      ends = ap (passing M) road30.to ∙ passing_is morning_nodes morning_records tt tt 4;
      follow = follows;
      along = along;
      all = morning_candidates;
      answer = λ i. Points (reference (along i) 1500 0 (1 ∷ 3 ∷ []));
    }

-- ---- the answer

pub morning_answer : Encodes morning_map morning_path (Points reference1)
morning_answer = encodes M _ _ _ _ _ row1

pub morning_distinct : Distinct axes_sum morning_map morning_path reference1
morning_distinct =
    record { outgoing = out; incoming = distinct_at M _ _ _ _ _ row1 Incoming 2 30 leg30 refl road30.is axes_sum refl refl }
  where
    out : (k : ℕ) → k < 2 → DistinctAtWith no_margin axes_sum morning_map morning_path Outgoing k (decoded_coord reference1 k)
    out zero lt = distinct_at M _ _ _ _ _ row1 Outgoing 0 10 leg10 refl road10.is axes_sum refl refl
    out (suc zero) lt = distinct_at M _ _ _ _ _ row1 Outgoing 1 20 leg20 refl road20.is axes_sum refl refl
    out (suc (suc k)) lt = absurd (omega arith)

pub morning_by_direction : DistinctByDirection no_margin axes_sum 10000000 morning_map morning_path reference1
morning_by_direction =
    record { outgoing = out; incoming = stands_at M _ _ _ _ _ row1 Incoming 2 30 leg30 refl road30.is axes_sum 10000000 refl }
  where
    out : (k x : ℕ) → k < 2 → IsLineAtWith no_margin M morning_path Outgoing k x →
        IsTrue (stands_out axes_sum 10000000 Outgoing (decoded_coord reference1 k) x (leg M x) (candidates M))
    out zero x lt = stands_at M _ _ _ _ _ row1 Outgoing 0 10 leg10 refl road10.is axes_sum 10000000 refl x
    out (suc zero) x lt = stands_at M _ _ _ _ _ row1 Outgoing 1 20 leg20 refl road20.is axes_sum 10000000 refl x
    out (suc (suc k)) x lt = absurd (omega arith)

-- between 0.64 and 1 at each end of a line
pub morning_cosines : are_cosines 64 100 1000000 cosine morning_map reference1 ≡ true
morning_cosines =
    ap (λ (cs : List (ℕ × Leg)). list_all (λ k. list_all (λ c. is_cosine 64 100 1000000 (cosine (decoded_coord reference1 k) c.1.begin)
    && is_cosine 64 100 1000000 (cosine (decoded_coord reference1 k) c.1.finish)) cs) (up_to 3)) morning_candidates

pub morning_weighted : IsWeighted 64 100 1000000 by_cosine morning_map reference1
morning_weighted = some_weighted 64 100 1000000 cosine morning_map reference1 (omega arith) (omega arith) morning_cosines

-- ---- two lines in one sector, of other classes

line10 : IsRoad fork_map 10 fork10 1 2
line10 = road fork_nodes fork_records tt tt 10 1 2 (refl, refl, refl)

leg_fits : CandidateWith no_margin fork_map (10 ∷ []) 0 1
leg_fits =
    record {
      after = omega arith;
      upto = omega arith;
      covered = λ lt. absurd (omega arith);
      near = omega (arith, long line10);
      fits = λ i. fit16 (line10.is i).begin (line10.is i).finish;
    }

pub fork_candidates : candidates fork_map ≡ fork_lines
fork_candidates = candidates_are fork_nodes fork_records tt tt

fork_row : IsRow fork_map fork_path (1 ∷ []) (fork10 ∷ []) fork_lines fork_reference
fork_row =
    record {
      sound = sound fork_nodes fork_records tt tt refl refl;
      is = refl;
      none = simp (line10.known, long line10);
      starts = ap (passing fork_map) line10.from ∙ passing_is fork_nodes fork_records tt tt 1;
      ends = ap (passing fork_map) line10.to ∙ passing_is fork_nodes fork_records tt tt 2;
      follow = (To_end refl leg_fits, λ j c. omega (arith, c.after, c.upto));
      along = λ i. line10.is i ∷ [];
      all = fork_candidates;
      answer = λ i. Points (reference (line10.is i ∷ []) 0 0 (1 ∷ []));
    }

pub fork_answer : Encodes fork_map fork_path (Points fork_reference)
fork_answer = encodes fork_map _ _ _ _ _ fork_row

pub fork_distinct : Distinct axes_sum fork_map fork_path fork_reference
fork_distinct =
    record {
      outgoing = λ k lt. let first : 0 ≡ k = omega arith in
          subst (λ (k : ℕ). DistinctAtWith no_margin axes_sum fork_map fork_path Outgoing k (decoded_coord fork_reference k))
          first (distinct_at fork_map _ _ _ _ _ fork_row Outgoing 0 10 fork10 refl line10.is axes_sum refl refl);
      incoming = distinct_at fork_map _ _ _ _ _ fork_row Incoming 1 10 fork10 refl line10.is axes_sum refl refl;
    }

-- ---- a receiver by degrees

sees : (ts : List ℕ) → IsTrue (has ts 105104) → SeesDirections (exceeded ts) (count_where (λ u. nat_lt u 104000) ts)
sees ts six =
    sees_by_limits ts 105104 six (omega arith) (omega arith) (λ v. v)
    (λ v. record { east = grind (arith, ints); north = grind (arith, ints) })

pub by_scores : SeesDirections (exceeded (105104 ∷ 212557 ∷ 324920 ∷ [])) 0
by_scores = sees (105104 ∷ 212557 ∷ 324920 ∷ []) refl

pub by_degrees : SeesDirections (exceeded degrees10) 5
by_degrees = sees degrees10 refl

pub nearest_same : (a b : ℕ) → apart a a ≤ apart a b
nearest_same a b = omega arith

abbrev equal : Rating
equal = record { far = 1; frc = 1; fow = 1; bearing = 1 }

abbrev pub by_tens : Differences
by_tens =
    record {
      far = axes_sum;
      slack = 5;
      reach = 5;
      frc_apart = apart;
      fow_apart = apart;
      bearing_apart = λ c. exceeded degrees10;
      frcs = nearest_same;
      fows = nearest_same;
      bearings = λ c. by_degrees;
    }

abbrev pub by_sum : DirectionReceiver
by_sum = by_weights by_tens equal (omega arith, omega arith, omega arith, omega arith) (omega arith)

abbrev at_first : Lrp
at_first = lrp_at fork_reference 0 fork_reference.first.attrs

abbrev sum_of : Leg → ℕ
sum_of g = weighted equal (rating_by by_tens at_first g)

abbrev leg_of : ℕ → Leg
leg_of x = leg_in fork_nodes fork_records x

leg_of_is : (x : ℕ) → leg fork_map x ≡ leg_of x
leg_of_is = leg_is fork_nodes fork_records tt tt

has11 : IsTrue (has_line fork_map 11)
has11 = has_line_is fork_nodes fork_records tt tt 11

takes11 : TakesByDirection by_sum fork_map at_first 11
takes11 =
    record {
      known = has11;
      best = λ y h. (λ i. nat_lt (sum_of (leg_of_is y i)) (sum_of (leg_of_is 11 i)))
          ∙ not-true (nat_lt (sum_of (leg_of y)) (sum_of fork11))
          (each_line fork_nodes fork_records tt tt (λ y. not (nat_lt (sum_of (leg_of y)) (sum_of fork11))) refl y h);
    }

not10 : ¬ TakesByDirection by_sum fork_map at_first 10
not10 k =
    let worse : nat_lt (sum_of (leg fork_map 11)) (sum_of (leg fork_map 10)) ≡ true =
    λ i. nat_lt (sum_of (leg_of_is 11 i)) (sum_of (leg_of_is 10 i)) in
    let best = k.best 11 has11 in
    cc (worse, best)

pub takes_other : TakesOther
takes_other = (by_sum, refl, refl, takes11, not10)
