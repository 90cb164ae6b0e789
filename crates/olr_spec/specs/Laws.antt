-- The laws: what follows from the definitions, in the order of their files. Each is proved for all maps, paths,
-- references and bytes.
--     MapLaws      the lists of lines in and out of a node are in ascending order and complete; an accepted edit keeps a
--         map sound
--     RouteLaws      there is at most one shortest path and one unique shortest path, and their prefixes are such paths
--         too; labels that no line improves describe them
--     MarginLaws g      where a route's own lines count longer, its fronts are the unique shortest paths too, and it is so
--         on the map, and on another one whose lengths are nearly the same
--     AnswerLaws g      a path has exactly one answer; its reference fits its bits; the routes between its LRPs join to the
--         path; what every receiver recovers from a reference
--     FieldLaws      a direction has one sector, a reference encodes as one sequence of bytes, and bytes have one reference
--         or one fault
--     LocalityLaws g      an answer depends on its footprint alone
--     ChangeLaws      what edits change, and which routes they can affect
--     QueryLaws g      a path has one list of coverage queries; if changes affect neither these nor its traversed nodes,
--         its answer is retained
use Rattle.std.specs.Prelude.{◌≡◌, ℕ, ◌+◌, ◌<◌, ◌≤◌, ℤ, pos, List, [], ◌++◌, length, Option, Some, None, All, Contains, Ok, ◌↔◌}
use Rattle.std.specs.Prelude.{◌⊎◌, IsTrue, IsFalse}
use Rattle.std.specs.List.{AllByRecursion}
use Rattle.std.specs.List.Sorted.{IsStrictlyIncreasing}
use Rattle.olr_spec.specs.Map.{Map, empty_map, IsMap, Line, has_line, lines_in, lines_out, Edit, edited, touched_nodes}
use Rattle.olr_spec.specs.Map.{touched_lines, Enters, Leaves, Agree, SameLine, SameRound, has, HasCoord}
use Rattle.olr_spec.specs.Routes.{IsRoute, dm_of, Least, UniqueShortest, Settled}
use Rattle.olr_spec.specs.Margins.{Margin, counted, IsSoundFor}
use Rattle.olr_spec.specs.Split.{HasRoadsAlong, HasKeptRoads, RecoversRoads}
use Rattle.olr_spec.specs.Elsewhere.{HasNoOther, IsNearly, IsNearlyAlong, HasAlong, HasClasses, KeptLines, KeptLegs, LegHasOurs, RecoversLegs, suffices}
use Rattle.olr_spec.specs.Extension.{Path, is_path, first, last, LongestStart, LongestEnd, limit}
use Rattle.olr_spec.specs.Points.{stretch, CoveredWith, NextWith, FollowWith, last_position, OfPathWith}
use Rattle.olr_spec.specs.Bearings.{IsSector, sector}
use Rattle.olr_spec.specs.Reference.{reference_with, Reference, legs, first_kept, last_kept, kept_points}
use Rattle.olr_spec.specs.Encoding.{Answer, Points, EncodesWith}
use Rattle.olr_spec.specs.Bytes.{IsReference, HasBytes, v3_fault}
use Rattle.olr_spec.specs.Joins.{Joins}
use Rattle.olr_spec.specs.Receiver.{Receiver, Recovers}
use Rattle.olr_spec.specs.Recovery.{DistinctWith, IsStretchesWith}
use Rattle.olr_spec.specs.Footprint.{Sees, FootWith}
use Rattle.olr_spec.specs.Detours.{ChangedLine, changes_of, AccountsFor, Difference, Detour, Near}
use Rattle.olr_spec.specs.Queries.{TraversedOf, IsLastTestedWith, CoverageQuery, query_to_with, QueriesOfWith, IsClear}
use Rattle.olr_spec.specs.Queries.{KnownQuery, IsKnownWith, KnownOfWith}

pub record MapLaws : Type 0 where
  -- the lists of the lines that enter and leave a node are in ascending order
  pub lines_ascend : (M : Map) (v : ℕ) → IsStrictlyIncreasing (lines_in M v) × IsStrictlyIncreasing (lines_out M v)
  -- and hold exactly these lines
  pub exactly_in : (M : Map) (v x : ℕ) → IsTrue (has (lines_in M v) x) ↔ ((l : Line) × Enters M v x l)
  pub exactly_out : (M : Map) (v x : ℕ) → IsTrue (has (lines_out M v) x) ↔ ((l : Line) × Leaves M v x l)
  -- an accepted edit keeps a map sound, if each coordinate that it adds is in range
  pub edits_keep : (M N : Map) (e : Edit) → IsMap M → HasCoord e → edited M e ≡ Ok N → IsMap N
  -- one edit restores the map from before an accepted edit
  pub edits_undo : (M N : Map) (e : Edit) → IsMap M → edited M e ≡ Ok N → (f : Edit) × (edited N f ≡ Ok M)
  -- the map without nodes and lines is sound
  pub empty_is_sound : IsMap empty_map

pub record RouteLaws : Type 0 where
  -- of two different, equally long routes neither is a suffix of the other
  pub no_longer_suffix : (M : Map) → IsMap M → (s t : ℕ) (front xs : List ℕ) → IsRoute M s t (front ++ xs) →
      dm_of M (front ++ xs) ≡ dm_of M xs → front ≡ []
  -- at most one route is the shortest path
  pub one_least : (M : Map) → IsMap M → (s t : ℕ) (xs ys : List ℕ) → Least M s t xs → Least M s t ys → xs ≡ ys
  -- a prefix of the shortest path is the shortest path to its own end
  pub prefix_of_least : (M : Map) (s v t : ℕ) (xs ys : List ℕ) → Least M s t (xs ++ ys) → IsRoute M s v xs →
      IsRoute M v t ys → Least M s v xs
  -- from a node to itself the shortest path is the empty route
  pub empty_is_least : (M : Map) (s : ℕ) → Least M s s []
  -- a unique shortest path is the shortest path
  pub unique_is_least : (M : Map) (s t : ℕ) (xs : List ℕ) → UniqueShortest M s t xs → Least M s t xs
  -- at most one route is the unique shortest path
  pub one_unique : (M : Map) (s t : ℕ) (xs ys : List ℕ) → UniqueShortest M s t xs → UniqueShortest M s t ys → xs ≡ ys
  -- a prefix of the unique shortest path is the unique shortest path to its own end
  pub prefix_of_unique : (M : Map) (s v t : ℕ) (xs ys : List ℕ) → UniqueShortest M s t (xs ++ ys) → IsRoute M s v xs →
      IsRoute M v t ys → UniqueShortest M s v xs
  -- from a node to itself the empty route is the unique shortest path
  pub empty_is_unique : (M : Map) → IsMap M → (s : ℕ) → UniqueShortest M s s []
  -- labels that no line improves describe shortest paths
  pub settled_is_least : (M : Map) → IsMap M → (s most : ℕ) (dist : ℕ → Option ℕ) (trace : ℕ → List ℕ) →
      Settled M s most dist trace → (v d : ℕ) → dist v ≡ Some d → Least M s v (trace v)
  -- and there is one at each node that a route within the limit reaches
  pub settled_reaches : (M : Map) → IsMap M → (s most : ℕ) (dist : ℕ → Option ℕ) (trace : ℕ → List ℕ) →
      Settled M s most dist trace → (v : ℕ) (ys : List ℕ) → IsRoute M s v ys → dm_of M ys ≤ most →
      (d : ℕ) × (dist v ≡ Some d)
  -- at most one run is the longest at the start of a list of lines
  pub one_start_run : (M : Map) → IsMap M → (ls c d : List ℕ) → IsTrue (has_line M (first ls)) → LongestStart M c ls →
      LongestStart M d ls → c ≡ d
  -- at most one run is the longest at its end
  pub one_end_run : (M : Map) → IsMap M → (ls c d : List ℕ) → IsTrue (has_line M (last ls)) → LongestEnd M ls c →
      LongestEnd M ls d → c ≡ d

pub record MarginLaws (g : Margin) : Type 0 where
  -- a prefix of the unique shortest path is that to its own end, where each counts its own lines longer, and no others
  pub prefix_of_counted : (M : Map) → IsMap M → (s v t : ℕ) (xs ys : List ℕ) →
      UniqueShortest (counted g M (xs ++ ys)) s t (xs ++ ys) → IsRoute M s v xs → IsRoute M v t ys →
      UniqueShortest (counted g M xs) s v xs
  -- the unique shortest path where its own lines count longer is that of the map
  pub counted_is_unique : (M : Map) → IsMap M → (s t : ℕ) (xs : List ℕ) → UniqueShortest (counted g M xs) s t xs →
      UniqueShortest M s t xs
  -- and that of each other map that has no other roads, if what its lengths differ by is within the margin
  pub unique_elsewhere : (M N : Map) → IsMap N → HasNoOther M N → (a b : ℕ) → IsTrue (suffices g a b) → (xs : List ℕ) →
      IsNearly a b M N xs → (s t : ℕ) → UniqueShortest (counted g M xs) s t xs → UniqueShortest N s t xs

-- Q holds of each path on each sound map
abbrev pub OfPaths : (Map → Path → Type 0) → Type 0
OfPaths Q = (M : Map) → IsMap M → (P : Path) → IsTrue (is_path P.lines) → Q M P

-- and of the reference of its answer
abbrev pub OfReferences : Margin → (Map → Path → Reference → Type 0) → Type 0
OfReferences g Q = OfPaths (λ M P. (r : Reference) → EncodesWith g M P (Points r) → Q M P r)

pub record AnswerLaws (g : Margin) : Type 0 where
  -- an LRP has at most one next LRP
  pub one_next : (M : Map) (ls : List ℕ) (i j k : ℕ) → NextWith g M ls i j → NextWith g M ls i k → j ≡ k
  -- so there is at most one list of LRPs
  pub one_points : (M : Map) (ls : List ℕ) (i : ℕ) (js ks : List ℕ) → FollowWith g M ls i js → FollowWith g M ls i ks →
      js ≡ ks
  -- a path has at most one answer
  pub one_answer : OfPaths (λ M P. (A B : Answer) → EncodesWith g M P A → EncodesWith g M P B → A ≡ B)
  -- and at least one
  pub some_answer : OfPaths (λ M P. (A : Answer) × EncodesWith g M P A)
  -- the reference of an answer fits its bits, so that it can be encoded as bytes
  pub answer_fits : OfReferences g (λ M P r. IsReference r)
  -- if the offsets leave a part of the path, at least two LRPs remain
  pub two_kept : (M : Map) (ls js : List ℕ) (positive negative : ℕ) → FollowWith g M ls 0 js →
      last_position 0 js ≡ length ls → positive + negative < dm_of M ls →
      first_kept (legs M ls) positive js < last_kept (legs M ls) negative js
  -- and the routes between them join to the path
  pub routes_join : (M : Map) → IsSoundFor g M → (ls js : List ℕ) (positive negative : ℕ) → FollowWith g M ls 0 js →
      last_position 0 js ≡ length ls → Joins M ls (kept_points (legs M ls) positive negative js)
  -- and to the same lines on another map that has no other roads, if what its lengths differ by is within the margin
  pub routes_join_elsewhere : (M N : Map) → IsMap M → IsMap N → HasNoOther M N → (a b : ℕ) → IsTrue (suffices g a b) →
      (ls js : List ℕ) (positive negative : ℕ) → FollowWith g M ls 0 js →
      IsNearlyAlong a b M N (stretch ls (first_kept (legs M ls) positive js) (last_kept (legs M ls) negative js)) →
      Joins N ls (kept_points (legs M ls) positive negative js)
  -- if the path's own line is distinct at each LRP, every receiver recovers the legs between the LRPs, and nothing else
  pub recovered : (R : Receiver) → OfReferences g (λ M P r. DistinctWith g R.far M P r → (ws : List (List ℕ)) →
      Recovers R M r ws ↔ IsStretchesWith g M P ws)
  -- and on another map that has the path's lines, and within reach of each leg no others than ours, if what its lengths and
  -- classes differ by is within the margin: there each leg of an answer is recovered from the path's own lines at its LRPs,
  -- by the reference of the first map
  pub recovered_elsewhere : (M N : Map) → IsMap M → IsMap N → (a b : ℕ) → IsTrue (suffices g a b) → (P : Path) →
      IsTrue (is_path P.lines) → (r : Reference) → EncodesWith g M P (Points r) → KeptLines g M P (HasAlong a M N) →
      KeptLines g M P (HasClasses g M N) → KeptLegs g M P (LegHasOurs g b M N) →
      OfPathWith g M P (λ E _ _ js. (r ≡ reference_with g (legs M E.lines) E.pos E.neg js)
      × RecoversLegs g M N E.lines (kept_points (legs M E.lines) E.pos E.neg js))
  -- and on one that splits roads: there each leg is recovered as the roads of its lines, from the first line of the road of
  -- the path's own line at each LRP
  pub recovered_on_roads : (M N : Map) → IsMap M → IsMap N → (a b : ℕ) → IsTrue (suffices g a b) → (chain : ℕ → List ℕ) →
      (P : Path) → IsTrue (is_path P.lines) → (r : Reference) → EncodesWith g M P (Points r) →
      KeptLines g M P (HasRoadsAlong g a M N chain) → HasKeptRoads g b M N chain P →
      OfPathWith g M P (λ E _ _ js. (r ≡ reference_with g (legs M E.lines) E.pos E.neg js)
      × RecoversRoads g M N chain E.lines (kept_points (legs M E.lines) E.pos E.neg js))

pub record FieldLaws : Type 0 where
  -- a direction is in at most one sector
  pub one_sector : (east north : ℤ) (j k : ℕ) → IsSector east north j → IsSector east north k → j ≡ k
  -- each direction but (0, 0) is in the sector that is computed
  pub some_sector : (east north : ℤ) → ¬ ((east ≡ pos 0) × (north ≡ pos 0)) → IsSector east north (sector east north)
  -- a reference encodes as at most one sequence of bytes, and as one if its fields fit their bits
  pub one_byte_form : (r : Reference) (b c : List ℕ) → HasBytes r b → HasBytes r c → b ≡ c
  -- no bytes decode to two references
  pub one_decoding : (r s : Reference) (b : List ℕ) → HasBytes r b → HasBytes s b → r ≡ s
  -- and bytes have no fault exactly if some reference encodes as them
  pub no_fault : (b : List ℕ) → All (λ byte. byte < 256) b → (v3_fault b ≡ None) ↔ ((r : Reference) × HasBytes r b)

pub record LocalityLaws (g : Margin) : Type 0 where
  -- on a map that agrees on the footprint and on the path's own lines the answer is the same
  pub local_answer : (M N : Map) → IsMap M → IsMap N → (P : Path) → IsTrue (is_path P.lines) →
      Agree M N P.lines (FootWith g M P) → (A : Answer) → EncodesWith g M P A → EncodesWith g N P A
  -- and the footprint is the same
  pub local_foot : (M N : Map) → IsMap M → IsMap N → (P : Path) → IsTrue (is_path P.lines) →
      Agree M N P.lines (FootWith g M P) → (v : ℕ) → FootWith g M P v ↔ FootWith g N P v
  -- after an edit that touches no node of the footprint and no line of the path, the maps agree
  pub edits_are_local : (M N : Map) (e : Edit) (P : Path) → edited M e ≡ Ok N →
      ((v : ℕ) → IsTrue (has (touched_nodes M e) v) → ¬ FootWith g M P v) →
      ((x : ℕ) → IsTrue (has (touched_lines e) x) → IsFalse (has P.lines x)) → Agree M N P.lines (FootWith g M P)

pub record ChangeLaws : Type 0 where
  -- an accepted edit makes no other difference than what it touches and changes
  pub edits_differ : (M N : Map) (e : Edit) → edited M e ≡ Ok N →
      Difference (touched_nodes M e) (touched_lines e) (changes_of M e) M N
  -- there is no difference between a map and itself
  pub no_difference : (M : Map) → Difference [] [] [] M M
  -- and the differences of two consecutive changes add up
  pub differences_add : (L M N : Map) (T U X Y : List ℕ) (C D : List ChangedLine) → Difference T X C L M →
      Difference U Y D M N → Difference (T ++ U) (X ++ Y) (C ++ D) L N
  -- if one of two maps has no detour within a length, the routes within this length are the same on both
  pub all_routes_stay : (M N : Map) (C : List ChangedLine) (s t d : ℕ) → AccountsFor C M N → AccountsFor C N M →
      ¬ Detour N C s t d → (xs : List ℕ) →
      ((IsRoute M s t xs × (dm_of M xs ≤ d)) ↔ (IsRoute N s t xs × (dm_of N xs ≤ d)))
  -- so a route of the same length on both maps is the unique shortest path on both or on neither
  pub soles_stay : (M N : Map) (C : List ChangedLine) (s t d : ℕ) → AccountsFor C M N → AccountsFor C N M →
      ¬ Detour N C s t d → (xs : List ℕ) → dm_of M xs ≡ dm_of N xs → dm_of M xs ≤ d →
      UniqueShortest M s t xs ↔ UniqueShortest N s t xs
  -- a touched node is near on both maps or on neither
  pub near_stays : (M N : Map) (T : List ℕ) → ((v : ℕ) → IsFalse (has T v) → SameRound M N v) → (s d : ℕ) →
      Near M T s d ↔ Near N T s d

-- the answer of a path, its traversed nodes and its coverage queries are the same on both maps
abbrev pub IsRetained : Margin → Map → Map → Path → List CoverageQuery → Type 0
IsRetained g M N P queries =
    ((A : Answer) → EncodesWith g M P A → EncodesWith g N P A) × ((v : ℕ) → TraversedOf M P v ↔ TraversedOf N P v)
    × QueriesOfWith g N P queries

pub record QueryLaws (g : Margin) : Type 0 where
  -- from each position with two or more lines after it there is exactly one last position that is tested
  pub one_last_tested : (M : Map) (ls : List ℕ) (i j k : ℕ) → IsLastTestedWith g M ls i j → IsLastTestedWith g M ls i k →
      j ≡ k
  pub some_last_tested : (M : Map) → IsMap M → (ls : List ℕ) (i : ℕ) → i + 1 < length ls →
      (k : ℕ) × IsLastTestedWith g M ls i k
  -- so a path has exactly one list of coverage queries
  pub one_queries : OfPaths (λ M P. (ks ls : List CoverageQuery) → QueriesOfWith g M P ks → QueriesOfWith g M P ls → ks ≡ ls)
  pub some_queries : OfPaths (λ M P. (queries : List CoverageQuery) × QueriesOfWith g M P queries)
  -- the footprint is the traversed nodes, and the nodes that the coverage queries reach
  pub foot_is_queried : OfPaths (λ M P. (queries : List CoverageQuery) → QueriesOfWith g M P queries → (v : ℕ) →
      FootWith g M P v ↔ (TraversedOf M P v ⊎ ((l : CoverageQuery) × Contains queries l × Sees M l v)))
  -- so a footprint has a touched node exactly if a traversed node is touched, or a coverage query reaches a touched node
  -- on the changed map
  pub foot_affected : (M N : Map) → IsMap M → (T : List ℕ) → ((v : ℕ) → IsFalse (has T v) → SameRound M N v) →
      (P : Path) → IsTrue (is_path P.lines) → (queries : List CoverageQuery) → QueriesOfWith g M P queries →
      ((v : ℕ) × IsTrue (has T v) × FootWith g M P v) ↔
      (((v : ℕ) × IsTrue (has T v) × TraversedOf M P v)
      ⊎ ((l : CoverageQuery) × Contains queries l × Near N T l.from l.within))
  -- if the coverage query from line i is clear, it is the same on both maps, and of the positions that are near enough
  -- the same are covered on both
  pub queries_stay : (M N : Map) → IsSoundFor g M → IsSoundFor g N → (C : List ChangedLine) → AccountsFor C M N →
      AccountsFor C N M → (ls : List ℕ) → AllByRecursion (SameLine M N) ls → (s t : ℕ) → IsRoute M s t ls →
      (i k : ℕ) → IsLastTestedWith g M ls i k → IsClear N C (query_to_with g M ls i k) →
      IsLastTestedWith g N ls i k × (query_to_with g M ls i k ≡ query_to_with g N ls i k)
      × ((j : ℕ) → i < j → j ≤ length ls → dm_of M (stretch ls i j) ≤ limit →
      CoveredWith g M ls i j ↔ CoveredWith g N ls i j)
  -- if a coverage query along a path's own lines is clear, it is right on both maps
  pub known_stays : (M N : Map) (C : List ChangedLine) → AccountsFor C M N → AccountsFor C N M → (ls : List ℕ)
      (e : KnownQuery) → IsKnownWith g M ls e → IsClear N C e.query → IsKnownWith g N ls e
  -- if no traversed node of a path is touched, none of its lines is different, and each of its coverage queries is clear,
  -- then its answer, traversed nodes and coverage queries are the same on both maps
  pub answers_retained : (M N : Map) → IsMap M → IsMap N → (C : List ChangedLine) → AccountsFor C M N →
      AccountsFor C N M → (P : Path) → IsTrue (is_path P.lines) → AllByRecursion (SameLine M N) P.lines →
      ((v : ℕ) → TraversedOf M P v → SameRound M N v) → (queries : List CoverageQuery) → QueriesOfWith g M P queries →
      All (IsClear N C) queries → IsRetained g M N P queries
  -- and so are those of its coverage queries that are known, whatever else has changed
  pub known_retained : (M N : Map) (C : List ChangedLine) → AccountsFor C M N → AccountsFor C N M → (ls : List ℕ)
      (queries : List CoverageQuery) → All (IsClear N C) queries → (ks : List KnownQuery) →
      KnownOfWith g M ls queries ks → KnownOfWith g N ls queries ks
  -- the same conclusion as of answers_retained, from what the edits touch and change
  pub untouched_retained : (M N : Map) → IsMap M → IsMap N → (T X : List ℕ) (C : List ChangedLine) →
      Difference T X C M N → (P : Path) → IsTrue (is_path P.lines) →
      ((x : ℕ) → IsTrue (has X x) → IsFalse (has P.lines x)) → ((v : ℕ) → IsTrue (has T v) → ¬ TraversedOf M P v) →
      (queries : List CoverageQuery) → QueriesOfWith g M P queries → All (IsClear N C) queries →
      IsRetained g M N P queries
