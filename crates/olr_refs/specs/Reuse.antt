-- Coverage queries, each of which is known or searched.
--     own_of ls r      the path's own lines, which are some of the lines ls of an extended path
--     IsReuse g M ls r      the known queries are right along the path's own lines
--     IsAnswered g M ls r i f      f is the coverage query of the LRP i, and what it shows
--     Queried g M ls r is q      q are the coverage queries of the LRPs is, and some of them that are along the path's
--         own lines
use Rattle.std.specs.Prelude.{ℕ, ◌+◌, ◌≤◌, List, [], ◌∷◌, length, IfSome}
use Rattle.olr_spec.specs.Margins.{Margin}
use Rattle.olr_spec.specs.Map.{Map}
use Rattle.olr_spec.specs.Points.{stretch}
use Rattle.olr_spec.specs.Queries.{IsQueryWith, QueriesFromWith, querying, AreKnownWith, IsKnownOfWith, KnownOfWith}
use Rattle.olr_refs.specs.Along.{IsReach}
use Rattle.olr_refs.specs.declared.chosen.Queries.{Queries}
use Rattle.olr_refs.specs.declared.reuse.Found.{Found}
use Rattle.olr_refs.specs.declared.reuse.Reuse.{Reuse}

abbrev pub own_of : List ℕ → Reuse → List ℕ
own_of ls r = stretch ls r.lead (r.lead + r.own)

pub record IsReuse (g : Margin) (M : Map) (ls : List ℕ) (r : Reuse) : Type 0 where
  pub inside : r.lead + r.own ≤ length ls
  pub few : r.own ≤ 10000
  pub known : AreKnownWith g M (own_of ls r) r.known.now

pub record IsAnswered (g : Margin) (M : Map) (ls : List ℕ) (r : Reuse) (i : ℕ) (f : Found) : Type 0 where
  pub reach : IsReach g M ls i f.reach
  pub query : IsQueryWith g M ls i f.query
  pub own : IfSome f.own (IsKnownOfWith g M (own_of ls r) (f.query ∷ []))

pub record Queried (g : Margin) (M : Map) (ls : List ℕ) (r : Reuse) (is : List ℕ) (q : Queries) : Type 0 where
  pub each : QueriesFromWith g M ls (querying ls is) q.all.items
  pub own : KnownOfWith g M (own_of ls r) q.all.items q.own.items
