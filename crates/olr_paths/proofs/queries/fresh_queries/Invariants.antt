use Rattle.olr_paths.proofs.Common.{Contains, take, CoverageQuery, BeginsPut, puts_of}
use Rattle.olr_paths.proofs.queries.fresh_queries.Given as goal

-- the coverage queries of the results so far are in the list
abbrev pub invariant-loop-named : goal.invariant-loop-named
invariant-loop-named l = (v : CoverageQuery) → BeginsPut (puts_of (take l.named-index l.fresh)) v →
    Contains l.queries.items v
