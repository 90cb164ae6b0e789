use Rattle.olr_paths.proofs.Common.{Contains, CoverageQuery, items, Begins, ◌⊎◌}
use Rattle.olr_paths.proofs.NamedEntries.{items_of}
use Rattle.olr_paths.proofs.path_list.PathList.queries.Given as goal

-- the coverage queries are in the list, or among those of the paths that are left
abbrev pub invariant-loop-named : goal.invariant-loop-named
invariant-loop-named l = (v : CoverageQuery) → Begins (items l.self) v →
    Contains l.queries.items v ⊎ Begins (items_of l.named-iterator) v
