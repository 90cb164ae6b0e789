-- The names that most proofs of olr_route cite, passed on from one place. Declares nothing.
pub use Rattle.olr_route.specs.Labels.{AreLabels, Counts, EndsRoute, IsFound, IsLabel, IsLast, LeastWithin, limit_of}
pub use Rattle.olr_search.specs.declared.distances.Direction.TheVariants.{Against, Along}
pub use Rattle.olr_search.proofs.Common.{AllWithin, Bool, Contains, Contains-here, Contains-one}
pub use Rattle.olr_search.proofs.Common.{FirstSmaller, HoldsAt, IsDistance, IsMap, IsRoute, IsSearch}
pub use Rattle.olr_search.proofs.Common.{IsStrictlyIncreasing, IsTrue, Leads, Least, LiesWithin, Line, List, Map}
pub use Rattle.olr_search.proofs.Common.{None, Option, ResolvedLine, Some, UniqueShortest, [], ap, append-nil, arith}
pub use Rattle.olr_search.proofs.Common.{ascend_in, below_more, cases_lt, distinct_from_ascending, dm, dm_of}
pub use Rattle.olr_search.proofs.Common.{dm_of-append, empty_least, empty_unique, end, eq-eqb, eqb, eqb-true, false}
pub use Rattle.olr_search.proofs.Common.{false≢true, get_or, get_or_append_left, get_or_default, get_or_default_zero}
pub use Rattle.olr_search.proofs.Common.{get_or_push, has_node, inl, inr, is_some, last_first, length, length-append}
pub use Rattle.olr_search.proofs.Common.{lines_in, no_line, no_margin, none-some, one_least, positive}
pub use Rattle.olr_search.proofs.Common.{prefix_of_least, prefix_of_unique, refl, route_start, rules, start, subst}
pub use Rattle.olr_search.proofs.Common.{suc, sym, tests, true, zero, ℕ, ◌++◌, ◌+◌, ◌<◌, ◌↔◌, ◌∙◌, ◌∷◌, ◌≡◌, ◌≤◌}
pub use Rattle.olr_search.proofs.Common.{◌⊎◌}
