-- Why a candidate at the node of the path's own line is an ambiguity.
--     applies c M s x y, named c y      whether line y is one beside line x for the cause c, and which
use Rattle.std.specs.Prelude.{ℕ, Bool}
use Rattle.olr_spec.specs.Map.{Map}
use Rattle.olr_spec.specs.Receiver.{Side}
use Rattle.olr_spec.specs.Ambiguity as spec
use Rattle.olr_ambiguity.specs.declared.finding.Cause.{Cause}
use Rattle.olr_ambiguity.specs.declared.finding.Cause.TheVariants.{Twin, Unclear}

abbrev pub applies : Cause → Map → Side → ℕ → ℕ → Bool
applies Twin = spec.is_twin_of
applies Unclear = spec.is_unclear

abbrev pub named : Cause → ℕ → spec.Obstacle
named Twin y = spec.Same_sector y
named Unclear y = spec.Other_bearing y
