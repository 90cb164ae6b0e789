-- Ambiguities, as those of the specification.
use Rattle.std.specs.Prelude.{ℕ}
use Rattle.olr_spec.specs.Ambiguity as spec
use Rattle.olr_answers.specs.declared.ambiguity.Obstacle.{Obstacle}
use Rattle.olr_answers.specs.declared.ambiguity.Obstacle.TheVariants.{SameSector, OtherBearing, OtherNode}
use Rattle.olr_answers.specs.declared.ambiguity.Found.{Found}

abbrev pub obstacle_of : Obstacle → spec.Obstacle
obstacle_of (SameSector y) = spec.Same_sector y
obstacle_of (OtherBearing y) = spec.Other_bearing y
obstacle_of (OtherNode v) = spec.Other_node v

abbrev pub found_of : Found → ℕ × spec.Obstacle
found_of f = (f.lrp, obstacle_of f.obstacle)
