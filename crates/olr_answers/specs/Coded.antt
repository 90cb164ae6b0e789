-- How paths are coded, for an `impl Model` whose value holds them.
use Rattle.std.specs.Prelude.{ℕ, List}
use Rattle.std.specs.Coded.{Coded, code_by, coded_ℕ, coded_list, coded×}
use Rattle.std.proofs.Common.{refl}
use Rattle.olr_spec.specs.Extension.{Path}

abbrev pub coded_path : Coded Path
coded_path =
    code_by (List ℕ × (ℕ × ℕ)) (coded× (coded_list coded_ℕ) (coded× coded_ℕ coded_ℕ))
    (λ p. (p.lines, (p.pos, p.neg))) (λ p. record { lines = p.0; pos = p.1.0; neg = p.1.1 }) (λ _. refl)
