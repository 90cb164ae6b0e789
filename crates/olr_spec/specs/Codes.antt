-- How the mathematical records are stored as one value, which the compiler needs for each `impl Model` with such a
-- value.
--     coded_coord, coded_shape_point, coded_line, coded_map
use Rattle.std.specs.Prelude.{ℕ, ℤ, List}
use Rattle.std.specs.Coded.{Coded, code_by, coded_ℕ, coded_ℤ, coded_list, coded×}
use Rattle.std.specs.Ordering.{nat_cmp}
use Rattle.std.specs.FinMap.{FinMap, code}
use Rattle.std.proofs.Common.{refl}
use Rattle.olr_spec.specs.Coordinates.{Coord}
use Rattle.olr_spec.specs.Map.{ShapePoint, Line, Map}

abbrev pub coded_coord : Coded Coord
coded_coord =
    code_by (ℤ × ℤ) (coded× coded_ℤ coded_ℤ) (λ c. (c.lon, c.lat)) (λ p. record { lon = p.0; lat = p.1 }) (λ _. refl)

abbrev pub coded_shape_point : Coded ShapePoint
coded_shape_point =
    code_by (ℕ × Coord) (coded× coded_ℕ coded_coord) (λ s. (s.at, s.place)) (λ p. record { at = p.0; place = p.1 })
    (λ _. refl)

abbrev pub coded_line : Coded Line
coded_line =
    code_by (ℕ × (ℕ × (ℕ × (ℕ × (ℕ × List ShapePoint)))))
    (coded× coded_ℕ (coded× coded_ℕ (coded× coded_ℕ (coded× coded_ℕ (coded× coded_ℕ (coded_list coded_shape_point))))))
    (λ l. (l.from, (l.to, (l.frc, (l.fow, (l.len, l.shape))))))
    (λ p. record { from = p.0; to = p.1.0; frc = p.1.1.0; fow = p.1.1.1.0; len = p.1.1.1.1.0; shape = p.1.1.1.1.1 })
    (λ _. refl)

abbrev pub coded_map : Coded Map
coded_map =
    code_by (FinMap nat_cmp Coord × FinMap nat_cmp Line) (coded× (code coded_ℕ coded_coord) (code coded_ℕ coded_line))
    (λ m. (m.nodes, m.lines)) (λ p. record { nodes = p.0; lines = p.1 }) (λ _. refl)
