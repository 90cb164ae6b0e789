use Rattle.olr_spec.proofs.Common.{◌+◌, pos, refl, arith, ints}
use Rattle.olr_bearing.proofs.Turns.{nowhere_sector, quarter_is}
use Rattle.olr_bearing.proofs.sectors.sector.Goals as goal

pub returns-then-north-eq0 : goal.returns-then-north-eq0
returns-then-north-eq0 c = grind (arith, nowhere_sector, ints)

pub returns-then-north-gt0 : goal.returns-then-north-gt0
returns-then-north-gt0 c =
    let q = c.quarter_sector in
    let k = quarter_is 0 c.args.east c.args.north (pos c.unsigned_abs-east_west.result) (pos c.unsigned_abs-north_south.result)
    q.result q.result (omega arith) q.ensures.below q.ensures.between (omega arith) (omega (arith, ints)) (omega (arith, ints))
    (λ z. omega (arith, ints, z.1)) in
    record { value = k.0; between = λ _. k.1; below = k.1.0 }

pub returns-then-east-gt0 : goal.returns-then-east-gt0
returns-then-east-gt0 c =
    let q = c.quarter_sector-then-east-gt0 in
    let k = quarter_is 1 c.args.east c.args.north (pos c.unsigned_abs-north_south.result) (pos c.unsigned_abs-east_west.result)
    q.result (8 + q.result) (omega arith) q.ensures.below q.ensures.between refl (omega (arith, ints)) (omega (arith, ints))
    (λ z. omega (arith, ints, z.0)) in
    record { value = k.0; between = λ _. k.1; below = k.1.0 }

pub returns-then-north-lt0 : goal.returns-then-north-lt0
returns-then-north-lt0 c =
    let q = c.quarter_sector-then-north-lt0 in
    let k = quarter_is 2 c.args.east c.args.north (pos c.unsigned_abs-east_west.result) (pos c.unsigned_abs-north_south.result)
    q.result (16 + q.result) (omega arith) q.ensures.below q.ensures.between refl (omega (arith, ints)) (omega (arith, ints))
    (λ z. omega (arith, ints, z.1)) in
    record { value = k.0; between = λ _. k.1; below = k.1.0 }

pub returns-else-north-lt0 : goal.returns-else-north-lt0
returns-else-north-lt0 c =
    let q = c.quarter_sector-else-north-lt0 in
    let k = quarter_is 3 c.args.east c.args.north (pos c.unsigned_abs-north_south.result) (pos c.unsigned_abs-east_west.result)
    q.result (24 + q.result) (omega arith) q.ensures.below q.ensures.between refl (omega (arith, ints)) (omega (arith, ints))
    (λ z. omega (arith, ints, z.0)) in
    record { value = k.0; between = λ _. k.1; below = k.1.0 }
