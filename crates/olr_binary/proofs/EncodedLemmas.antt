-- Each element of what a reference encodes as is a byte.
use Rattle.olr_binary.proofs.Common.{rules, zero, suc, List, [], ◌∷◌, ◌++◌, slice_index, arith, AllByRecursion, flat_map, First}
use Rattle.olr_binary.proofs.Common.{Middle, Reference, IsMiddle, IsReference, first_bytes, last_bytes, middle_bytes}
use Rattle.olr_binary.proofs.Common.{reference_bytes, IsBytes, AreBytes, flag_below}
use Rattle.olr_spec.proofs.Common.{◌<◌, ℕ, ◌%◌, Option, IfSome, Last, IsFirst, IsLast}

both : (xs ys : List ℕ) → AreBytes xs → AreBytes ys → AreBytes (xs ++ ys)
both [] ys a b = b
both (x ∷ xs) ys a b = (a.0, both xs ys a.1 b)

at : (xs : List ℕ) → AreBytes xs → (i : ℕ) → slice_index xs i < 256
at [] all i = omega arith
at (x ∷ xs) all zero = all.0
at (x ∷ xs) all (suc i) = at xs all.1 i

below : (n : ℕ) → n % 256 < 256
below n = omega arith

first_all : (p : First) → IsFirst p → AreBytes (first_bytes p)
first_all p fit = grind (arith, below)

middle_all : (p : Middle) → IsMiddle p → AreBytes (middle_bytes p)
middle_all p fit = grind (arith, below)

middles_all : (ps : List Middle) → AllByRecursion IsMiddle ps → AreBytes (flat_map middle_bytes ps)
middles_all [] all = tt
middles_all (p ∷ ps) all = both (middle_bytes p) (flat_map middle_bytes ps) (middle_all p all.0) (middles_all ps all.1)

last_all : (p : Last) (m n : Option ℕ) → IsLast p → IfSome m (λ k. k < 256) → IfSome n (λ k. k < 256) →
    AreBytes (last_bytes p m n)
last_all p m n fit some_m some_n = grind (arith, flag_below, below, both)

pub reference_bytes-bytes : (r : Reference) → IsReference r → IsBytes (reference_bytes r)
reference_bytes-bytes r fit = search (rules, arith, both, first_all, middles_all, at, last_all)
