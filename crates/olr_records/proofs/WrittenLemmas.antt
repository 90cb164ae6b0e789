-- The record of a change is read as this change.
use Rattle.olr_records.proofs.Common.{decimal, if◌then◌else◌, degrees_text, are_attributes, is_named_path, degrees-read}
use Rattle.olr_records.proofs.Common.{list_all, leb-true, Add_node, Add_line, Set_line, Add_path, Set_path, Bad_form, and_parts}
use Rattle.olr_records.proofs.Common.{Edit, Move_node, Drop_node, Drop_line, Drop_path, is_number, is_amount, digits_decimal}
use Rattle.olr_records.proofs.Common.{fields_of_coord, fields_of_shape, fields_of_path, value_or_fault, Coord, has_degrees_text}
use Rattle.olr_records.proofs.Common.{fields_of_change, digits_value-decimal, decimal_nonempty, degrees, ShapePoint, coordinate}
use Rattle.olr_records.proofs.Common.{node_record, attributes, path_fields, has_record, Path, Make, Field, max32, class, place}
use Rattle.olr_records.proofs.Common.{name, point, shape, ◌⊛◌, edit, read, own, Change, On_map, is_name, number, amount}
use Rattle.olr_records.proofs.Common.{numbers, is_place, is_point, le-leb, Set_margin, ◌≡◌, ℕ, ◌<◌, ◌^◌, ℤ, Bool, true, ◌&&◌}
use Rattle.olr_records.proofs.Common.{List, [], ◌∷◌, map, Ok, nat_le, IsTrue, refl, ◌∙◌, arith, digits}
use Rattle.std.specs.Prelude.{Err}
use Rattle.olr_records.proofs.TestLemmas.{and_three, and_four, and_five}

-- ---- fields

digits_back : (low high n : ℕ) → high < 2 ^ 64 → nat_le low n ≡ true → nat_le n high ≡ true →
    digits low high (decimal n) ≡ Ok n
digits_back low high n wide least most =
    grind (arith, leb-true, le-leb, decimal_nonempty, digits_decimal, own, digits_value-decimal, nat_le)

number_back : (n : ℕ) → IsTrue (is_number n) → number (decimal n) ≡ Ok n
number_back n h = grind (arith, and_parts, nat_le, digits_back)

amount_back : (n : ℕ) → IsTrue (is_amount n) → amount (decimal n) ≡ Ok n
amount_back n h = digits_back 0 max32 n (omega arith) (le-leb 0 n (omega arith)) h

class_back : (n : ℕ) → nat_le n 7 ≡ true → class (decimal n) ≡ Ok n
class_back n h = digits_back 0 7 n (omega arith) (le-leb 0 n (omega arith)) h

coordinate_back : (test : ℤ → Bool) (z : ℤ) → IsTrue (has_degrees_text z) → test z ≡ true →
    coordinate test (degrees (degrees_text z)) ≡ Ok z
coordinate_back test z h t = (λ i. coordinate test (degrees-read z h i)) ∙ (λ i. value_or_fault (t i) z)

place_back : (p : Coord) → IsTrue (is_place p) → place (degrees_text p.lon) (degrees_text p.lat) ≡ Ok p
place_back p h = grind (arith, and_parts, coordinate_back)

point_back : (s : ShapePoint) → IsTrue (is_point s) →
    point (decimal s.at) (degrees_text s.place.lon) (degrees_text s.place.lat) ≡ Ok s
point_back s h = grind (arith, and_three, nat_le, digits_back, place_back)

shape_back : (ss : List ShapePoint) → IsTrue (list_all is_point ss) → shape (fields_of_shape ss) ≡ Ok ss
shape_back [] h = refl
shape_back (s ∷ ss) h = grind (arith, and_parts, point_back, shape_back ss)

numbers_back : (xs : List ℕ) → IsTrue (list_all is_number xs) → numbers (map decimal xs) ≡ Ok xs
numbers_back [] h = refl
numbers_back (x ∷ xs) h = grind (arith, and_parts, number_back, numbers_back xs)

name_back : (f : Field) → IsTrue (is_name f) → name f ≡ Ok f
name_back f h = λ i. if h i then Ok f else Err Bad_form

-- ---- parts of records

node_back : (g : ℕ → Coord → Edit) (v : ℕ) (p : Coord) → IsTrue (is_number v && is_place p) →
    edit (node_record g (decimal v ∷ fields_of_coord p)) ≡ Ok (Make (On_map (g v p)))
node_back g v p h = grind (arith, and_parts, number_back, place_back)

attributes_back : (frc fow len : ℕ) (ss : List ShapePoint) → IsTrue (are_attributes frc fow len ss) →
    attributes (decimal frc) (decimal fow) (decimal len) (fields_of_shape ss) ≡ Ok (frc, fow, len, ss)
attributes_back frc fow len ss h = grind (arith, and_five, nat_le, digits_back, class_back, shape_back)

path_back : (g : List ℕ → Path → Change) (n : List ℕ) (p : Path) → IsTrue (is_named_path n p) →
    (Ok (λ (q : List ℕ × Path). Make (g q.0 q.1)) ⊛ path_fields (fields_of_path n p)) ≡ Ok (Make (g n p))
path_back g n p h = grind (arith, and_four, name_back, amount_back, numbers_back)

-- ---- records

pub record_back : (x : Change) → IsTrue (has_record x) → read (fields_of_change x) ≡ Ok (Make x)
record_back (On_map (Add_node v p)) h = node_back Add_node v p h
record_back (On_map (Move_node v p)) h = node_back Move_node v p h
record_back (On_map (Drop_node v)) h = λ i. edit (Ok (λ n. Drop_node n) ⊛ number_back v h i)
record_back (On_map (Add_line x l)) h = grind (arith, and_four, attributes_back, number_back)
record_back (On_map (Set_line x frc fow len ss)) h = grind (arith, and_parts, number_back, attributes_back)
record_back (On_map (Drop_line x)) h = λ i. edit (Ok (λ n. Drop_line n) ⊛ number_back x h i)
record_back (Add_path n p) h = path_back Add_path n p h
record_back (Set_path n p) h = path_back Set_path n p h
record_back (Drop_path n) h = λ i. Ok (λ n. Make (Drop_path n)) ⊛ name_back n h i
record_back (Set_margin g) h =
    let k = and_parts (nat_le g.routes 1000) (nat_le g.classes 7) h in
    grind (arith, digits_back 0 1000 g.routes (omega arith) (le-leb 0 g.routes (omega arith)) k.0, class_back g.classes k.1)
