-- What reads leave of a disk.
use Rattle.olr_log.proofs.Common.{◌≡◌, ℕ, ◌+◌, List, ◌++◌, take, drop, refl, ◌∙◌, ap, arith, take-add, IsTrue}
use Rattle.olr_log.proofs.Common.{drop-drop, Ghosts, OnlyReads}

pub OnlyReads-refl : {D : Type 0} (g : Ghosts D) (disk : D) → IsTrue (g.is_usable disk) → OnlyReads g disk disk
OnlyReads-refl g disk usable = record { seen = refl; key = refl; usable = usable; clean = λ clean. clean; less = λ c left. left }

pub OnlyReads-trans : {D : Type 0} (g : Ghosts D) (a b c : D) → OnlyReads g a b → OnlyReads g b c → OnlyReads g a c
OnlyReads-trans g a b c first second = record {
  seen = second.seen ∙ first.seen;
  key = second.key ∙ first.key;
  usable = second.usable;
  clean = λ clean. first.clean (second.clean clean);
  less = λ text left. first.less text (second.less text left);
}

-- the bytes of a block behind those that were read
pub block_behind : (file : List ℕ) (n m at : ℕ) → at ≡ n + 1 → take (n + m) (drop 1 file) ≡ take n (drop 1 file) ++ take m (drop at file)
block_behind file n m at place =
    let up : 1 + n ≡ at = omega (arith, place) in
    take-add n m (drop 1 file) ∙ ap (λ (x : List ℕ). take n (drop 1 file) ++ take m x) (drop-drop n 1 file ∙ ap (λ (j : ℕ). drop j file) up)
