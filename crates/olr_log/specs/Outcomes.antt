-- What a crash may leave of a log: the text with which the next run begins. The number of a file is the key of its disk.
--     LeavesText ..      a disk that has done what it reported may leave a file with this text
--     MayLeave ..      the name of the log may lead to such a file
use Rattle.std.specs.Prelude.{◌≡◌, ◌≢◌, ◌⊎◌, ℕ, Bool, true, List, Option, Some}
use Rattle.sqlite_disk.specs.declared.Disk.{Ghosts}
use Rattle.olr_log.specs.Texts.{text_of}

module _ {D : Type 0} (is_clean : D → Bool) (left_by : D → List ℕ → Type 0) where
  pub record LeavesText (disk : D) (text : List ℕ) : Type 0 where
    pub clean : is_clean disk ≡ true
    pub file : List ℕ
    pub left : left_by disk file
    pub is : text_of file ≡ text

-- The name leads to a file of one of these numbers: to that of the disk, or of its rival, if it isn't known to which of both. Of a
-- file that is neither of them nothing is known, so that any text may be left.
unfoldable pub MayLeave : {D : Type 0} → Ghosts D → (ℕ → Type 0) → D → Option D → List ℕ → Type 0
MayLeave {D} d may_lead disk rival text =
    (may_lead (d.key_of disk) × LeavesText d.is_clean d.may_leave disk text)
    ⊎ ((other : D) × (rival ≡ Some other) × may_lead (d.key_of other) × LeavesText d.is_clean d.may_leave other text)
    ⊎ ((n : ℕ) × may_lead n × (n ≢ d.key_of disk) × ((other : D) → rival ≡ Some other → n ≢ d.key_of other))
