-- The calls on the folder of a log, and to which files they may have left its name. The lists of these calls are apart from those
-- on files.
--     renamed number ok is_refused      the file of this number was given the name; whether it was done, or is known not to be
--     folder_synced ok      the folder was synced
--     newest calls      the number of the file that was renamed last, unless it is known not to have been
--     MayLead calls n      the name may lead to the file of this number, also after a crash
use Rattle.std.specs.Prelude.{◌≡◌, ◌⊎◌, ℕ, zero, suc, Bool, true, false, List, [], ◌∷◌, refl}
use Rattle.std.proofs.Common.{inl}
use Rattle.sqlite_disk.specs.Events.{Event}
use Rattle.sqlite_disk.specs.Refusal.{as_number}

abbrev pub renamed : ℕ → Bool → Bool → Event
renamed number ok is_refused = (1, number, as_number is_refused, ok, [])

abbrev pub folder_synced : Bool → Event
folder_synced ok = (0, 0, 0, ok, [])

abbrev pub newest_by : ℕ → ℕ → ℕ → ℕ → ℕ
newest_by zero number refused before = before
newest_by (suc more) number zero before = number
newest_by (suc more) number (suc refused) before = before

-- of calls of which the newest comes first; the file that was opened has the number 0
abbrev pub newest : List Event → ℕ
newest [] = 0
newest (e ∷ earlier) = newest_by e.0 e.1 e.2 (newest earlier)

-- after one call more, where the name may have led to such files before
abbrev pub LeadsBy : ℕ → ℕ → ℕ → Bool → ℕ → (ℕ → Type 0) → ℕ → Type 0
LeadsBy zero number refused true last Before n = n ≡ last
LeadsBy zero number refused false last Before n = Before n
LeadsBy (suc more) number zero ok last Before n = (n ≡ number) ⊎ Before n
LeadsBy (suc more) number (suc refused) ok last Before n = Before n

abbrev pub MayLead : List Event → ℕ → Type 0
MayLead [] n = n ≡ 0
MayLead (e ∷ earlier) n = LeadsBy e.0 e.1 e.2 e.3 (newest earlier) (MayLead earlier) n

leads_by : (kind number refused : ℕ) (ok : Bool) (last : ℕ) (Before : ℕ → Type 0) → Before last → LeadsBy kind number refused ok last Before (newest_by kind number refused last)
leads_by zero number refused true last Before led = refl
leads_by zero number refused false last Before led = led
leads_by (suc more) number zero ok last Before led = inl refl
leads_by (suc more) number (suc refused) ok last Before led = led

-- it may always lead to the newest
pub newest_leads : (calls : List Event) → MayLead calls (newest calls)
newest_leads [] = refl
newest_leads (e ∷ earlier) = leads_by e.0 e.1 e.2 e.3 (newest earlier) (MayLead earlier) (newest_leads earlier)
