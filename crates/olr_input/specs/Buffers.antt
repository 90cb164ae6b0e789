-- An output that holds bytes back.
--     pending b, written contents b      what such an output holds back; what was written to it: what its device has, and
--         what is pending
--     Sends before pending later rest      the first bytes that were pending were sent to a device, and the rest are pending
use Rattle.std.specs.Prelude.{◌≡◌, ℕ, Bool, true, false, List, [], ◌∷◌, ◌++◌}
use Rattle.std.specs.Io.KnownBytes.{Appends, append_known}
use Rattle.olr_input.specs.Sessions.{Known}
use Rattle.olr_input.specs.declared.buffered.Buffered.{Buffered}

abbrev pub is_empty : List ℕ → Bool
is_empty [] = true
is_empty (b ∷ bs) = false

abbrev pub pending : {W : Type 0} → Buffered W → List ℕ
pending b = b.pending.items

abbrev pub written : {W : Type 0} → (W → Known) → Buffered W → Known
written contents b = append_known (contents b.device) (pending b)

abbrev pub Sends : Known → List ℕ → Known → List ℕ → Type 0
Sends before pending later rest = (sent : List ℕ) × Appends before later sent × (pending ≡ sent ++ rest)
