-- Events after which the same entries and words are possible as before (profile).
use Rattle.std.specs.Prelude.{◌≡◌, ℕ, List, ◌∷◌}
use Rattle.rfence.specs.Applied.{Nothing}
use Rattle.board_core.specs.History.{Event}
use Rattle.board_core.specs.Memory as memories
use Rattle.board_core.specs.Opening.{Opening}
use Rattle.any_tlb.specs.Effects.{effect_at}

-- The event does nothing to the caches of hart h, and changes neither its satp nor the memory.
pub record HasNoEffect (o : Opening) (event : Event) (past : List Event) (h : ℕ) : Type 0 where
  pub effect : effect_at o past event h ≡ Nothing
  pub satp : memories.satp o (event ∷ past) h ≡ memories.satp o past h
  pub memory : memories.memory o (event ∷ past) ≡ memories.memory o past
