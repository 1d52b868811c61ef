-- The harts that an IPI or a remote fence reaches (SBI 7, 8; profile).
use Rattle.std.specs.Prelude.{ℕ, List}
use Rattle.hart_mask.specs.Ids.{ids_where}
use Rattle.hsm.specs.Harts.{Hart}
use Rattle.hsm.specs.States.{is_interruptible}
use Rattle.hsm.specs.Transitions.{hart_at}

-- The set of the harts in an interruptible state (profile).
abbrev pub interruptible_ids : List Hart → List ℕ
interruptible_ids harts = ids_where (λ h. is_interruptible (hart_at harts h).state)
