-- Accesses that fence calls missed, event by event (SBI 8; Privileged 4.2.1).
use Rattle.std.specs.Prelude.{◌≡◌, ◌⊎◌, ◌↔◌, ℕ, ◌<◌, ◌==◌, ◌||◌, ◌&&◌, not, Bool, true, List, [], ◌∷◌, ◌++◌, filter, if◌then◌else◌}
use Rattle.std.specs.List.{list_any}
use Rattle.tlb_model.specs.declared.fence.Fence.{Fence}
use Rattle.board_core.specs.History.{Event}
use Rattle.board_core.specs.Memory.{memory, satp}
use Rattle.board_core.specs.Opening.{Opening}
use Rattle.board_laws.specs.Fresh.{is_of_page, is_of_space}
use Rattle.any_tlb.specs.Stale.{IsOtherThan}
use Rattle.access_marks.specs.declared.call_step.CallStep.{CallStep}
use Rattle.access_marks.specs.declared.call_step.CallStep.TheVariants.{Asked, Polled, Dropped, Other}
use Rattle.access_marks.specs.declared.entry_use.EntryUse.{EntryUse}
use Rattle.access_marks.specs.declared.use_watch.UseWatch.{UseWatch}
use Rattle.access_marks.specs.Inside.Calls.{step_of}

-- The page tables give the access another address or fault than its entry: by the hart's present satp, and by that of
-- the access.
abbrev pub IsOther : Opening → List Event → EntryUse → Type 0
IsOther o past of =
    IsOtherThan (memory o past) (satp o past of.at.hart) of.at.address of.kind of.entry
    × IsOtherThan (memory o past) of.satp of.at.address of.kind of.entry

-- whether a fence is of the address, and of the entry's address space
abbrev pub is_of_use : Fence → EntryUse → Bool
is_of_use fence of = is_of_page fence.range of.at.address && is_of_space fence.asid of.satp of.entry.leaf

-- what an event is for fence calls
abbrev pub call_step : Opening → Event → CallStep
call_step o event = step_of o.config event.actor event.op event.reply

-- By this step hart x asked for a fence that is of the access.
abbrev pub Asks : CallStep → EntryUse → (x : ℕ) → Type 0
Asks step of x = (fence : Fence) × (step ≡ Asked x fence) × (is_of_use fence of ≡ true)

-- Hart x asked for a fence that is of the access. The page tables have given the access something else since, and no
-- reset came.
abbrev pub HasAsked : Opening → List Event → EntryUse → (x : ℕ) → Type 0
HasAsked o [] of x = ⊥
HasAsked o (event ∷ past) of x =
    IsOther o (event ∷ past) of
    × ((Asks (call_step o event) of x × IsOther o past of)
    ⊎ (HasAsked o past of x × (call_step o event ≡ Dropped → ⊥)))

-- Such a call succeeded, and the page tables have given the access something else since it was asked.
abbrev pub HasMissed : Opening → List Event → EntryUse → Type 0
HasMissed o [] of = ⊥
HasMissed o (event ∷ past) of =
    IsOther o (event ∷ past) of
    × (HasMissed o past of ⊎ ((x : ℕ) × (call_step o event ≡ Polled x) × HasAsked o past of x))

-- ---- what is kept of an access

-- whether a hart is among these
abbrev pub is_among : List ℕ → (x : ℕ) → Bool
is_among harts x = list_any (λ y. y == x) harts

-- the harts with one more, once
abbrev pub with_hart : (x : ℕ) → List ℕ → List ℕ
with_hart x harts = filter (λ y. not (y == x)) harts ++ x ∷ []

-- the harts that have asked, after a step
abbrev pub asking_after : CallStep → EntryUse → (is_other : Bool) → List ℕ → List ℕ
asking_after (Asked x fence) of is_other harts = if is_other && is_of_use fence of then with_hart x harts else harts
asking_after (Polled x) of is_other harts = harts
asking_after Dropped of is_other harts = []
asking_after Other of is_other harts = harts

-- whether a call has missed the access, after a step
abbrev pub missed_after : CallStep → List ℕ → (is_missed : Bool) → Bool
missed_after (Polled x) harts is_missed = is_missed || is_among harts x
missed_after step harts is_missed = is_missed

-- The watch tells what a history says of its access.
pub record IsWatch (o : Opening) (past : List Event) (w : UseWatch) : Type 0 where
  pub other : (w.is_other ≡ true) ↔ IsOther o past w.of
  pub asking : (x : ℕ) → (is_among w.asking.items x ≡ true) ↔ HasAsked o past w.of x
  pub missed : (w.is_missed ≡ true) ↔ HasMissed o past w.of

-- The watch is of a hart that is there, and tells what a history says of its access.
pub record IsKept (o : Opening) (past : List Event) (w : UseWatch) : Type 0 where
  pub present : w.of.at.hart < o.config.harts
  pub watch : IsWatch o past w
