-- The state after a system reset (SBI 10).
use Rattle.std.specs.Prelude.{◌≡◌, ℕ, false, List, [], ◌∷◌, ◌==◌, ◌&&◌, if◌then◌else◌, None, Err}
use Rattle.sbi_abi.specs.declared.reset.Reset.{Reset}
use Rattle.hsm.specs.Harts.{resting, starting}
use Rattle.sv39.specs.Memory.{zero_memory}
use Rattle.board_core.specs.Opening.{Opening}
use Rattle.board_terms.specs.declared.op.Actor.{Actor}
use Rattle.board_terms.specs.declared.op.Op.{Op}
use Rattle.board_terms.specs.declared.reply.Refusal.TheVariants.{Off}
use Rattle.board_core.specs.Csrs as csrs
use Rattle.board_core.specs.Fences as fences
use Rattle.board_core.specs.History.{Event}
use Rattle.board_core.specs.Interrupts as interrupts
use Rattle.board_core.specs.Memory as memories
use Rattle.board_core.specs.Replies.{answer}
use Rattle.board_core.specs.Resets.{begins_anew, is_cold}
use Rattle.board_core.specs.Starts as begun

-- A board after a reset: its past is `now`, and was `past` before the reset (SBI 10.1; what a reset changes: profile).
pub record IsFresh (o : Opening) (reset : Reset) (past now : List Event) : Type 0 where
  -- Each hart is STOPPED, and has no entry point. After a reboot the boot hart's start is pending, with the boot
  -- address and the boot's opaque value.
  pub harts : (h : ℕ) → begun.hart_of o now h
      ≡ (if begins_anew reset.kind && (h == o.config.boot_hart) then starting
      (record { addr = o.config.boot_addr; opaque = o.config.boot_opaque }) else resting)
  -- After a reboot only that start counts, and after a shutdown none. No entry counts, not even one before the opening.
  pub starts : begun.starts o now ≡ (if begins_anew reset.kind then begun.boot_start o.config ∷ [] else [])
  pub entries : begun.entries o now ≡ []
  pub entered : begun.entered_before o now ≡ 0
  -- No hart's interrupts are enabled, by sstatus.SIE or by sie.
  pub sstatus_sie : (h : ℕ) → csrs.sstatus_sie o now h ≡ false
  pub sie : (h : ℕ) → csrs.sie o now h ≡ csrs.none_enabled
  -- No software interrupt is pending, and no hart has a deadline.
  pub ssip : (h : ℕ) → interrupts.ssip o now h ≡ false
  pub deadline : (h : ℕ) → interrupts.deadline o now h ≡ None
  -- satp of each hart is 0.
  pub satp : (h : ℕ) → memories.satp o now h ≡ 0
  -- Nothing is live in any hart's TLB or instruction cache.
  pub tlb : (h : ℕ) → (memories.caches_of o now h).tlb.live ≡ []
  pub fetched : (h : ℕ) → (memories.caches_of o now h).words.live ≡ []
  -- No fence waits at any hart, and no hart is in a fence call.
  pub waiting : (h : ℕ) → fences.waiting o now h ≡ []
  pub outstanding : (h : ℕ) → fences.outstanding o now h ≡ None
  -- After a cold reboot every word of the memory is 0; other resets don't change the memory.
  pub memory : (at : ℕ)
      → memories.memory o now at
      ≡ (if is_cold reset.kind then zero_memory o.config.pages at else memories.memory o past at)
  -- The time doesn't change.
  pub time : interrupts.time o now ≡ interrupts.time o past
  -- After a shutdown each step of each actor is refused, since the power is off.
  pub off : begins_anew reset.kind ≡ false → (actor : Actor) (op : Op) → answer o now actor op ≡ Err Off
