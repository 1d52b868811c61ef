-- The values of supervisor CSRs (Privileged 4.1, Supervisor CSRs).
use Rattle.std.specs.Prelude.{ℕ, ◌+◌, List, [], ◌∷◌, Bool, false, ◌==◌, ◌&&◌, ◌||◌, if◌then◌else◌, Option, Some}
use Rattle.std.specs.Int.{bit_at}
use Rattle.hart_mask.specs.Ids.{has}
use Rattle.board_rules.specs.Opening.{Opening}
use Rattle.board_rules.specs.declared.sie.Sie.{Sie}
use Rattle.board_rules.specs.History.{Event}
use Rattle.board_terms.specs.declared.op.Op.{Op}
use Rattle.board_terms.specs.declared.op.Op.TheVariants.{WriteSie, WriteSstatusSie, Advance}
use Rattle.board_terms.specs.declared.reply.Reply.{Reply}
use Rattle.board_terms.specs.declared.reply.Reply.TheVariants.{Entry}
use Rattle.board_rules.specs.Course.{is_hart}
use Rattle.board_rules.specs.Resets.{reset_by}
use Rattle.board_rules.specs.States.{is_start_entry, is_starting}
use Rattle.board_rules.specs.Writes.{Write, Here, at_reset, latest}

-- The value that an event writes to sstatus.SIE: a guest's, 0 at each entry (SBI 9.1, 9.4), and 0 at every hart at a
-- reset (profile).
abbrev pub sstatus_sie_by : Op → Reply → Option (Write Bool)
sstatus_sie_by (WriteSstatusSie value) reply = Some (Here value)
sstatus_sie_by Advance (Entry addr hart opaque) = Some (Here false)
sstatus_sie_by op reply = at_reset (reset_by op reply) false

-- Whether sstatus.SIE of a hart is 1: the value of its last write, entry or reset, or the opening's if there was none.
abbrev pub sstatus_sie : Opening → List Event → ℕ → Bool
sstatus_sie o [] h = has o.sstatus_sie h
sstatus_sie o (event ∷ past) h = latest (sstatus_sie_by event.op event.reply) (is_hart h event.actor)
    (sstatus_sie o past h)

-- the bits of a number that sie keeps: SSIE is bit 1, and STIE is bit 5 (Privileged 4.1.3)
abbrev pub sie_of : ℕ → Sie
sie_of value = record { ssie = bit_at value 1 == 1; stie = bit_at value 5 == 1 }

-- sie with no interrupt enabled
abbrev pub none_enabled : Sie
none_enabled = record { ssie = false; stie = false }

-- the bits of sie and sip: software interrupts in bit 1, and timer interrupts in bit 5 (Privileged 4.1.3)
abbrev pub interrupt_bits : (software timer : Bool) → ℕ
interrupt_bits software timer = (if software then 2 else 0) + (if timer then 32 else 0)

-- sie as a guest reads it
abbrev pub bits_of : Sie → ℕ
bits_of sie = interrupt_bits sie.ssie sie.stie

-- whether a pending interrupt is enabled
abbrev pub enables : Sie → (ssip stip : Bool) → Bool
enables sie ssip stip = (sie.ssie && ssip) || (sie.stie && stip)

-- The value that an event writes to sie: a guest's, 0 at the entry of a start, and 0 at every hart at a reset
-- (profile).
abbrev pub sie_by : Op → Reply → (starting : Bool) → Option (Write Sie)
sie_by (WriteSie value) reply starting = Some (Here (sie_of value))
sie_by op reply starting = if is_start_entry op reply starting then Some (Here none_enabled) else at_reset
    (reset_by op reply) none_enabled

-- sie of a hart: the value of its last write, entry of a start, or reset, or the opening's if there was none. A resume
-- doesn't change it (profile).
abbrev pub sie : Opening → List Event → ℕ → Sie
sie o [] h = record { ssie = has o.ssie h; stie = has o.stie h }
sie o (event ∷ past) h =
    latest (sie_by event.op event.reply (is_starting o past event.actor)) (is_hart h event.actor) (sie o past h)
