-- The words of a guest, which identify it (profile).
use Rattle.std.specs.Prelude.{ℕ, suc, ◌+◌, ◌*◌, Bool, ◌==◌, if◌then◌else◌, List, [], ◌∷◌, ◌++◌, is_some, unwrap_or}
use Rattle.asm_guests.specs.declared.csrs.GuestCsrs.{GuestCsrs}
use Rattle.asm_guests.specs.declared.guest.AsmGuest.{AsmGuest}
use Rattle.asm_guests.specs.declared.guest.AsmGuest.TheVariants.{Nowhere, Before, Trapping, Through, Astray}
use Rattle.asm_guests.specs.declared.guest.Lost.{Lost}
use Rattle.asm_guests.specs.declared.guest.Lost.TheVariants.{NoInstruction, Endless, NoHandler, UserMode}
use Rattle.asm_guests.specs.declared.state.RegisterContent.{RegisterContent}
use Rattle.asm_guests.specs.declared.state.GuestState.{GuestState}

-- ---- registers: those that hold an unknown 0 are counted, and take no word

-- what a register holds: an unknown 0, a known value, or another unknown value
abbrev pub kind : RegisterContent → ℕ
kind content = if content.is_known then 1 else (if content.value == 0 then 0 else 2)

-- Before each register that isn't an unknown 0: how many of these there were since the one before, and its kind; then its value. At
-- the end: how many there were since.
abbrev pub register_words : (skipped : ℕ) → List RegisterContent → List ℕ
register_words skipped [] = (3 * skipped) ∷ []
register_words skipped (content ∷ more) =
    if kind content == 0 then register_words (suc skipped) more
    else (3 * skipped + kind content) ∷ content.value ∷ register_words 0 more

-- ---- CSRs

abbrev pub flag : Bool → ℕ
flag is_set = if is_set then 1 else 0

abbrev pub csr_words : GuestCsrs → List ℕ
csr_words csrs =
    flag csrs.interrupts ∷ flag csrs.interrupts_before ∷ flag csrs.from_supervisor ∷ flag (is_some csrs.stvec)
    ∷ unwrap_or csrs.stvec 0 ∷ csrs.satp ∷ csrs.sie ∷ csrs.sepc ∷ csrs.scause ∷ csrs.stval ∷ csrs.sscratch ∷ []

-- ---- guests

abbrev pub guest_state_words : GuestState → List ℕ
guest_state_words s = s.pc ∷ csr_words s.csrs ++ register_words 0 s.registers

abbrev pub lost_number : Lost → ℕ
lost_number NoInstruction = 0
lost_number Endless = 1
lost_number NoHandler = 2
lost_number UserMode = 3

-- The words of a guest: its kind, and what it has.
abbrev pub guest_words : AsmGuest → List ℕ
guest_words Nowhere = 0 ∷ []
guest_words (Through registers) = 1 ∷ register_words 0 registers
guest_words (Before s) = 2 ∷ guest_state_words s
guest_words (Trapping s) = 3 ∷ guest_state_words s
guest_words (Astray lost at) = 4 ∷ lost_number lost ∷ at ∷ []
