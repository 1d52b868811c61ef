-- The state of a guest of instructions (unprivileged ISA 20191213, 2.1; Privileged 4.1; that a register can be unknown: profile).
use Rattle.std.specs.Prelude.{ℕ, Bool, true, false, ◌==◌, if◌then◌else◌, List, None, get_or, replicate, slice_set}
use Rattle.std.specs.Int.{w64}
use Rattle.rv64_alu.specs.Functions.{low_sum}
use Rattle.asm_guests.specs.declared.csrs.GuestCsrs.{GuestCsrs}
use Rattle.asm_guests.specs.declared.state.RegisterContent.{RegisterContent}
use Rattle.asm_guests.specs.declared.state.GuestState.{GuestState}

-- ---- what a register holds; an unknown value counts as 0

abbrev pub known : ℕ → RegisterContent
known n = record { value = n; is_known = true }

abbrev pub unknown : RegisterContent
unknown = record { value = 0; is_known = false }

-- nothing is known of any register
abbrev pub none_known : List RegisterContent
none_known = replicate 32 unknown

-- ---- registers; x0 is 0 (unprivileged ISA 2.1)

abbrev pub register_content : GuestState → (register : ℕ) → RegisterContent
register_content s r = if r == 0 then known 0 else get_or s.registers r unknown

abbrev pub value_held : GuestState → (register : ℕ) → ℕ
value_held s r = (register_content s r).value

abbrev pub knows : GuestState → (register : ℕ) → Bool
knows s r = (register_content s r).is_known

-- the state with this in a register; x0 isn't written
abbrev pub with_register : GuestState → (register : ℕ) → RegisterContent → GuestState
with_register s r c = if r == 0 then s else record s { registers = slice_set s.registers r c }

-- ---- the program counter

abbrev pub goes_to : GuestState → ℕ → GuestState
goes_to s pc = record s { pc = pc }

-- passed the instruction; each has 4 bytes
abbrev pub passed : GuestState → GuestState
passed s = goes_to s (low_sum w64 s.pc 4)

-- ---- entries

-- the CSRs at an entry: satp, sie and sstatus.SIE are 0, as the board has them at a start (SBI 9.1)
abbrev pub entered_csrs : GuestCsrs
entered_csrs = record {
  satp = 0;
  sie = 0;
  interrupts = false;
  interrupts_before = false;
  from_supervisor = false;
  stvec = None;
  sepc = 0;
  scause = 0;
  stval = 0;
  sscratch = 0;
}

-- The state at an entry: the hart's id in a0, the opaque value in a1, and nothing known of the other registers (SBI 9.1, 9.4).
abbrev pub entered : (addr hart opaque : ℕ) → GuestState
entered addr hart opaque =
    with_register (with_register (record { pc = addr; registers = none_known; csrs = entered_csrs }) 10 (known hart)) 11 (known opaque)
