-- Values from immediates (unprivileged ISA 20191213, 2.3, 2.4, 5.2).
use Rattle.std.specs.Prelude.{ℕ, ℤ, ◌+◌, ◌*◌, ◌%◌, ◌^◌}
use Rattle.std.specs.Int.{cast_unsigned, w64}
use Rattle.rv64_alu.specs.Words.{extended}

-- a signed immediate as an operand: its sign-extension
abbrev pub immediate : ℤ → ℕ
immediate imm = cast_unsigned w64 imm

-- LUI: the immediate of 20 bits above 12 zeros, sign-extended
abbrev pub lui : ℕ → ℕ
lui imm = extended (imm * 2 ^ 12)

-- AUIPC: the same, plus the address of the instruction
abbrev pub auipc : (pc imm : ℕ) → ℕ
auipc pc imm = (pc + lui imm) % 2 ^ 64
