-- The instructions of a program, at their addresses.
use Rattle.std.specs.Prelude.{ℕ, zero, suc, ◌+◌, ◌%◌, ◌^◌, List, [], ◌∷◌, ◌++◌}
use Rattle.asm_instructions.specs.declared.made.Made.{Made}
use Rattle.asm_instructions.specs.declared.made.Made.TheVariants.{One, Pair, Times}
use Rattle.rv64_instructions.specs.declared.instruction.Instruction.{Instruction}
use Rattle.asm_program.specs.declared.code.CodeLine.{CodeLine}

-- so many copies of an instruction
abbrev pub copies : (count : ℕ) → Instruction → (at left : ℕ) → List CodeLine
copies zero instruction at left = []
copies (suc count) instruction at left =
    record { at = at; instruction = instruction; left = left } ∷ copies count instruction ((at + 4) % 2 ^ 64) left

-- what the assembler makes of one of the text; each has 4 bytes
abbrev pub code_lines : Made → (at left : ℕ) → List CodeLine
code_lines (One instruction) at left = copies 1 instruction at left
code_lines (Pair first second) at left = copies 1 first at left ++ copies 1 second ((at + 4) % 2 ^ 64) left
code_lines (Times count instruction) at left = copies count instruction at left
