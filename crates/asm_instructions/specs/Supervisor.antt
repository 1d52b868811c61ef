-- Rules of CSR instructions, fences, and the supervisor's instructions (unprivileged ISA 20191213, 2.7, 9.1; Privileged 3.3, 4.2.1).
use Rattle.std.specs.Prelude.{ℕ, nat_le, Bool, true, false, ◌&&◌, ◌||◌, ◌==◌, if◌then◌else◌, List, [], ◌∷◌, Option, Some, None, Result, Ok, Err}
use Rattle.std.specs.List.{list_all}
use Rattle.asm_expressions.specs.declared.faults.Wrong.{Wrong}
use Rattle.asm_expressions.specs.declared.faults.Wrong.TheVariants.{BadOperands, OutOfRange, SipWrite}
use Rattle.asm_tokens.specs.Readings.{TokenSpot}
use Rattle.asm_tokens.specs.Statements.{is_comma}
use Rattle.asm_tokens.specs.Tokens.{Lexeme}
use Rattle.asm_tokens.specs.Tokens.Lexeme.{Word}
use Rattle.rv64_instructions.specs.declared.csr.CsrHow.{CsrHow}
use Rattle.rv64_instructions.specs.declared.csr.CsrHow.TheVariants.{Set, Clear}
use Rattle.rv64_instructions.specs.declared.csr.CsrSource.{CsrSource}
use Rattle.rv64_instructions.specs.declared.csr.CsrSource.TheVariants.{Register, Immediate}
use Rattle.rv64_instructions.specs.declared.instruction.Instruction.{Instruction}
use Rattle.rv64_instructions.specs.declared.instruction.Instruction.TheVariants as does
use Rattle.rv64_instructions.specs.CsrSources.{writes_csr}
use Rattle.asm_instructions.specs.declared.made.Made.{Made}
use Rattle.asm_instructions.specs.declared.made.Made.TheVariants as made
use Rattle.asm_instructions.specs.declared.operands.CsrName.{CsrName}
use Rattle.asm_instructions.specs.declared.operands.CsrName.TheVariants.{Kept, Sip}
use Rattle.asm_instructions.specs.declared.operands.Operand.{Operand}
use Rattle.asm_instructions.specs.declared.operands.Operands.{Operands}
use Rattle.asm_instructions.specs.declared.operands.Operands.TheVariants.{Nothing, One, Two, Three}
use Rattle.asm_instructions.specs.Compute.{shaped}
use Rattle.asm_instructions.specs.Steps.{◌>>=◌}
use Rattle.asm_instructions.specs.Shapes.{csr_of, register_of, two_registers, plain_value}

-- ---- CSRs

abbrev pub clear_made : CsrHow → (rd : ℕ) → CsrSource → Result Made Wrong
clear_made Clear rd from = if rd == 0 then Ok (made.One (does.ClearSip from)) else Err SipWrite
clear_made how rd from = Err SipWrite

-- of sip an instruction reads, or it clears and has no result (profile)
abbrev pub sip_made : CsrHow → (rd : ℕ) → CsrSource → Result Made Wrong
sip_made how rd from = if writes_csr how from then clear_made how rd from else Ok (made.One (does.ReadSip rd))

abbrev pub csr_made : CsrHow → CsrName → (rd : ℕ) → CsrSource → Result Made Wrong
csr_made how (Kept csr) rd from = Ok (made.One (does.Csr how csr rd from))
csr_made how Sip rd from = sip_made how rd from

abbrev pub registered : Option ℕ → Result CsrSource Wrong
registered None = Err BadOperands
registered (Some register) = Ok (Register register)

abbrev pub register_source : (takes_register : Bool) → Operand → Result CsrSource Wrong
register_source takes_register operand =
    if takes_register then registered (register_of operand) else Err BadOperands

abbrev pub source_by : (takes_register : Bool) → Operand → Option ℕ → Result CsrSource Wrong
source_by takes_register operand (Some n) = if nat_le 32 n then Err OutOfRange else Ok (Immediate n)
source_by takes_register operand None = register_source takes_register operand

-- an immediate of 5 bits, or a register
abbrev pub source : (takes_register : Bool) → Operand → Result CsrSource Wrong
source takes_register operand = source_by takes_register operand (plain_value operand)

abbrev pub csr_rule : CsrHow → (takes_register : Bool) → Operands → Result Made Wrong
csr_rule how takes_register (Three first second third) = do
  rd ← shaped (register_of first)
  name ← shaped (csr_of second)
  from ← source takes_register third
  csr_made how name rd from
csr_rule how takes_register operands = Err BadOperands

abbrev pub read_csr_rule : Operands → Result Made Wrong
read_csr_rule (Two first second) = do
  rd ← shaped (register_of first)
  name ← shaped (csr_of second)
  csr_made Set name rd (Register 0)
read_csr_rule operands = Err BadOperands

abbrev pub write_csr_rule : CsrHow → (takes_register : Bool) → Operands → Result Made Wrong
write_csr_rule how takes_register (Two first second) = do
  name ← shaped (csr_of first)
  from ← source takes_register second
  csr_made how name 0 from
write_csr_rule how takes_register operands = Err BadOperands

-- ---- fences

abbrev pub sfence_rule : Operands → Result Made Wrong
sfence_rule Nothing = Ok (made.One (does.SfenceVma 0 0))
sfence_rule (One first) = do
  rs1 ← shaped (register_of first)
  Ok (made.One (does.SfenceVma rs1 0))
sfence_rule operands = do
  r ← shaped (two_registers operands)
  Ok (made.One (does.SfenceVma r.0 r.1))

-- a letter of `iorw`
abbrev pub is_order : ℕ → Bool
is_order b = (b == 105) || (b == 111) || (b == 114) || (b == 119)

abbrev pub is_access_set : Lexeme → Bool
is_access_set (Word word) = list_all is_order word
is_access_set lexeme = false

-- whether tokens are two sets of accesses with a comma between them, or nothing
abbrev pub is_of_fence : List TokenSpot → Bool
is_of_fence [] = true
is_of_fence (first ∷ comma ∷ second ∷ []) =
    is_access_set first.lexeme && is_comma comma.lexeme && is_access_set second.lexeme
is_of_fence tokens = false

abbrev pub fence_rule : List TokenSpot → Result Made Wrong
fence_rule tokens = if is_of_fence tokens then Ok (made.One does.Fence) else Err BadOperands

-- ---- instructions without operands

abbrev pub alone_rule : Instruction → Operands → Result Made Wrong
alone_rule instruction Nothing = Ok (made.One instruction)
alone_rule instruction operands = Err BadOperands
