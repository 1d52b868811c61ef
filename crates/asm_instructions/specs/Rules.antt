-- The rule of each form of operands.
use Rattle.std.specs.Prelude.{ℕ, Bool, true, false, if◌then◌else◌, List, Result, Ok, Err}
use Rattle.asm_expressions.specs.declared.faults.Fault.{Fault}
use Rattle.asm_expressions.specs.declared.faults.Wrong.{Wrong}
use Rattle.asm_expressions.specs.declared.faults.Wrong.TheVariants as wrongs
use Rattle.asm_expressions.specs.Symbols.{Context}
use Rattle.asm_mnemonics.specs.declared.forms.OperandForm.{OperandForm}
use Rattle.asm_mnemonics.specs.declared.forms.OperandForm.TheVariants.{Registers, TurnedRegisters, Immediate, Shift, Lui, Auipc, Load, StoreDouble, StoreNarrow, Amo, Fetch, Branch, TurnedBranch, BranchToZero, BranchFromZero, Jal, Jalr, Goto, JumpRegister, Return, Call, Tail, LoadAddress, LoadImmediate, Nop, FixedImmediate, FromZero, WithZero, Extended, Csr, CsrImmediate, ReadCsr, WriteCsr, WriteCsrImmediate, Fence, FenceTso, FenceI, SfenceVma, Wfi, Ecall, Ebreak, Sret, Refused}
use Rattle.asm_tokens.specs.Readings.{TokenSpot}
use Rattle.rv64_instructions.specs.declared.instruction.Instruction.TheVariants as does
use Rattle.asm_instructions.specs.declared.made.Made.{Made}
use Rattle.asm_instructions.specs.declared.memory.StoreSize.TheVariants.{Double, Narrow}
use Rattle.asm_instructions.specs.declared.operands.Operands.{Operands}
use Rattle.asm_instructions.specs.Compute.{auipc_rule, extended_rule, fixed_immediate_rule, from_zero_rule, immediate_rule, la_rule, li_rule, lui_rule, nop_rule, registers_rule, shift_rule, turned_registers_rule, with_zero_rule}
use Rattle.asm_instructions.specs.Jumps.{branch_rule, branch_zero_rule, call_rule, goto_rule, jal_rule, jalr_rule, jr_rule, return_rule, tail_rule}
use Rattle.asm_instructions.specs.Memory.{amo_rule, fetch_rule, load_rule, store_rule}
use Rattle.asm_instructions.specs.Operands.{operands_in}
use Rattle.asm_instructions.specs.Steps.{◌>>=◌}
use Rattle.asm_instructions.specs.Supervisor.{alone_rule, csr_rule, fence_rule, read_csr_rule, sfence_rule, write_csr_rule}
use Rattle.asm_instructions.specs.Taken.{takes_of}

-- what a form makes of its operands, at an address
unfoldable pub rule_by : OperandForm → (here : ℕ) → Operands → Result Made Wrong
rule_by (Registers op) here operands = registers_rule op operands
rule_by (TurnedRegisters op) here operands = turned_registers_rule op operands
rule_by (Immediate op) here operands = immediate_rule op operands
rule_by (Shift op) here operands = shift_rule op operands
rule_by Lui here operands = lui_rule operands
rule_by Auipc here operands = auipc_rule here operands
rule_by (Load kind) here operands = load_rule kind here operands
rule_by StoreDouble here operands = store_rule Double here operands
rule_by (StoreNarrow name) here operands = store_rule (Narrow name) here operands
rule_by (Amo name) here operands = amo_rule name operands
rule_by Fetch here operands = fetch_rule operands
rule_by (Branch when) here operands = branch_rule when false here operands
rule_by (TurnedBranch when) here operands = branch_rule when true here operands
rule_by (BranchToZero when) here operands = branch_zero_rule when false here operands
rule_by (BranchFromZero when) here operands = branch_zero_rule when true here operands
rule_by Jal here operands = jal_rule here operands
rule_by Jalr here operands = jalr_rule operands
rule_by Goto here operands = goto_rule here operands
rule_by JumpRegister here operands = jr_rule operands
rule_by Return here operands = return_rule operands
rule_by Call here operands = call_rule here operands
rule_by Tail here operands = tail_rule here operands
rule_by LoadAddress here operands = la_rule here operands
rule_by LoadImmediate here operands = li_rule operands
rule_by Nop here operands = nop_rule operands
rule_by (FixedImmediate op immediate) here operands = fixed_immediate_rule op immediate operands
rule_by (FromZero op) here operands = from_zero_rule op operands
rule_by (WithZero op) here operands = with_zero_rule op operands
rule_by (Extended op bits) here operands = extended_rule op bits operands
rule_by (Csr how) here operands = csr_rule how true operands
rule_by (CsrImmediate how) here operands = csr_rule how false operands
rule_by ReadCsr here operands = read_csr_rule operands
rule_by (WriteCsr how) here operands = write_csr_rule how true operands
rule_by (WriteCsrImmediate how) here operands = write_csr_rule how false operands
rule_by Fence here operands = alone_rule does.Fence operands
rule_by FenceTso here operands = alone_rule does.Fence operands
rule_by FenceI here operands = alone_rule does.FenceI operands
rule_by SfenceVma here operands = sfence_rule operands
rule_by Wfi here operands = alone_rule does.Wfi operands
rule_by Ecall here operands = alone_rule does.Ecall operands
rule_by Ebreak here operands = alone_rule does.Ebreak operands
rule_by Sret here operands = alone_rule does.Sret operands
rule_by (Refused refusal) here operands = Err wrongs.Refused

-- what is wrong, at its place
abbrev pub at_mnemonic : (left : ℕ) → Result Made Wrong → Result Made Fault
at_mnemonic left (Ok made) = Ok made
at_mnemonic left (Err wrong) = Err (record { wrong = wrong; left = left })

-- whether the operands of this form are sets of accesses, which aren't values
abbrev pub takes_sets : OperandForm → Bool
takes_sets Fence = true
takes_sets form = false

abbrev pub made_from_operands : Context → OperandForm → (left : ℕ) → List TokenSpot → Result Made Fault
made_from_operands scope form left tokens = do
  operands ← operands_in scope (takes_of form) tokens
  at_mnemonic left (rule_by form scope.here operands)

-- What a form and its operands make; `left` is the place of the mnemonic.
abbrev pub instructions_of : Context → OperandForm → (left : ℕ) → List TokenSpot → Result Made Fault
instructions_of scope form left tokens =
    if takes_sets form then at_mnemonic left (fence_rule tokens)
    else made_from_operands scope form left tokens
