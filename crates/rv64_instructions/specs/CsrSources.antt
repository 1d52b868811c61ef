-- Whether CSR instructions write (unprivileged ISA 20191213, 9.1).
use Rattle.std.specs.Prelude.{Bool, true, not, ◌==◌}
use Rattle.rv64_instructions.specs.declared.csr.CsrHow.{CsrHow}
use Rattle.rv64_instructions.specs.declared.csr.CsrHow.TheVariants.{Write, Set, Clear}
use Rattle.rv64_instructions.specs.declared.csr.CsrSource.{CsrSource}
use Rattle.rv64_instructions.specs.declared.csr.CsrSource.TheVariants.{Register, Immediate}

-- whether the operand is x0, or the immediate 0
abbrev pub is_zero_source : CsrSource → Bool
is_zero_source (Register register) = register == 0
is_zero_source (Immediate n) = n == 0

-- Whether an instruction writes its CSR: CSRRS and CSRRC don't if their operand is x0 or the immediate 0.
abbrev pub writes_csr : CsrHow → CsrSource → Bool
writes_csr Write from = true
writes_csr Set from = not (is_zero_source from)
writes_csr Clear from = not (is_zero_source from)
