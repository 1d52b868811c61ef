-- Names of CSRs (Privileged 20211203, 2.2, table 2.3).
use Rattle.std.specs.Prelude.{ℕ, if◌then◌else◌, List, codes, Option, Some, None}
use Rattle.std.specs.Str.{bytes_eq}
use Rattle.rv64_instructions.specs.declared.csr.Csr.TheVariants.{Sstatus, Sie, Stvec, Sscratch, Sepc, Scause, Stval, Satp}
use Rattle.asm_instructions.specs.declared.operands.CsrName.{CsrName}
use Rattle.asm_instructions.specs.declared.operands.CsrName.TheVariants.{Kept, Sip}

-- the CSR of this name
abbrev pub csr_named : List ℕ → Option CsrName
csr_named word =
    if bytes_eq word (codes "sip") then Some Sip
    else (if bytes_eq word (codes "sstatus") then Some (Kept Sstatus)
    else (if bytes_eq word (codes "sie") then Some (Kept Sie)
    else (if bytes_eq word (codes "stvec") then Some (Kept Stvec)
    else (if bytes_eq word (codes "sscratch") then Some (Kept Sscratch)
    else (if bytes_eq word (codes "sepc") then Some (Kept Sepc)
    else (if bytes_eq word (codes "scause") then Some (Kept Scause)
    else (if bytes_eq word (codes "stval") then Some (Kept Stval)
    else (if bytes_eq word (codes "satp") then Some (Kept Satp)
    else None))))))))
