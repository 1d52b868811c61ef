-- The causes of failed accesses, and their exception codes (Privileged 4.1.8).
use Rattle.std.specs.Prelude.{ℕ}
use Rattle.sv39.specs.declared.cause.Kind.{Kind}
use Rattle.sv39.specs.declared.cause.Kind.TheVariants.{Fetch, Load, Store, Amo}
use Rattle.sv39.specs.declared.cause.Cause.{Cause}
use Rattle.sv39.specs.declared.cause.Cause.TheVariants.{InstructionAddressMisaligned, InstructionAccessFault, LoadAddressMisaligned, LoadAccessFault, StoreAddressMisaligned, StoreAccessFault, InstructionPageFault, LoadPageFault, StorePageFault}

-- The exception codes (Privileged 4.1.8).
abbrev pub cause_number : Cause → ℕ
cause_number InstructionAddressMisaligned = 0
cause_number InstructionAccessFault = 1
cause_number LoadAddressMisaligned = 4
cause_number LoadAccessFault = 5
cause_number StoreAddressMisaligned = 6
cause_number StoreAccessFault = 7
cause_number InstructionPageFault = 12
cause_number LoadPageFault = 13
cause_number StorePageFault = 15

-- The cause of an access to an address that isn't aligned, by its kind.
abbrev pub misaligned : Kind → Cause
misaligned Fetch = InstructionAddressMisaligned
misaligned Load = LoadAddressMisaligned
misaligned Store = StoreAddressMisaligned
misaligned Amo = StoreAddressMisaligned

-- The cause of an access that needs a physical address outside the RAM, by its kind.
abbrev pub access_fault : Kind → Cause
access_fault Fetch = InstructionAccessFault
access_fault Load = LoadAccessFault
access_fault Store = StoreAccessFault
access_fault Amo = StoreAccessFault

-- The cause of a page fault, by the kind of the access.
abbrev pub page_fault : Kind → Cause
page_fault Fetch = InstructionPageFault
page_fault Load = LoadPageFault
page_fault Store = StorePageFault
page_fault Amo = StorePageFault
