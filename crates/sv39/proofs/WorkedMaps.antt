-- Worked page tables, computed from the definitions.
use Rattle.std.proofs.Common.{◌≡◌, ℕ, Option, Some, Ok, Err, true, false, refl}
use Rattle.sv39.specs.declared.cause.Cause.TheVariants.{InstructionPageFault, LoadAccessFault, LoadPageFault, StoreAccessFault, StorePageFault}
use Rattle.sv39.specs.declared.cause.Kind.TheVariants.{Fetch, Load, Store}
use Rattle.sv39.specs.declared.page.Leaf.{Leaf}
use Rattle.sv39.specs.declared.page.Level.TheVariants.{Kilo, Mega, Giga, Tera}
use Rattle.sv39.specs.declared.paging.Paging.{Paging}
use Rattle.sv39.specs.declared.paging.Paging.TheVariants.{Sv39, Sv48}
use Rattle.sv39.specs.declared.paging.Spaces.{Spaces}
use Rattle.sv39.specs.Entries.{page_number}
use Rattle.sv39.specs.Maps.{maps, table_of}
use Rattle.sv39.specs.Memory.{is_in_ram, written, zero_memory}
use Rattle.sv39.specs.Paging.{is_valid_by}
use Rattle.sv39.specs.Satp.{satp_written}

-- pointers, and leaves
pointer-to-80002000 : table_of (Some 0x20000801) ≡ 0x80002000
pointer-to-80002000 = refl

leaf-to-80004000 : page_number 0x200010C7 ≡ 0x80004
leaf-to-80004000 = refl

-- The root table is at 0x80001000, and points to one at 0x80002000, and that to one at 0x80003000.
abbrev tables : ℕ → Option ℕ
tables = written (written (written (zero_memory 16) 0x80001000 0x20000801) 0x80002000 0x20000C01) 0x80003008 0x200010C7

abbrev satp : ℕ
satp = 0x8000500000080001

-- a page of 4 KiB, that may be read and written
load-of-a-page : maps tables satp 0x1008 Load
    ≡ Ok (record { page = 0x1000; level = Kilo; global = false; pa = 0x80004000; r = true; w = true; x = false; d = true })
unfolding maps is_valid_by zero_memory is_in_ram
load-of-a-page = refl

fetch-of-a-page : maps tables satp 0x1000 Fetch ≡ Err InstructionPageFault
unfolding maps is_valid_by zero_memory is_in_ram
fetch-of-a-page = refl

-- an entry that isn't valid, and an address that isn't
load-of-no-page : maps tables satp 0x9000 Load ≡ Err LoadPageFault
unfolding maps is_valid_by zero_memory is_in_ram
load-of-no-page = refl

store-at-no-address : maps tables satp 0x8000000000 Store ≡ Err StorePageFault
unfolding maps is_valid_by
store-at-no-address = refl

-- a page of 2 MiB, by a leaf one level up
load-of-a-megapage : maps (written tables 0x80002008 0x200000C7) satp 0x204000 Load
    ≡ Ok (record { page = 0x200000; level = Mega; global = false; pa = 0x80000000; r = true; w = true; x = false; d = true })
unfolding maps is_valid_by zero_memory is_in_ram
load-of-a-megapage = refl

-- one of 1 GiB, in the highest addresses
load-of-a-gigapage : maps (written tables 0x80001FF8 0x200000C7) satp 0xFFFFFFFFFFFFFFF8 Load
    ≡ Ok (record { page = 0xFFFFFFFFC0000000; level = Giga; global = false; pa = 0x80000000; r = true; w = true; x = false; d = true })
unfolding maps is_valid_by zero_memory is_in_ram
load-of-a-gigapage = refl

-- a megapage whose PPN has a part that isn't 0
load-of-a-crooked-megapage : maps (written tables 0x80002008 0x200004C7) satp 0x204000 Load ≡ Err LoadPageFault
unfolding maps is_valid_by zero_memory is_in_ram
load-of-a-crooked-megapage = refl

-- a mapping that is global by its leaf, and one by the pointer to its table
load-of-a-global-leaf : maps (written tables 0x80003018 0x200010E7) satp 0x3000 Load
    ≡ Ok (record { page = 0x3000; level = Kilo; global = true; pa = 0x80004000; r = true; w = true; x = false; d = true })
unfolding maps is_valid_by zero_memory is_in_ram
load-of-a-global-leaf = refl

load-below-a-global-pointer : maps (written tables 0x80001000 0x20000821) satp 0x1000 Load
    ≡ Ok (record { page = 0x1000; level = Kilo; global = true; pa = 0x80004000; r = true; w = true; x = false; d = true })
unfolding maps is_valid_by zero_memory is_in_ram
load-below-a-global-pointer = refl

-- a pointer out of the RAM
load-outside : maps (written tables 0x80001000 0x24000001) satp 0x1000 Load ≡ Err LoadAccessFault
unfolding maps is_valid_by zero_memory is_in_ram
load-outside = refl

-- a pointer where no level is left, and one with A
store-by-a-last-pointer : maps (written tables 0x80003008 0x20001001) satp 0x1000 Store ≡ Err StorePageFault
unfolding maps is_valid_by zero_memory is_in_ram
store-by-a-last-pointer = refl

store-by-a-pointer-with-a : maps (written tables 0x80001000 0x20000841) satp 0x1000 Store ≡ Err StorePageFault
unfolding maps is_valid_by zero_memory is_in_ram
store-by-a-pointer-with-a = refl

-- a page that wasn't written, but may be
store-to-a-clean-page : maps (written tables 0x80003008 0x20001047) satp 0x1000 Store ≡ Err StorePageFault
unfolding maps is_valid_by zero_memory is_in_ram
store-to-a-clean-page = refl

-- a root table out of the RAM
store-outside : maps tables 0x8000500000000001 0x1000 Store ≡ Err StoreAccessFault
unfolding maps is_valid_by zero_memory is_in_ram
store-outside = refl

-- Sv48: the root table at 0x80006000 points to that of Sv39, and has a page of 512 GiB, one at the end of the lower half
-- of the addresses, one at the start of the upper half and one at its end.
abbrev four_levels : ℕ → Option ℕ
four_levels =
    written
    (written (written (written (written tables 0x80006000 0x20000401) 0x80006008 0xC7) 0x800067F8 0xC7) 0x80006800 0xC7)
    0x80006FF8
    0xC7

abbrev satp48 : ℕ
satp48 = 0x9000500000080006

abbrev terapage : (page : ℕ) → Leaf
terapage page = record { page = page; level = Tera; global = false; pa = 0; r = true; w = true; x = false; d = true }

load-by-four-levels : maps four_levels satp48 0x1008 Load
    ≡ Ok (record { page = 0x1000; level = Kilo; global = false; pa = 0x80004000; r = true; w = true; x = false; d = true })
unfolding maps is_valid_by zero_memory is_in_ram
load-by-four-levels = refl

load-of-a-terapage : maps four_levels satp48 0x8080004000 Load ≡ Ok (terapage 0x8000000000)
unfolding maps is_valid_by zero_memory is_in_ram
load-of-a-terapage = refl

-- the last addresses of all, and those at which the halves end
load-at-the-end : maps four_levels satp48 0xFFFFFFFFFFFFFFF8 Load ≡ Ok (terapage 0xFFFFFF8000000000)
unfolding maps is_valid_by zero_memory is_in_ram
load-at-the-end = refl

load-below-the-gap : maps four_levels satp48 0x7FFFFFFFFFF8 Load ≡ Ok (terapage 0x7F8000000000)
unfolding maps is_valid_by zero_memory is_in_ram
load-below-the-gap = refl

load-in-the-gap : maps four_levels satp48 0x800000000000 Load ≡ Err LoadPageFault
unfolding maps is_valid_by
load-in-the-gap = refl

load-at-the-end-of-the-gap : maps four_levels satp48 0xFFFF7FFFFFFFFFF8 Load ≡ Err LoadPageFault
unfolding maps is_valid_by
load-at-the-end-of-the-gap = refl

load-above-the-gap : maps four_levels satp48 0xFFFF800000000000 Load ≡ Ok (terapage 0xFFFF800000000000)
unfolding maps is_valid_by zero_memory is_in_ram
load-above-the-gap = refl

-- a terapage whose PPN has a part that isn't 0: that of a gigapage
load-of-a-crooked-terapage : maps (written four_levels 0x80006008 0x200000C7) satp48 0x8080004000 Load ≡ Err LoadPageFault
unfolding maps is_valid_by zero_memory is_in_ram
load-of-a-crooked-terapage = refl

-- by Sv39 the same table gives no terapage, and a pointer at its root is one to a table of megapages
load-by-another-mode : maps four_levels 0x8000500000080006 0x1008 Load ≡ Err LoadPageFault
unfolding maps is_valid_by zero_memory is_in_ram
load-by-another-mode = refl

-- which boards there are
abbrev spaces : (asid_len : ℕ) → Paging → Spaces
spaces asid_len widest = record { asid_len = asid_len; widest = widest }

-- writes of satp, of MODE 8, 9, 10 and 0
sv39-satp : satp_written (spaces 16 Sv39) 0 satp ≡ satp
sv39-satp = refl

sv39-satp-of-a-wide-board : satp_written (spaces 16 Sv48) satp48 satp ≡ satp
sv39-satp-of-a-wide-board = refl

sv48-satp : satp_written (spaces 16 Sv48) satp satp48 ≡ satp48
sv48-satp = refl

sv48-satp-of-a-narrow-board : satp_written (spaces 16 Sv39) satp satp48 ≡ satp
sv48-satp-of-a-narrow-board = refl

another-mode : satp_written (spaces 16 Sv48) satp 0xA000000000080001 ≡ satp
another-mode = refl

bare-satp : satp_written (spaces 16 Sv48) satp 0x0000500000080001 ≡ 0
bare-satp = refl

-- and of the ASID 5 where two bits, one and none are kept
two-bits-of-an-asid : satp_written (spaces 2 Sv39) 0 satp ≡ 0x8000100000080001
two-bits-of-an-asid = refl

one-bit-of-an-asid : satp_written (spaces 1 Sv48) 0 satp48 ≡ 0x9000100000080006
one-bit-of-an-asid = refl

no-bit-of-an-asid : satp_written (spaces 0 Sv39) 0 satp ≡ 0x8000000000080001
no-bit-of-an-asid = refl
