-- Worked fences and fills, computed from the definitions.
use Rattle.std.proofs.Common.{◌≡◌, ℕ, Bool, true, false, List, [], ◌∷◌, ◌++◌, refl}
use Rattle.std.specs.Prelude.{Some, None, ◌==◌, map}
use Rattle.sv39.specs.declared.page.Level.{Level}
use Rattle.sv39.specs.declared.page.Level.TheVariants.{Kilo, Mega, Tera}
use Rattle.sv39.specs.declared.paging.Paging.{Paging}
use Rattle.sv39.specs.declared.paging.Paging.TheVariants.{Sv39, Sv48}
use Rattle.sv39.specs.declared.paging.Spaces.{Spaces}
use Rattle.sv39.specs.Paging.{is_valid_by}
use Rattle.tlb_model.specs.declared.fence.Flush.TheVariants.{Words, Entries}
use Rattle.tlb_model.specs.Acts.{Act, Fill, Drop, live}
use Rattle.tlb_model.specs.Contents.{empty}
use Rattle.tlb_model.specs.Entries.{Entry, covers_entry}
use Rattle.tlb_model.specs.Fences.{fence_of_address, fence_of_range, is_wrong_range}

abbrev mapped : (page : ℕ) → Level → (global : Bool) → (asid : ℕ) → Entry
mapped page level global asid = record {
  leaf = record { page = page; level = level; global = global; pa = 0x80000000; r = true; w = true; x = false; d = true };
  asid = asid;
}

-- how wide the address spaces of a board are: all bits of an ASID, and Sv39 alone
abbrev spaces : (asid_len : ℕ) → Paging → Spaces
spaces asid_len widest = record { asid_len = asid_len; widest = widest }

abbrev whole : Spaces
whole = spaces 16 Sv39

-- a fence inside a megapage covers it, and so does one over the two pages before and after its first address
inner_page : covers_entry (Entries (fence_of_range whole 0x207000 0x1000 None)) (mapped 0x200000 Mega false 5) ≡ true
inner_page = refl

over_the_edge : covers_entry (Entries (fence_of_range whole 0x1FFF 0x2 None)) (mapped 0x1000 Kilo false 5) ≡ true
over_the_edge = refl

at_the_next_page : covers_entry (Entries (fence_of_range whole 0x2000 0x1000 None)) (mapped 0x1000 Kilo false 5) ≡ false
at_the_next_page = refl

-- the whole last page, and all addresses
last_page : covers_entry (Entries (fence_of_range whole 0xFFFFFFFFFFFFF000 0x1000 None)) (mapped 0xFFFFFFFFFFFFF000 Kilo false 5) ≡ true
last_page = refl

whole_space : covers_entry (Entries (fence_of_range whole 0x1000 0xFFFFFFFFFFFFFFFF None)) (mapped 0 Kilo false 5) ≡ true
whole_space = refl

nothing_from_one_on : covers_entry (Entries (fence_of_range whole 0x1000 0 None)) (mapped 0x1000 Kilo false 5) ≡ false
nothing_from_one_on = refl

-- a range may end at 2^64 and not past it, unless it is full
up_to_the_end : is_wrong_range 0xFFFFFFFFFFFFF000 0x1000 ≡ false
up_to_the_end = refl

past_the_end : is_wrong_range 0xFFFFFFFFFFFFF000 0x1001 ≡ true
past_the_end = refl

last_address : is_wrong_range 0xFFFFFFFFFFFFFFFF 1 ≡ false
last_address = refl

after_the_last_address : is_wrong_range 0xFFFFFFFFFFFFFFFF 2 ≡ true
after_the_last_address = refl

full_and_past_the_end : is_wrong_range 0xFFFFFFFFFFFFF000 0xFFFFFFFFFFFFFFFF ≡ false
full_and_past_the_end = refl

not_quite_full : is_wrong_range 2 0xFFFFFFFFFFFFFFFE ≡ false
not_quite_full = refl

not_quite_full_and_past_the_end : is_wrong_range 3 0xFFFFFFFFFFFFFFFE ≡ true
not_quite_full_and_past_the_end = refl

-- a fence of an address space spares the global entries and the other spaces, and one of none doesn't
own_space : covers_entry (Entries (fence_of_range whole 0 0 (Some 0x30005))) (mapped 0x1000 Kilo false 5) ≡ true
own_space = refl

other_space : covers_entry (Entries (fence_of_range whole 0 0 (Some 5))) (mapped 0x1000 Kilo false 6) ≡ false
other_space = refl

global_by_space : covers_entry (Entries (fence_of_range whole 0 0 (Some 5))) (mapped 0x3000 Kilo true 5) ≡ false
global_by_space = refl

global_by_none : covers_entry (Entries (fence_of_range whole 0 0 None)) (mapped 0x3000 Kilo true 5) ≡ true
global_by_none = refl

-- an address is that of a page, and one that isn't valid of none
of_address : covers_entry (Entries (fence_of_address whole (Some 0x1FFF) (Some 5))) (mapped 0x1000 Kilo false 5) ≡ true
unfolding is_valid_by
of_address = refl

of_no_address : covers_entry (Entries (fence_of_address whole (Some 0x8000000000) None)) (mapped 0x8000000000 Kilo false 5) ≡ false
unfolding is_valid_by
of_no_address = refl

-- one that only Sv48 has is that of a page where the board has Sv48
of_a_wide_address : covers_entry (Entries (fence_of_address (spaces 16 Sv48) (Some 0x8000000000) None)) (mapped 0x8000000000 Tera false 5) ≡ true
unfolding is_valid_by
of_a_wide_address = refl

of_no_wide_address : covers_entry (Entries (fence_of_address (spaces 16 Sv48) (Some 0x800000000000) None)) (mapped 0x800000000000 Kilo false 5) ≡ false
unfolding is_valid_by
of_no_wide_address = refl

-- a page of 512 GiB is covered by each of its ends, and not from the bytes beside it
first_byte_of_a_terapage : covers_entry (Entries (fence_of_range whole 0x8000000000 1 None)) (mapped 0x8000000000 Tera false 5) ≡ true
first_byte_of_a_terapage = refl

last_byte_of_a_terapage : covers_entry (Entries (fence_of_range whole 0xFFFFFFFFFF 1 None)) (mapped 0x8000000000 Tera false 5) ≡ true
last_byte_of_a_terapage = refl

before_a_terapage : covers_entry (Entries (fence_of_range whole 0x7FFFFFFFFF 1 None)) (mapped 0x8000000000 Tera false 5) ≡ false
before_a_terapage = refl

after_a_terapage : covers_entry (Entries (fence_of_range whole 0x10000000000 1 None)) (mapped 0x8000000000 Tera false 5) ≡ false
after_a_terapage = refl

last_byte_of_the_last_terapage : covers_entry (Entries (fence_of_range whole 0xFFFFFFFFFFFFFFFF 1 None)) (mapped 0xFFFFFF8000000000 Tera false 5) ≡ true
last_byte_of_the_last_terapage = refl

-- the ASID 9 of two bits is 1, and of none is 0
two_bits : covers_entry (Entries (fence_of_range (spaces 2 Sv39) 0 0 (Some 9))) (mapped 0x1000 Kilo false 1) ≡ true
two_bits = refl

two_bits_of_another : covers_entry (Entries (fence_of_address (spaces 2 Sv39) None (Some 9))) (mapped 0x1000 Kilo false 2) ≡ false
two_bits_of_another = refl

no_bits : covers_entry (Entries (fence_of_address (spaces 0 Sv39) None (Some 9))) (mapped 0x1000 Kilo false 0) ≡ true
no_bits = refl

-- the items that live, newest first, where every fence covers these
abbrev items_of : (covered : ℕ → Bool) → List (Act ℕ) → List ℕ
items_of covered acts = map (λ fill. fill.item) (live 0 empty (λ flush item. covered item) acts)

abbrev fills_of : List ℕ → List (Act ℕ)
fills_of items = map Fill items

-- seventeen fills: the first is replaced, and no other
seventeen : items_of (λ item. false) (fills_of (17 ∷ 16 ∷ 15 ∷ 14 ∷ 13 ∷ 12 ∷ 11 ∷ 10 ∷ 9 ∷ 8 ∷ 7 ∷ 6 ∷ 5 ∷ 4 ∷ 3 ∷ 2 ∷ 1 ∷ []))
    ≡ 17 ∷ 16 ∷ 15 ∷ 14 ∷ 13 ∷ 12 ∷ 11 ∷ 10 ∷ 9 ∷ 8 ∷ 7 ∷ 6 ∷ 5 ∷ 4 ∷ 3 ∷ 2 ∷ []
seventeen = refl

-- eight fills of which a fence drops the first, and then nine: none is replaced but the one that is gone
with_a_gap : items_of (λ item. item == 1) (fills_of (17 ∷ 16 ∷ 15 ∷ 14 ∷ 13 ∷ 12 ∷ 11 ∷ 10 ∷ 9 ∷ []) ++ Drop Words ∷ fills_of (8 ∷ 7 ∷ 6 ∷ 5 ∷ 4 ∷ 3 ∷ 2 ∷ 1 ∷ []))
    ≡ 17 ∷ 16 ∷ 15 ∷ 14 ∷ 13 ∷ 12 ∷ 11 ∷ 10 ∷ 9 ∷ 8 ∷ 7 ∷ 6 ∷ 5 ∷ 4 ∷ 3 ∷ 2 ∷ []
with_a_gap = refl

-- the next fill replaces the second, though a place was free
past_the_gap : items_of (λ item. item == 3) (fills_of (18 ∷ 17 ∷ 16 ∷ 15 ∷ 14 ∷ 13 ∷ 12 ∷ 11 ∷ 10 ∷ 9 ∷ []) ++ Drop Words ∷ fills_of (8 ∷ 7 ∷ 6 ∷ 5 ∷ 4 ∷ 3 ∷ 2 ∷ 1 ∷ []))
    ≡ 18 ∷ 17 ∷ 16 ∷ 15 ∷ 14 ∷ 13 ∷ 12 ∷ 11 ∷ 10 ∷ 9 ∷ 8 ∷ 7 ∷ 6 ∷ 5 ∷ 4 ∷ []
past_the_gap = refl
