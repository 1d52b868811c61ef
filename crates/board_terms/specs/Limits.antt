-- The limits of a board (profile).
use Rattle.std.specs.Prelude.{ℕ, ◌%◌, ◌<◌, ◌≤◌, Bool, IsTrue, ◌==◌, ◌&&◌, ◌||◌, if◌then◌else◌, List, [], ◌∷◌}
use Rattle.sv39.specs.declared.paging.Paging.TheVariants.{Sv39, Sv48}
use Rattle.sv39.specs.declared.paging.Spaces.{Spaces}
use Rattle.sv39.specs.declared.paging.TheConstants.{ASID_BITS}
use Rattle.sv39.specs.Memory.{is_ram_address}
use Rattle.board_terms.specs.declared.config.BuildFault.{BuildFault}
use Rattle.board_terms.specs.declared.config.BuildFault.TheVariants.{BadConfig, NoMemory, CutFull}
use Rattle.board_terms.specs.declared.config.Config.{Config}
use Rattle.board_terms.specs.declared.config.TheConstants.{USUAL_ASID_LEN, USUAL_WIDTH}

-- Whether a hart may begin at an address: it is even, and in the RAM of so many pages.
abbrev pub is_start_address : (pages address : ℕ) → Bool
is_start_address pages address = address % 2 == 0 && is_ram_address pages address

-- The number of each fault of making a board or cutting a history.
abbrev pub build_fault_number : BuildFault → ℕ
build_fault_number BadConfig = 1
build_fault_number NoMemory = 2
build_fault_number CutFull = 3

-- The limits of a board's numbers: 1 to 128 harts, 1 to 256 pages, a history of 1 to 1,000,000 events, a boot hart that
-- exists, a boot address at which a hart may begin, an ASIDLEN of 0 to 16, and the width of a paging mode.
pub record IsGood (c : Config) : Type 0 where
  pub some_harts : 1 ≤ c.harts
  pub at_most_128_harts : c.harts ≤ 128
  pub some_pages : 1 ≤ c.pages
  pub at_most_256_pages : c.pages ≤ 256
  pub some_room : 1 ≤ c.limit
  pub at_most_a_million_events : c.limit ≤ 1000000
  pub boot_hart_is_there : c.boot_hart < c.harts
  pub boot_address : IsTrue (is_start_address c.pages c.boot_addr)
  pub at_most_16_bits_of_an_asid : c.asid_len ≤ ASID_BITS
  pub width_of_a_mode : IsTrue ((c.width == 39) || (c.width == 48))

-- The widths of a board's ASIDs and virtual addresses: its ASIDLEN, and its widest paging mode.
abbrev pub spaces_of : Config → Spaces
spaces_of c = record { asid_len = c.asid_len; widest = if c.width == 48 then Sv48 else Sv39 }

-- The numbers of a board, in their order: the first six, and two that a board line may leave out.
abbrev pub first_numbers : Config → List ℕ
first_numbers c = c.harts ∷ c.pages ∷ c.limit ∷ c.boot_hart ∷ c.boot_addr ∷ c.boot_opaque ∷ []

abbrev pub numbers_of : Config → List ℕ
numbers_of c =
    c.harts ∷ c.pages ∷ c.limit ∷ c.boot_hart ∷ c.boot_addr ∷ c.boot_opaque ∷ c.asid_len ∷ c.width ∷ []

-- The defaults of those two: all 16 bits of an ASID are kept, and the board has only Sv39.
abbrev pub usual_asid_len : ℕ
usual_asid_len = USUAL_ASID_LEN

abbrev pub usual_width : ℕ
usual_width = USUAL_WIDTH

-- Whether a board line may leave the two out: they have their defaults.
abbrev pub has_usual_spaces : Config → Bool
has_usual_spaces c = (c.asid_len == usual_asid_len) && (c.width == usual_width)
