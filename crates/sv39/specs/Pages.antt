-- Virtual addresses and pages (Privileged 4.4.1, 4.5.1).
use Rattle.std.specs.Prelude.{ℕ, zero, suc, ◌*◌, ◌/◌, ◌%◌, ◌^◌, List, [], ◌∷◌, Option, Some, None}
use Rattle.sv39.specs.declared.page.TheConstants.{PAGE_BYTES, TABLE_ENTRIES}
use Rattle.sv39.specs.declared.page.Level.{Level}
use Rattle.sv39.specs.declared.page.Level.TheVariants.{Kilo, Mega, Giga, Tera}

-- The number of a level, 0 for pages of 4 KiB.
abbrev pub level_number : Level → ℕ
level_number Kilo = 0
level_number Mega = 1
level_number Giga = 2
level_number Tera = 3

-- the level below a level, if there is one
abbrev pub below : Level → Option Level
below Tera = Some Giga
below Giga = Some Mega
below Mega = Some Kilo
below Kilo = None

-- The size of a level's pages in bytes: 4 KiB, and 512 times as much for each level up (Privileged 4.4.1, 4.5.1).
abbrev pub size : Level → ℕ
size level = PAGE_BYTES * TABLE_ENTRIES ^ level_number level

-- The first address of the level's page that has the address.
abbrev pub page_of : Level → ℕ → ℕ
page_of level va = va / size level * size level

-- A level, if there is one, and the levels below it, at most so many others.
abbrev pub levels_down : (others : ℕ) → Option Level → List Level
levels_down others None = []
levels_down zero (Some level) = level ∷ []
levels_down (suc others) (Some level) = level ∷ levels_down others (below level)

-- A level and all levels below it, the highest first. Its number is the number of levels below.
abbrev pub levels_from : Level → List Level
levels_from level = levels_down (level_number level) (Some level)

-- A VPN part of an address, which selects the entry in the level's table: 9 bits, above the page offset and the parts
-- of the levels below (Privileged 4.4.1, 4.5.1).
abbrev pub part : Level → ℕ → ℕ
part level va = va / size level % TABLE_ENTRIES
