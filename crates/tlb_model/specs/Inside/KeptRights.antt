-- A leaf's rights and whether it is global, as an entry keeps them: one bit each. Private: an entry's clauses name the
-- leaf.
use Rattle.std.specs.Prelude.{ℕ, ◌+◌, ◌*◌, Bool, true, false}
use Rattle.sv39.specs.declared.page.Leaf.{Leaf}
use Rattle.sv39.specs.declared.page.Level.{Level}
use Rattle.sv39.specs.Entries.{has_bit}

abbrev pub bit : Bool → ℕ
bit false = 0
bit true = 1

abbrev pub rights_of : Leaf → ℕ
rights_of leaf = bit leaf.global + 2 * (bit leaf.r + 2 * (bit leaf.w + 2 * (bit leaf.x + 2 * bit leaf.d)))

abbrev pub leaf_in : (page pa : ℕ) → Level → (rights : ℕ) → Leaf
leaf_in page pa level rights = record {
  page = page;
  pa = pa;
  level = level;
  global = has_bit 0 rights;
  r = has_bit 1 rights;
  w = has_bit 2 rights;
  x = has_bit 3 rights;
  d = has_bit 4 rights;
}
