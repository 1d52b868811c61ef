-- One leaf for all addresses of its page and all kinds of access.
use Rattle.std.proofs.Common.{◌≡◌, ℕ, ◌+◌, ◌-◌, ◌/◌, ◌^◌, ◌<◌, ◌≤◌, ◌*◌, Bool, true, false, ◌||◌, List, [], ◌∷◌, Option, Some, None, Ok, sym, ap, ◌∙◌, arith, inl, inr}
use Rattle.std.proofs.lemmas.Bool.{cases_Bool}
use Rattle.sv39.specs.declared.cause.Kind.{Kind}
use Rattle.sv39.specs.declared.page.Leaf.{Leaf}
use Rattle.sv39.specs.declared.page.Level.{Level}
use Rattle.sv39.specs.declared.page.Level.TheVariants.{Kilo, Mega, Giga, Tera}
use Rattle.sv39.specs.declared.paging.Paging.{Paging}
use Rattle.sv39.specs.declared.paging.Paging.TheVariants.{Sv39, Sv48}
use Rattle.sv39.specs.Entries.{is_leaf, leaf_of}
use Rattle.sv39.specs.Leaves.{allows, by_right}
use Rattle.sv39.specs.Maps.{entry_in, found_from, is_some_global, is_some_pointer, maps, outcome, table_of}
use Rattle.sv39.specs.Pages.{level_number, levels_from, page_of, part, size}
use Rattle.sv39.specs.Paging.{is_valid_by, scheme}
use Rattle.sv39.specs.Satp.{is_valid, paging_of, root_address}
use Rattle.sv39.proofs.Addresses.{is_valid_by_top}

-- two addresses of a page have the same part for its level and each one above it
same_part : (low level : Level) (a b : ℕ) → level_number low ≤ level_number level → page_of low b ≡ page_of low a → part level b ≡ part level a
same_part Kilo Kilo a b le e = omega arith
same_part Kilo Mega a b le e = omega arith
same_part Kilo Giga a b le e = omega arith
same_part Kilo Tera a b le e = omega arith
same_part Mega Kilo a b le e = omega arith
same_part Mega Mega a b le e = omega arith
same_part Mega Giga a b le e = omega arith
same_part Mega Tera a b le e = omega arith
same_part Giga Kilo a b le e = omega arith
same_part Giga Mega a b le e = omega arith
same_part Giga Giga a b le e = omega arith
same_part Giga Tera a b le e = omega arith
same_part Tera Kilo a b le e = omega arith
same_part Tera Mega a b le e = omega arith
same_part Tera Giga a b le e = omega arith
same_part Tera Tera a b le e = omega arith

-- an address in a page is one of that page
of-page : (level : Level) (a b : ℕ) → page_of level a ≤ b → b < page_of level a + size level → page_of level b ≡ page_of level a
of-page Tera a b from before = omega arith
of-page Giga a b from before = omega arith
of-page Mega a b from before = omega arith
of-page Kilo a b from before = omega arith

-- and two of one page, which is of one of the mode's levels, are both valid, or neither is
same-top : (mode : Paging) (level : Level) (a b : ℕ) → level_number level ≤ level_number (scheme mode).root → page_of level b ≡ page_of level a
    → b / 2 ^ ((scheme mode).width - 1) ≡ a / 2 ^ ((scheme mode).width - 1)
same-top Sv39 Kilo a b low e = omega arith
same-top Sv39 Mega a b low e = omega arith
same-top Sv39 Giga a b low e = omega arith
same-top Sv39 Tera a b low e = omega arith
same-top Sv48 Kilo a b low e = omega arith
same-top Sv48 Mega a b low e = omega arith
same-top Sv48 Giga a b low e = omega arith
same-top Sv48 Tera a b low e = omega arith

same-valid : (mode : Paging) (level : Level) (a b : ℕ) → level_number level ≤ level_number (scheme mode).root → page_of level b ≡ page_of level a
    → is_valid_by mode b ≡ is_valid_by mode a
same-valid mode level a b low e = is_valid_by_top mode b ∙ rw (same-top mode level a b low e) (sym (is_valid_by_top mode a))

-- What a leaf says that the entry gives for an address: its level is the entry's, its page the address's, and it decides
-- each access to that page.
record EntryLeaf (entry : Option ℕ) (a : ℕ) (level : Level) (global : Bool) (leaf : Leaf) : Type 0 where
  by_level : leaf.level ≡ level
  page : leaf.page ≡ page_of leaf.level a
  decides : (b : ℕ) (other : Kind) → page_of level b ≡ page_of level a → outcome entry b other level global ≡ by_right other leaf

right_same : (kind : Kind) (found leaf : Leaf) → by_right kind found ≡ Ok leaf → found ≡ leaf
right_same kind found leaf e = elim (cases_Bool (allows kind found)) [
  | inl allowed ↦ let is = rw allowed at e in cc
  | inr refused ↦ let is = rw refused at e in cc
]

outcome_leaf : (entry : Option ℕ) (a : ℕ) (kind : Kind) (level : Level) (global : Bool) (leaf : Leaf) → outcome entry a kind level global ≡ Ok leaf → EntryLeaf entry a level global leaf
outcome_leaf None a kind level global leaf e = cc
outcome_leaf (Some entry) a kind level global leaf e = elim (cases_Bool (is_leaf level entry)) [
  | inl right ↦
      let is : leaf_of entry a level global ≡ leaf = right_same kind (leaf_of entry a level global) leaf (rw right at e) in
      record {
        by_level = sym (ap (λ (l : Leaf). l.level) is);
        page = sym (ap (λ (l : Leaf). l.page) is) ∙ ap (λ (l : Leaf). page_of l.level a) is;
        decides = λ b other same. rw right (ap (by_right other) (rw same is));
      }
  | inr wrong ↦ let found = rw wrong at e in cc
]

-- What the rule says of the page of a leaf: the leaf is of one of the levels, none of which is higher than `top`; the
-- page is the one of the address; and the leaf decides each access to it.
record LeafOf (memory : ℕ → Option ℕ) (a table : ℕ) (global : Bool) (levels : List Level) (top : ℕ) (leaf : Leaf) : Type 0 where
  low : level_number leaf.level ≤ top
  page : leaf.page ≡ page_of leaf.level a
  each : (b : ℕ) (other : Kind) → page_of leaf.level b ≡ page_of leaf.level a → found_from memory b other table global levels ≡ by_right other leaf

abbrev HasLeaves : List Level → (top : ℕ) → Type 0
HasLeaves levels top = (memory : ℕ → Option ℕ) (a table : ℕ) (global : Bool) (kind : Kind) (leaf : Leaf)
    → found_from memory a kind table global levels ≡ Ok leaf → LeafOf memory a table global levels top leaf

same_entry : (memory : ℕ → Option ℕ) (a b table : ℕ) (low level : Level) → level_number low ≤ level_number level → page_of low b ≡ page_of low a
    → entry_in memory b table level ≡ entry_in memory a table level
same_entry memory a b table low level le e = ap (λ p. memory (table + 8 * p)) (same_part low level a b le e)

-- at a good pointer, what is said of the levels below is said of these
by_pointer : (memory : ℕ → Option ℕ) (a table : ℕ) (global : Bool) (level : Level) (under : List Level) (below : ℕ) (leaf : Leaf) → below ≤ level_number level
    → is_some_pointer level (entry_in memory a table level) ≡ true
    → LeafOf memory a (table_of (entry_in memory a table level)) (global || is_some_global (entry_in memory a table level)) under below leaf
    → LeafOf memory a table global (level ∷ under) (level_number level) leaf
by_pointer memory a table global level under below leaf le good l = record {
  low = omega arith;
  page = l.page;
  each = λ b other e. rw (same_entry memory a b table leaf.level level (omega arith) e, good) (l.each b other e);
}

-- where the walk ends, it is said by the entry
by_entry : (memory : ℕ → Option ℕ) (a table : ℕ) (global : Bool) (kind : Kind) (level : Level) (under : List Level) (leaf : Leaf)
    → is_some_pointer level (entry_in memory a table level) ≡ false → outcome (entry_in memory a table level) a kind level global ≡ Ok leaf
    → LeafOf memory a table global (level ∷ under) (level_number level) leaf
by_entry memory a table global kind level under leaf none e =
    let is = outcome_leaf (entry_in memory a table level) a kind level global leaf e in
    record {
      low = rw is.by_level (omega arith);
      page = is.page;
      each = λ b other same.
          let at_level : page_of level b ≡ page_of level a = rw is.by_level at same in
          rw (same_entry memory a b table level level (omega arith) at_level, none) (is.decides b other at_level);
    }

one_more : (level : Level) (under : List Level) (below : ℕ) → below ≤ level_number level → HasLeaves under below → HasLeaves (level ∷ under) (level_number level)
one_more level under below le has memory a table global kind leaf e = elim (cases_Bool (is_some_pointer level (entry_in memory a table level))) [
  | inl good ↦ by_pointer memory a table global level under below leaf le good
      (has memory a (table_of (entry_in memory a table level)) (global || is_some_global (entry_in memory a table level)) kind leaf (rw good at e))
  | inr none ↦ by_entry memory a table global kind level under leaf none (rw none at e)
]

no_levels : HasLeaves [] 0
no_levels memory a table global kind leaf e = cc

leaves_of_three : HasLeaves (levels_from Giga) 2
leaves_of_three = one_more Giga (levels_from Mega) 1 (omega arith) (one_more Mega (levels_from Kilo) 0 (omega arith) (one_more Kilo [] 0 (omega arith) no_levels))

leaves_of : (mode : Paging) → HasLeaves (levels_from (scheme mode).root) (level_number (scheme mode).root)
leaves_of Sv39 = leaves_of_three
leaves_of Sv48 = one_more Tera (levels_from Giga) 2 (omega arith) leaves_of_three

-- the leaf of an address is of its page
pub leaf_page : (memory : ℕ → Option ℕ) (satp va : ℕ) (kind : Kind) (leaf : Leaf) → maps memory satp va kind ≡ Ok leaf → leaf.page ≡ page_of leaf.level va
unfolding maps
leaf_page memory satp va kind leaf e = elim (cases_Bool (is_valid satp va)) [
  | inl valid ↦ (leaves_of (paging_of satp) memory va (root_address satp) false kind leaf (rw valid at e)).page
  | inr invalid ↦ let found = rw invalid at e in cc
]

pub one_leaf_for_a_page : (memory : ℕ → Option ℕ) (satp a b : ℕ) (kind other : Kind) (leaf : Leaf)
    → maps memory satp a kind ≡ Ok leaf → leaf.page ≤ b → b < leaf.page + size leaf.level → maps memory satp b other ≡ by_right other leaf
unfolding maps
one_leaf_for_a_page memory satp a b kind other leaf e from before = elim (cases_Bool (is_valid satp a)) [
  | inl valid ↦
      let l = leaves_of (paging_of satp) memory a (root_address satp) false kind leaf (rw valid at e) in
      let same : page_of leaf.level b ≡ page_of leaf.level a = of-page leaf.level a b (rw l.page at from) (rw l.page at before) in
      rw (same-valid (paging_of satp) leaf.level a b l.low same, valid) (l.each b other same)
  | inr invalid ↦ let found = rw invalid at e in cc
]
