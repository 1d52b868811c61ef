-- The rule of page tables, as a relation and as a function; and the walk that computes it.
use Rattle.std.proofs.Common.{◌≡◌, ℕ, ◌+◌, ◌*◌, ◌^◌, ◌<◌, Bool, true, false, cond, ◌||◌, ◌↔◌, List, [], ◌∷◌, ◌++◌, Option, Some, None, is_some, Result, Err, refl, sym, ap, ◌∙◌, arith, inl, inr}
use Rattle.std.proofs.lemmas.Bool.{and_from, and_parts, cases_Bool}
use Rattle.sv39.specs.declared.cause.Cause.{Cause}
use Rattle.sv39.specs.declared.cause.Kind.{Kind}
use Rattle.sv39.specs.declared.page.Leaf.{Leaf}
use Rattle.sv39.specs.declared.page.Level.{Level}
use Rattle.sv39.specs.declared.page.Level.TheVariants.{Kilo, Mega, Giga, Tera}
use Rattle.sv39.specs.declared.paging.Paging.{Paging}
use Rattle.sv39.specs.declared.paging.Paging.TheVariants.{Sv39, Sv48}
use Rattle.sv39.specs.Causes.{access_fault, page_fault}
use Rattle.sv39.specs.declared.page.TheConstants.{PAGE_BYTES}
use Rattle.sv39.specs.Entries.{has_g, is_pointer, page_number}
use Rattle.sv39.specs.Maps.{Maps, MapsBy, are_pointers, entry_in, found_from, is_any_global, is_some_global, is_some_pointer, maps, outcome, table_below, table_of}
use Rattle.sv39.specs.Pages.{below, levels_from, part}
use Rattle.sv39.specs.Paging.{scheme}
use Rattle.sv39.specs.Satp.{is_valid, paging_of, root_address, root_of}

-- no pointer stands at the lowest level
pub none_lowest : (entry : Option ℕ) → is_some_pointer Kilo entry ≡ false
none_lowest (Some entry) = refl
none_lowest None = refl

or-false : (a : Bool) → (a || false) ≡ a
or-false true = refl
or-false false = refl

or-assoc : (a b c : Bool) → ((a || b) || c) ≡ (a || (b || c))
or-assoc true b c = refl
or-assoc false b c = refl

-- a walk with good pointers at some levels, and none at the next one, gives what the entry there gives
found_at : (memory : ℕ → Option ℕ) (va : ℕ) (kind : Kind) (table : ℕ) (global : Bool) (above : List Level) (level : Level) (under : List Level)
    → are_pointers memory va table above ≡ true → is_some_pointer level (entry_in memory va (table_below memory va table above) level) ≡ false
    → found_from memory va kind table global (above ++ level ∷ under)
    ≡ outcome (entry_in memory va (table_below memory va table above) level) va kind level (global || is_any_global memory va table above)
found_at memory va kind table global [] level under pointers ends = rw (ends, or-false global) refl
found_at memory va kind table global (upper ∷ above) level under pointers ends =
    let both = and_parts (is_some_pointer upper (entry_in memory va table upper)) (are_pointers memory va (table_of (entry_in memory va table upper)) above) pointers in
    let next = table_of (entry_in memory va table upper) in
    let is_global = is_some_global (entry_in memory va table upper) in
    let rest = found_at memory va kind next (global || is_global) above level under both.1 ends in
    rw both.0 (rest ∙ ap (outcome (entry_in memory va (table_below memory va next above) level) va kind level) (or-assoc global is_global (is_any_global memory va next above)))

-- the last of some levels is the lowest one
abbrev EndLowest : List Level → Type 0
EndLowest [] = ⊥
EndLowest (level ∷ []) = level ≡ Kilo
EndLowest (level ∷ next ∷ under) = EndLowest (next ∷ under)

-- A walk ends at one of these levels.
record Ends (memory : ℕ → Option ℕ) (va table : ℕ) (levels : List Level) : Type 0 where
  above : List Level
  level : Level
  under : List Level
  levels_are : levels ≡ above ++ level ∷ under
  pointers : are_pointers memory va table above ≡ true
  ends : is_some_pointer level (entry_in memory va (table_below memory va table above) level) ≡ false

ends_here : (memory : ℕ → Option ℕ) (va table : ℕ) (level : Level) (under : List Level) → is_some_pointer level (entry_in memory va table level) ≡ false
    → Ends memory va table (level ∷ under)
ends_here memory va table level under none = record { above = []; level = level; under = under; levels_are = refl; pointers = refl; ends = none }

ends_below : (memory : ℕ → Option ℕ) (va table : ℕ) (level : Level) (levels : List Level) → is_some_pointer level (entry_in memory va table level) ≡ true
    → Ends memory va (table_of (entry_in memory va table level)) levels → Ends memory va table (level ∷ levels)
ends_below memory va table level levels good e = record {
  above = level ∷ e.above;
  level = e.level;
  under = e.under;
  levels_are = ap (λ ls. level ∷ ls) e.levels_are;
  pointers = and_from _ _ good e.pointers;
  ends = e.ends;
}

ends_somewhere : (memory : ℕ → Option ℕ) (va table : ℕ) (levels : List Level) → EndLowest levels → Ends memory va table levels
ends_somewhere memory va table [] lowest = absurd lowest
ends_somewhere memory va table (level ∷ []) lowest = ends_here memory va table level [] (rw lowest (none_lowest (entry_in memory va table Kilo)))
ends_somewhere memory va table (level ∷ next ∷ under) lowest = elim (cases_Bool (is_some_pointer level (entry_in memory va table level))) [
  | inl good ↦ ends_below memory va table level (next ∷ under) good (ends_somewhere memory va (table_of (entry_in memory va table level)) (next ∷ under) lowest)
  | inr none ↦ ends_here memory va table level (next ∷ under) none
]

-- The relation and the function are one.
relates : (memory : ℕ → Option ℕ) (root va : ℕ) (kind : Kind) (levels : List Level) (result : Result Leaf Cause) → EndLowest levels
    → MapsBy memory root va kind levels result ↔ (result ≡ found_from memory va kind root false levels)
relates memory root va kind levels result lowest = (
  λ by. by.gives ∙ sym (ap (found_from memory va kind root false) by.levels_are ∙ found_at memory va kind root false by.above by.level by.under by.pointers by.ends),
  λ e.
      let end = ends_somewhere memory va root levels lowest in
      record {
        above = end.above;
        level = end.level;
        under = end.under;
        levels_are = end.levels_are;
        pointers = end.pointers;
        ends = end.ends;
        gives = e ∙ ap (found_from memory va kind root false) end.levels_are ∙ found_at memory va kind root false end.above end.level end.under end.pointers end.ends;
      },
)

-- the lowest level of a mode is that of 4 KiB
levels_end : (mode : Paging) → EndLowest (levels_from (scheme mode).root)
levels_end Sv39 = refl
levels_end Sv48 = refl

pub maps_is_the_rule : (memory : ℕ → Option ℕ) (satp va : ℕ) (kind : Kind) (result : Result Leaf Cause)
    → Maps memory satp va kind result ↔ (result ≡ maps memory satp va kind)
unfolding Maps maps
maps_is_the_rule memory satp va kind result = elim (cases_Bool (is_valid satp va)) [
  | inl valid ↦ rw valid (relates memory (root_address satp) va kind (levels_from (scheme (paging_of satp)).root) result (levels_end (paging_of satp)))
  | inr invalid ↦ rw invalid (λ e. e, λ e. e)
]

-- What a walk that has reached a level's table gives is the result.
pub record Reached (memory : ℕ → Option ℕ) (satp va : ℕ) (kind : Kind) (level : Level) (table : ℕ) (global : Bool) : Type 0 where
  pub rest : maps memory satp va kind ≡ found_from memory va kind table global (levels_from level)
  pub fits : table < 2 ^ 57

pub reached_first : (memory : ℕ → Option ℕ) (satp va : ℕ) (kind : Kind) → is_valid satp va ≡ true → root_of satp < 2 ^ 44
    → Reached memory satp va kind (scheme (paging_of satp)).root (root_address satp) false
unfolding maps
reached_first memory satp va kind valid fits = record { rest = rw valid refl; fits = omega arith }

-- the levels from one on are itself and those from the next one on
levels_below : (level lower : Level) → below level ≡ Some lower → levels_from level ≡ level ∷ levels_from lower
levels_below Tera lower e = let is : Giga ≡ lower = cc in rw (← is) refl
levels_below Giga lower e = let is : Mega ≡ lower = cc in rw (← is) refl
levels_below Mega lower e = let is : Kilo ≡ lower = cc in rw (← is) refl
levels_below Kilo lower e = cc

-- a walk that reached a level without a good pointer ends there
ended : (memory : ℕ → Option ℕ) (va : ℕ) (kind : Kind) (level : Level) (table : ℕ) (global : Bool)
    → is_some_pointer level (entry_in memory va table level) ≡ false
    → found_from memory va kind table global (levels_from level) ≡ outcome (entry_in memory va table level) va kind level global
ended memory va kind Tera table global none = rw none refl
ended memory va kind Giga table global none = rw none refl
ended memory va kind Mega table global none = rw none refl
ended memory va kind Kilo table global none = rw none refl

none_from : (entry : Option ℕ) → is_some entry ≡ false → entry ≡ None
none_from (Some entry) e = cc
none_from None e = refl

-- a walk that finds no entry in the RAM
pub ended_outside : (memory : ℕ → Option ℕ) (satp va : ℕ) (kind : Kind) (level : Level) (table : ℕ) (global : Bool) → Reached memory satp va kind level table global
    → is_some (memory (table + 8 * part level va)) ≡ false → maps memory satp va kind ≡ Err (access_fault kind)
ended_outside memory satp va kind level table global r outside =
    let none : memory (table + 8 * part level va) ≡ None = none_from _ outside in
    r.rest ∙ ended memory va kind level table global (ap (is_some_pointer level) none) ∙ ap (λ entry. outcome entry va kind level global) none

not-pointed : (level : Level) (entry : ℕ) → cond (is_pointer level entry) (below level) None ≡ None → is_pointer level entry ≡ false
not-pointed Tera entry none = elim (cases_Bool (is_pointer Tera entry)) [ inl good ↦ let e = rw good at none in cc | inr other ↦ other ]
not-pointed Giga entry none = elim (cases_Bool (is_pointer Giga entry)) [ inl good ↦ let e = rw good at none in cc | inr other ↦ other ]
not-pointed Mega entry none = elim (cases_Bool (is_pointer Mega entry)) [ inl good ↦ let e = rw good at none in cc | inr other ↦ other ]
not-pointed Kilo entry none = refl

-- a walk that finds an entry that is no good pointer
pub ended_there : (memory : ℕ → Option ℕ) (satp va : ℕ) (kind : Kind) (level : Level) (table entry : ℕ) (global : Bool) → Reached memory satp va kind level table global
    → memory (table + 8 * part level va) ≡ Some entry → cond (is_pointer level entry) (below level) None ≡ None
    → maps memory satp va kind ≡ outcome (Some entry) va kind level global
ended_there memory satp va kind level table entry global r here none =
    r.rest
    ∙ ended memory va kind level table global (ap (is_some_pointer level) here ∙ not-pointed level entry none)
    ∙ ap (λ e. outcome e va kind level global) here

-- a walk that goes down, from the levels that are left
down : (memory : ℕ → Option ℕ) (va : ℕ) (kind : Kind) (level : Level) (under : List Level) (table entry : ℕ) (global : Bool)
    → memory (table + 8 * part level va) ≡ Some entry → is_pointer level entry ≡ true
    → found_from memory va kind table global (level ∷ under) ≡ found_from memory va kind (PAGE_BYTES * page_number entry) (global || has_g entry) under
down memory va kind level under table entry global here good = rw (here, good) refl

-- a walk that finds a good pointer
pub goes_on : (memory : ℕ → Option ℕ) (satp va : ℕ) (kind : Kind) (level lower : Level) (table entry : ℕ) (global : Bool) → Reached memory satp va kind level table global
    → memory (table + 8 * part level va) ≡ Some entry → cond (is_pointer level entry) (below level) None ≡ Some lower
    → Reached memory satp va kind lower (PAGE_BYTES * page_number entry) (global || has_g entry)
goes_on memory satp va kind level lower table entry global r here some = elim (cases_Bool (is_pointer level entry)) [
  | inl good ↦ record {
    rest = r.rest ∙ ap (found_from memory va kind table global) (levels_below level lower (rw good at some)) ∙ down memory va kind level (levels_from lower) table entry global here good;
    fits = omega arith;
  }
  | inr other ↦ let e = rw other at some in cc
]

-- a walk of an address that isn't valid
pub ended_invalid : (memory : ℕ → Option ℕ) (satp va : ℕ) (kind : Kind) → is_valid satp va ≡ false → maps memory satp va kind ≡ Err (page_fault kind)
unfolding maps
ended_invalid memory satp va kind invalid = rw invalid refl
