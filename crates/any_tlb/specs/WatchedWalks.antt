-- The results that a TLB may give an access, as a list: by the satps and the page-table words that a hart may still
-- see (Privileged 4.2.1, 4.3.2).
use Rattle.std.specs.Prelude.{◌≡◌, ◌⊎◌, ℕ, ◌+◌, ◌*◌, List, [], ◌∷◌, ◌++◌, map, filter, flat_map, Bool, true, false, not, ◌==◌, ◌&&◌, ◌||◌, if◌then◌else◌, Option, Result, Err}
use Rattle.std.specs.List.{All}
use Rattle.rfence.specs.Applied.{Effect}
use Rattle.sv39.specs.declared.cause.Cause.{Cause}
use Rattle.sv39.specs.declared.cause.Kind.{Kind}
use Rattle.sv39.specs.declared.page.Leaf.{Leaf}
use Rattle.sv39.specs.declared.page.Level.{Level}
use Rattle.sv39.specs.Causes.{page_fault}
use Rattle.sv39.specs.Leaves.{by_right}
use Rattle.sv39.specs.Maps.{is_some_global, is_some_pointer, maps, outcome, table_of}
use Rattle.sv39.specs.Pages.{levels_from, part}
use Rattle.sv39.specs.Paging.{scheme}
use Rattle.sv39.specs.Satp.{asid_of, is_valid, paging_of, root_address, translates}
use Rattle.tlb_model.specs.declared.fence.Flush.{Flush}
use Rattle.tlb_model.specs.Entries.{matches}
use Rattle.hart_access.specs.Translations.{IsTranslated}
use Rattle.board_core.specs.History.{Event}
use Rattle.board_core.specs.Memory.{address_by, memory, satp}
use Rattle.board_core.specs.Opening.{Opening}
use Rattle.any_tlb.specs.Effects.{effect_at}
use Rattle.any_tlb.specs.Firm.{IsMapped}
use Rattle.any_tlb.specs.Mixed.{is_end_global, orders_ends, orders_pointers}
use Rattle.any_tlb.specs.Steady.{phys_of}
use Rattle.any_tlb.specs.Watch.{watched}

-- The values of what changes with events that hart h may still see, newest first. Whether an effect orders a value
-- may depend on the value.
abbrev pub seen_of : {A : Type 0} → (List Event → A) → (ordered : A → Effect Flush → Bool) → Opening → List Event → (h : ℕ)
    → List A
seen_of of ordered o [] h = of [] ∷ []
seen_of of ordered o (event ∷ past) h =
    of (event ∷ past)
    ∷ filter (λ value. not (ordered value (effect_at o past event h))) (seen_of of ordered o past h)

-- the satps by which walks may still begin: those that meet G, or those that don't
abbrev pub seen_satps : Opening → List Event → (h : ℕ) → (global : Bool) → List ℕ
seen_satps o past h global =
    seen_of (λ past. satp o past h) (λ value. orders_pointers global (asid_of value)) o past h

-- the words that may still be seen at a physical address
abbrev pub seen_words : Opening → List Event → (h : ℕ) → (ordered : Effect Flush → Bool) → (pa : ℕ) → List (Option ℕ)
seen_words o past h ordered pa = seen_of (λ past. memory o past pa) (λ word. ordered) o past h

-- the words at which walks may still end there although a pointer has stood there since, and all at which they may
-- end
module _ (h va : ℕ) (global : Bool) (asid : ℕ) (level : Level) (pa : ℕ) where
  abbrev pub turned_words : Opening → List Event → List (Option ℕ)
  turned_words o [] = []
  turned_words o (event ∷ past) =
      if orders_pointers global asid (effect_at o past event h) then []
      else turned_words o past
      ++ (if is_some_pointer level (memory o (event ∷ past) pa)
      then seen_words o past h (orders_ends va level global asid) pa else [])

  abbrev pub end_words : Opening → List Event → List (Option ℕ)
  end_words o past = seen_words o past h (orders_ends va level global asid) pa ++ turned_words o past

-- What walks from a table on give, each with whether it meets G, by the words at each physical address that they may
-- see as pointers and at their end (Privileged 4.3.2).
abbrev pub mixed_from : (pointers : (pa : ℕ) → List (Option ℕ)) → (ends : Level → (pa : ℕ) → List (Option ℕ)) → (va : ℕ)
    → Kind → (table : ℕ) → (global : Bool) → List Level → List (Bool × Result Leaf Cause)
mixed_from pointers ends va kind table global [] = (global, Err (page_fault kind)) ∷ []
mixed_from pointers ends va kind table global (level ∷ under) =
    flat_map (λ word. mixed_from pointers ends va kind (table_of word) (global || is_some_global word) under)
    (filter (is_some_pointer level) (pointers (table + 8 * part level va)))
    ++ map (λ word. (global || is_end_global word, outcome word va kind level global))
    (filter (λ word. not (is_some_pointer level word)) (ends level (table + 8 * part level va)))

-- whether two truth values are the same
abbrev pub is_bool : Bool → Bool → Bool
is_bool true other = other
is_bool false other = not other

module _ (o : Opening) (past : List Event) (h va : ℕ) (kind : Kind) (met : Bool) where
  -- Whether walks by this satp count: it translates the address and, for walks that don't meet G, is of the present
  -- address space.
  abbrev pub counts : ℕ → Bool
  counts by_satp =
      translates by_satp && (is_valid by_satp va && (met || (asid_of by_satp == asid_of (satp o past h))))

  -- what these walks give
  abbrev pub mixed_by : ℕ → List (Result Leaf Cause)
  mixed_by by_satp = map (λ (found : Bool × Result Leaf Cause). found.1)
      (filter (λ (found : Bool × Result Leaf Cause). is_bool met found.0)
      (mixed_from (seen_words o past h (orders_pointers met (asid_of by_satp)))
      (λ level pa. end_words h va met (asid_of by_satp) level pa o past)
      va kind (root_address by_satp) false (levels_from (scheme (paging_of by_satp)).root)))

  -- what the walks by all satps that count give
  abbrev pub mixed_results : List (Result Leaf Cause)
  mixed_results = flat_map mixed_by (filter counts (seen_satps o past h met))

-- The results that a TLB of hart h may give an access: the present one of the page tables, those by watched entries
-- that match, and those of walks that see words of different times (Privileged 4.2.1, 4.3.2).
abbrev pub given_results : Opening → List Event → (h va : ℕ) → Kind → List (Result Leaf Cause)
given_results o past h va kind =
    maps (memory o past) (satp o past h) va kind
    ∷ map (λ entry. by_right kind entry.leaf)
    (filter (matches (address_by (satp o past h) va)) (watched o past h va))
    ++ (mixed_results o past h va kind false ++ mixed_results o past h va kind true)

-- If satp translates the address, each result that a TLB may give (`given_results`) is the physical address or the
-- fault of now.
abbrev pub ResultsAgree : Opening → List Event → (h va : ℕ) → Kind → Type 0
ResultsAgree o past h va kind =
    IsTranslated (satp o past h) va
    → All (λ result. phys_of result va ≡ phys_of (maps (memory o past) (satp o past h) va kind) va)
    (given_results o past h va kind)

-- If satp translates the address, each result that a TLB may give (`given_results`) is the physical address or the
-- fault of now, or a page fault while the page tables give a leaf (Privileged 4.2.1).
abbrev pub ResultsAreLenient : Opening → List Event → (h va : ℕ) → Kind → Type 0
ResultsAreLenient o past h va kind =
    IsTranslated (satp o past h) va
    → All (λ result. (phys_of result va ≡ phys_of (maps (memory o past) (satp o past h) va kind) va)
    ⊎ ((result ≡ Err (page_fault kind)) × IsMapped o past h va kind)) (given_results o past h va kind)
