-- After a fence of everything nothing older may be seen.
use Rattle.std.proofs.Common.{◌≡◌, ℕ, suc, ◌+◌, ◌*◌, ◌≤◌, Bool, true, false, List, [], ◌∷◌, subst, refl, sym, ap, ◌∙◌, arith, Option, Result, Err, inl, inr}
use Rattle.std.specs.Prelude.{◌⊎◌, ◌||◌, if◌then◌else◌}
use Rattle.std.proofs.lemmas.Bool.{both_ways, cases_lt}
use Rattle.rfence.specs.Applied.{Effect}
use Rattle.sv39.specs.declared.cause.Cause.{Cause}
use Rattle.sv39.specs.declared.cause.Kind.{Kind}
use Rattle.sv39.specs.declared.page.Leaf.{Leaf}
use Rattle.sv39.specs.declared.page.Level.{Level}
use Rattle.sv39.specs.declared.page.Level.TheVariants.{Kilo}
use Rattle.sv39.specs.Causes.{page_fault}
use Rattle.sv39.specs.Maps.{found_from, is_some_global, is_some_pointer, maps, outcome, table_of}
use Rattle.sv39.specs.Pages.{levels_from, part}
use Rattle.sv39.specs.Paging.{scheme}
use Rattle.sv39.specs.Satp.{asid_of, is_valid, paging_of, root_address}
use Rattle.tlb_model.specs.declared.fence.Flush.{Flush}
use Rattle.board_core.specs.Cuts.{IsOpened}
use Rattle.board_core.specs.History.{Event}
use Rattle.board_core.specs.Memory.{memory, satp}
use Rattle.board_core.specs.Opening.{Opening, place_after}
use Rattle.board_laws.specs.Places.{IsAtPlace, past_at}
use Rattle.board_laws.proofs.Places.{at-earlier, length-past_at, past_at-again, within}
use Rattle.any_tlb.specs.Effects.{MaySee, effect_at}
use Rattle.any_tlb.specs.Fenced.{AfterFence, CountsSince, IsUnchanged}
use Rattle.any_tlb.specs.Firm.{AreOneWord, IsFirm}
use Rattle.any_tlb.specs.FirmFences.{IsOneWay, NothingChanged, WasFullyFenced}
use Rattle.any_tlb.specs.Mixed.{MaySeeTurned, MaySeeWord, orders_ends, orders_pointers}
use Rattle.any_tlb.specs.Steady.{phys_of}
use Rattle.any_tlb.proofs.Fences.{fenced_is_steady, pointers-ends}
use Rattle.any_tlb.proofs.Mixing.{unchanged_ways_are_firm}
use Rattle.any_tlb.proofs.Sources.{all-of, before-more, kept-more, seen-since}

-- ---- what was seen before a fence isn't seen any more

module _ (o : Opening) (past : List Event) (h place : ℕ) (event : Event) (at : IsAtPlace o past place event) where
  -- what may be seen was so at a place after the fence
  seen-later : {A : Type 0} (of : List Event → A) (ordered : Effect Flush → Bool) (value now : A) → ordered (effect_at o (past_at o past place) event h) ≡ true
      → ((m : ℕ) → suc place ≤ m → m ≤ place_after o past → of (past_at o past m) ≡ now) → MaySee of ordered o past h value → value ≡ now
  seen-later of ordered value now orders same sees =
      let s = seen-since of ordered o past h value sees in
      elim (cases_lt place s.place) [
        | inl after ↦ sym s.is ∙ same s.place (omega arith) s.upto
        | inr before ↦ absurd (both_ways (ordered (effect_at o (past_at o past place) event h)) (s.kept place event before at) orders)
      ]

-- the place of the event at which a pointer came, after which nothing ordered pointers
record TurnedAt (o : Opening) (past : List Event) (h va : ℕ) (global : Bool) (asid : ℕ) (level : Level) (pa : ℕ) (word : Option ℕ) : Type 0 where
  turn : ℕ
  since : o.places ≤ turn
  upto : turn ≤ place_after o past
  sees : MaySeeWord o (past_at o past turn) h (orders_ends va level global asid) pa word
  kept : (m : ℕ) (event : Event) → turn ≤ m → IsAtPlace o past m event → orders_pointers global asid (effect_at o (past_at o past m) event h) ≡ false

turned-at : (o : Opening) (past : List Event) (h va : ℕ) (global : Bool) (asid : ℕ) (level : Level) (pa : ℕ) (word : Option ℕ) → MaySeeTurned o past h va global asid level pa word
    → TurnedAt o past h va global asid level pa word
turned-at o [] h va global asid level pa word turned = absurd turned
turned-at o (event ∷ past) h va global asid level pa word turned = by_place turned.0 (λ before. turned-at o past h va global asid level pa word before)
  where
    by_place : MaySeeTurned o past h va global asid level pa word ⊎ (MaySeeWord o past h (orders_ends va level global asid) pa word × (is_some_pointer level (memory o (event ∷ past) pa) ≡ true))
        → (MaySeeTurned o past h va global asid level pa word → TurnedAt o past h va global asid level pa word) → TurnedAt o (event ∷ past) h va global asid level pa word
    by_place (inl before) rest =
        let t = rest before in
        let upto = t.upto in
        record {
          turn = t.turn;
          since = t.since;
          upto = omega arith;
          sees = subst (λ (older : List Event). MaySeeWord o older h (orders_ends va level global asid) pa word) (sym (before-more o event past t.turn upto)) t.sees;
          kept = kept-more o event past h (orders_pointers global asid) t.turn t.kept turned.1;
        }
    by_place (inr now) rest = record {
      turn = place_after o past;
      since = omega arith;
      upto = omega arith;
      sees = subst (λ (older : List Event). MaySeeWord o older h (orders_ends va level global asid) pa word) (sym (before-more o event past (place_after o past) (omega arith) ∙ all-of o past)) now.0;
      kept = kept-more o event past h (orders_pointers global asid) (place_after o past) (λ m other upto at. absurd (let inside = within o past m other at in omega arith)) turned.1;
    }

-- ---- the rule

module _ (o : Opening) (past : List Event) (h place va : ℕ) (fenced : WasFullyFenced o past h place) (unchanged : NothingChanged o past h (suc place) va) where
  ends-fence : (level : Level) (global : Bool) (asid : ℕ) → orders_ends va level global asid (effect_at o (past_at o past place) fenced.event h) ≡ true
  ends-fence level global asid = pointers-ends va level global asid (effect_at o (past_at o past place) fenced.event h) (fenced.fences global asid)

  turned-later : (global : Bool) (asid : ℕ) (level : Level) (pa : ℕ) (word : Option ℕ)
      → ((m : ℕ) → suc place ≤ m → m ≤ place_after o past → memory o (past_at o past m) pa ≡ memory o past pa) → MaySeeTurned o past h va global asid level pa word → word ≡ memory o past pa
  turned-later global asid level pa word same turned =
      let t = turned-at o past h va global asid level pa word turned in
      elim (cases_lt place t.turn) [
        | inl after ↦
            let size = length-past_at o past t.turn t.since t.upto in
            let since = fenced.happened.since in
            let at = at-earlier o past t.turn place fenced.event after t.upto fenced.happened in
            seen-later o (past_at o past t.turn) h place fenced.event at (λ past. memory o past pa) (orders_ends va level global asid) word (memory o past pa)
            (subst (λ (older : List Event). orders_ends va level global asid (effect_at o older fenced.event h) ≡ true) (sym (past_at-again o past t.turn place since (omega arith) t.upto)) (ends-fence level global asid))
            (λ m from upto. ap (λ (older : List Event). memory o older pa) (past_at-again o past t.turn m (omega arith) (omega arith) t.upto) ∙ same m from (let within = t.upto in omega arith)) t.sees
        | inr before ↦
            absurd (both_ways (orders_pointers global asid (effect_at o (past_at o past place) fenced.event h)) (t.kept place fenced.event before fenced.happened) (fenced.fences global asid))
      ]

  one-words : (met : Bool) (asid : ℕ) (levels : List Level) (table : ℕ) → IsOneWay o past (suc place) va table levels → AreOneWord o past h va met asid table levels
  one-words met asid [] table way = tt
  one-words met asid (level ∷ under) table way =
      let pa = table + 8 * part level va in (
        record {
          pointers = λ word sees pointer.
              seen-later o past h place fenced.event fenced.happened (λ past. memory o past pa) (orders_pointers met asid) word (memory o past pa) (fenced.fences met asid) way.0 sees;
          ends = λ word sees other. elim sees [
            | inl sees ↦ seen-later o past h place fenced.event fenced.happened (λ past. memory o past pa) (orders_ends va level met asid) word (memory o past pa) (ends-fence level met asid) way.0 sees
            | inr turned ↦ turned-later met asid level pa word way.0 turned
          ];
        },
        one-words met asid under (table_of (memory o past pa)) way.1,
      )

  -- the page tables gave the same since
  way-found : (kind : Kind) (m : ℕ) → suc place ≤ m → m ≤ place_after o past → (levels : List Level) (table : ℕ) (global : Bool) → IsOneWay o past (suc place) va table levels
      → found_from (memory o (past_at o past m)) va kind table global levels ≡ found_from (memory o past) va kind table global levels
  way-found kind m from upto [] table global way = refl
  way-found kind m from upto (level ∷ under) table global way =
      let pa = table + 8 * part level va in
      let word = way.0 m from upto in
      let rest = way-found kind m from upto under (table_of (memory o past pa)) (global || is_some_global (memory o past pa)) way.1 in
      (λ i. if is_some_pointer level (word i) then found_from (memory o (past_at o past m)) va kind (table_of (word i)) (global || is_some_global (word i)) under else outcome (word i) va kind level global)
      ∙ ap (λ r. if is_some_pointer level (memory o past pa) then r else outcome (memory o past pa) va kind level global) rest

  maps-same : (kind : Kind) (m : ℕ) → suc place ≤ m → m ≤ place_after o past → maps (memory o (past_at o past m)) (satp o past h) va kind ≡ maps (memory o past) (satp o past h) va kind
  unfolding maps
  maps-same kind m from upto =
      ap (λ (r : Result Leaf Cause). if is_valid (satp o past h) va then r else Err (page_fault kind))
      (way-found kind m from upto (levels_from (scheme (paging_of (satp o past h))).root) (root_address (satp o past h)) false unchanged.way)

  phys-same : (kind : Kind) (had there : ℕ) → suc place ≤ had → had ≤ there → there ≤ place_after o past
      → phys_of (maps (memory o (past_at o past there)) (satp o (past_at o past had) h) va kind) va ≡ phys_of (maps (memory o past) (satp o past h) va kind) va
  phys-same kind had there from later upto =
      ap (λ s. phys_of (maps (memory o (past_at o past there)) s va kind) va) (unchanged.satps had from (omega arith))
      ∙ ap (λ r. phys_of r va) (maps-same kind there (omega arith) upto)

  tables-same : (kind : Kind) → IsUnchanged o past h (suc place) (suc place) va kind
  tables-same kind = record {
    in_space = λ had there from later upto translates same. phys-same kind had there from later upto;
    in_all = λ had there other leaf from later upto translates gives global. phys-same kind had there from later upto;
  }

  clear : (global : Bool) → CountsSince o past h va global (asid_of (satp o past h)) (suc place)
  clear global = AfterFence place refl (record { event = fenced.event; happened = fenced.happened; fences = ends-fence Kilo global (asid_of (satp o past h)) })

  pub fully-fenced : IsOpened o → (kind : Kind) → IsFirm o past h va kind
  fully-fenced opened kind = unchanged_ways_are_firm o past h va kind (record {
    one_root = λ met value sees mode space.
        let same = seen-later o past h place fenced.event fenced.happened (λ past. satp o past h) (orders_pointers met (asid_of value)) value (satp o past h) (fenced.fences met (asid_of value)) unchanged.satps sees in
        (ap paging_of same, ap root_address same);
    one_way = λ met asid space. one-words met asid (levels_from (scheme (paging_of (satp o past h))).root) (root_address (satp o past h)) unchanged.way;
    steady = fenced_is_steady o past h va (suc place) (suc place) kind opened (clear false) (clear true) (tables-same kind);
  })

pub fully_fenced_is_firm : (o : Opening) (past : List Event) (h va place : ℕ) (kind : Kind) → IsOpened o → WasFullyFenced o past h place → NothingChanged o past h (suc place) va
    → IsFirm o past h va kind
fully_fenced_is_firm o past h va place kind opened fenced unchanged = fully-fenced o past h place va fenced unchanged opened kind
