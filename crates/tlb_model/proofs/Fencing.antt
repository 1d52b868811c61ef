-- What a fence leaves in sixteen places.
use Rattle.std.proofs.Common.{◌≡◌, ◌≢◌, ℕ, zero, suc, ◌%◌, ◌*◌, ◌^◌, ◌<◌, Bool, true, false, not, ◌&&◌, ◌||◌, ◌==◌, List, ◌∷◌, ◌++◌, get_or, refl, sym, ap, ◌∙◌, Option, Some, None, is_none, arith, bit_or}
use Rattle.std.specs.Prelude.{filter, slice_get}
use Rattle.std.specs.Int.{bit_at, from_bool, w16}
use Rattle.std.proofs.lemmas.Bool.{and_parts, eqb-false, eqb-true}
use Rattle.std.proofs.lemmas.Nat.{or_shifted}
use Rattle.std.proofs.lemmas.Nat.Bits.{bit_at-lt, bit_at-zero, bit_at_set_other, bit_at_set_same}
use Rattle.sv39.specs.declared.page.Leaf.{Leaf}
use Rattle.tlb_model.specs.declared.cache.Numbered.{Numbered}
use Rattle.tlb_model.specs.declared.fence.Fence.{Fence}
use Rattle.tlb_model.specs.declared.fence.Flush.TheVariants.{Entries}
use Rattle.tlb_model.specs.declared.fence.Range.{Range}
use Rattle.tlb_model.specs.Entries.{Entry, covers_entry, is_in_space, reaches}
use Rattle.tlb_model.specs.Inside.Places.{kept, seen}
use Rattle.tlb_model.proofs.Places.{same_place}

or-none : (w : ℕ) → bit_or w 0 ≡ w
or-none w =
    let same : w ≡ w * 2 ^ 0 = omega arith in
    ap (λ v. bit_or v 0) same ∙ or_shifted w 0 0 (omega arith) ∙ omega arith

-- a fence of all addresses in all address spaces
all_spaces : (asid : Option ℕ) (entry : Entry) → is_none asid ≡ true → is_in_space asid entry ≡ true
all_spaces None entry none = refl
all_spaces (Some asid) entry none = cc

all_addresses : (range : Option Range) (leaf : Leaf) → is_none range ≡ true → reaches range leaf ≡ true
all_addresses None leaf none = refl
all_addresses (Some range) leaf none = cc

pub all_covered : (fence : Fence) (entry : Entry) → (is_none fence.asid && is_none fence.range) ≡ true → covers_entry (Entries fence) entry ≡ true
all_covered fence entry whole =
    let both = and_parts (is_none fence.asid) (is_none fence.range) whole in
    rw (all_spaces fence.asid entry both.0) (all_addresses fence.range entry.leaf both.1)

module _ {E : Type 0} where
  -- what a fence leaves, by its places
  fenced-places : (p : Numbered E → Bool) (q : E → Bool) → ((fill : Numbered E) → p fill ≡ not (q fill.item)) → (n k : ℕ) (places : List E) (ds : List ℕ) (d w : ℕ)
      → ((i : ℕ) (item : E) → i < 16 → slice_get places i ≡ Some item → (bit_at w i == 1) ≡ (bit_at d i == 1) || q item)
      → seen n k places ds w ≡ filter p (seen n k places ds d)
  fenced-places p q is zero k places ds d w which = refl
  fenced-places p q is (suc n) zero places ds d w which = refl
  fenced-places p q is (suc n) (suc k) places ds d w which =
      by_place (slice_get places (n % 16)) (which (n % 16)) (fenced-places p q is n k places ds d w which)
    where
      by_bits : (item : E) (new old gone : Bool) → new ≡ old || gone → p (record { date = get_or ds (n % 16) 0; number = n; item = item }) ≡ not gone
          → seen n k places ds w ≡ filter p (seen n k places ds d)
          → kept (Some item) new (get_or ds (n % 16) 0) n ++ seen n k places ds w ≡ filter p (kept (Some item) old (get_or ds (n % 16) 0) n ++ seen n k places ds d)
      by_bits item true true gone e keeps rest = rest
      by_bits item false true gone e keeps rest = cc
      by_bits item true false false e keeps rest = cc
      by_bits item true false true e keeps rest = rw keeps rest
      by_bits item false false false e keeps rest = rw keeps (ap (λ zs. record { date = get_or ds (n % 16) 0; number = n; item = item } ∷ zs) rest)
      by_bits item false false true e keeps rest = cc

      by_place : (place : Option E) → ((item : E) → n % 16 < 16 → place ≡ Some item → (bit_at w (n % 16) == 1) ≡ (bit_at d (n % 16) == 1) || q item)
          → seen n k places ds w ≡ filter p (seen n k places ds d)
          → kept place (bit_at w (n % 16) == 1) (get_or ds (n % 16) 0) n ++ seen n k places ds w ≡ filter p (kept place (bit_at d (n % 16) == 1) (get_or ds (n % 16) 0) n ++ seen n k places ds d)
      by_place None here rest = rest
      by_place (Some item) here rest =
          by_bits item (bit_at w (n % 16) == 1) (bit_at d (n % 16) == 1) (q item) (here item (omega arith) refl) (is (record { date = get_or ds (n % 16) 0; number = n; item = item })) rest

  -- a fence that has looked at all places but those whose bits are left
  pub record IsFenced (q : E → Bool) (places : List E) (d left w : ℕ) : Type 0 where
    pub done : (i : ℕ) (item : E) → i < 16 → slice_get places i ≡ Some item → bit_at left i ≡ 0 → (bit_at w i == 1) ≡ (bit_at d i == 1) || q item
    pub undone : (i : ℕ) → i < 16 → bit_at left i ≡ 1 → (bit_at w i ≡ 0) × (bit_at d i ≡ 0)

  pub fence_begins : (q : E → Bool) (places : List E) (d left : ℕ)
      → ((i : ℕ) (item : E) → slice_get places i ≡ Some item → bit_at left i ≡ 0 → bit_at d i ≡ 0 → q item ≡ false)
      → ((i : ℕ) → bit_at left i ≡ 1 → bit_at d i ≡ 0) → IsFenced q places d left d
  fence_begins q places d left spared kept = record {
    done = λ i item below here clear. done (q item) (bit_at d i) (bit_at-lt d i) (spared i item here clear);
    undone = λ i below set. (kept i set, kept i set);
  }
    where
      done : (covered : Bool) (bit : ℕ) → bit < 2 → (bit ≡ 0 → covered ≡ false) → (bit == 1) ≡ (bit == 1) || covered
      done covered zero small none = rw (none refl) refl
      done covered (suc zero) small none = refl
      done covered (suc (suc bit)) small none = absurd (omega arith)

  pub fence_drops : (q : E → Bool) (places : List E) (d left w rest v place : ℕ) (item : E) → IsFenced q places d left w → place < 16
      → slice_get places place ≡ Some item → q item ≡ true → bit_at left place ≡ 1 → bit_at rest place ≡ 0
      → ((i : ℕ) → i < 16 → i ≢ place → bit_at rest i ≡ bit_at left i) → bit_at v place ≡ 1 → ((i : ℕ) → i ≢ place → bit_at v i ≡ bit_at w i)
      → IsFenced q places d rest v
  fence_drops q places d left w rest v place item before below here covered set clear same dropped others = record {
    done = λ i x within there looked. done i x within there looked (i == place) refl;
    undone = λ i within is.
        let other : i ≢ place = λ e. absurd (omega (arith, is, ap (bit_at rest) e, clear)) in
        let was = before.undone i within (sym (same i within other) ∙ is) in
        (others i other ∙ was.0, was.1);
  }
    where
      done : (i : ℕ) (x : E) → i < 16 → slice_get places i ≡ Some x → bit_at rest i ≡ 0 → (b : Bool) → (i == place) ≡ b → (bit_at v i == 1) ≡ (bit_at d i == 1) || q x
      done i x within there looked true is =
          let e = eqb-true i place is in
          let old : bit_at d i ≡ 0 = ap (bit_at d) e ∙ (before.undone place below set).1 in
          let new : bit_at v i ≡ 1 = ap (bit_at v) e ∙ dropped in
          let one : q x ≡ true = same_place q places i place x item e there here ∙ covered in
          rw (old, new, one) refl
      done i x within there looked false is =
          let other = eqb-false i place is in
          ap (λ b. b == 1) (others i other) ∙ before.done i x within there (sym (same i within other) ∙ looked)

  pub fence_spares : (q : E → Bool) (places : List E) (d left w rest place : ℕ) (item : E) → IsFenced q places d left w → place < 16
      → slice_get places place ≡ Some item → q item ≡ false → bit_at left place ≡ 1 → bit_at rest place ≡ 0
      → ((i : ℕ) → i < 16 → i ≢ place → bit_at rest i ≡ bit_at left i) → IsFenced q places d rest w
  fence_spares q places d left w rest place item before below here spared set clear same = record {
    done = λ i x within there looked. done i x within there looked (i == place) refl;
    undone = λ i within is.
        let other : i ≢ place = λ e. absurd (omega (arith, is, ap (bit_at rest) e, clear)) in
        before.undone i within (sym (same i within other) ∙ is);
  }
    where
      done : (i : ℕ) (x : E) → i < 16 → slice_get places i ≡ Some x → bit_at rest i ≡ 0 → (b : Bool) → (i == place) ≡ b → (bit_at w i == 1) ≡ (bit_at d i == 1) || q x
      done i x within there looked true is =
          let e = eqb-true i place is in
          let was = before.undone place below set in
          let old : bit_at d i ≡ 0 = ap (bit_at d) e ∙ was.1 in
          let new : bit_at w i ≡ 0 = ap (bit_at w) e ∙ was.0 in
          let one : q x ≡ false = same_place q places i place x item e there here ∙ spared in
          rw (old, new, one) refl
      done i x within there looked false is =
          let other = eqb-false i place is in
          before.done i x within there (sym (same i within other) ∙ looked)

  -- the same, of an item that a fence drops or spares
  pub fence_step : (q : E → Bool) (places : List E) (d left w rest place : ℕ) (item : E) (b : Bool) (v : ℕ) → IsFenced q places d left w → place < 16
      → slice_get places place ≡ Some item → q item ≡ b → v ≡ from_bool b → bit_at left place ≡ 1 → bit_at rest place ≡ 0
      → ((i : ℕ) → i < 16 → i ≢ place → bit_at rest i ≡ bit_at left i) → IsFenced q places d rest (bit_or w (v * 2 ^ place % 65536))
  fence_step q places d left w rest place item true v before below here covered value set clear same =
      rw value (fence_drops q places d left w rest (bit_or w (1 * 2 ^ place % 65536)) place item before below here covered set clear same
      (bit_at_set_same w16 w place below) (λ i other. bit_at_set_other w16 w place below i other))
  fence_step q places d left w rest place item false v before below here spared value set clear same =
      let nothing : 0 * 2 ^ place % 65536 ≡ 0 = omega arith in
      rw (value, nothing, or-none w) (fence_spares q places d left w rest place item before below here spared set clear same)

  pub fence_ends : (p : Numbered E → Bool) (q : E → Bool) → ((fill : Numbered E) → p fill ≡ not (q fill.item)) → (n k : ℕ) (places : List E) (ds : List ℕ) (d w : ℕ)
      → IsFenced q places d 0 w → seen n k places ds w ≡ filter p (seen n k places ds d)
  fence_ends p q is n k places ds d w all = fenced-places p q is n k places ds d w (λ i item below here. all.done i item below here (bit_at-zero i))
