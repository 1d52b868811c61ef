-- What is kept of a leaf in a byte says what the leaf does.
use Rattle.std.proofs.Common.{◌≡◌, ℕ, ◌+◌, ◌*◌, ◌/◌, ◌%◌, suc, Bool, true, false, refl, ap, ◌∙◌, arith, ◌==◌}
use Rattle.std.specs.Int.{bit_at}
use Rattle.std.proofs.lemmas.Nat.Bits.{bit_at_lowest, bit_at-suc}
use Rattle.sv39.specs.declared.page.Leaf.{Leaf}
use Rattle.sv39.specs.Entries.{has_bit}
use Rattle.tlb_model.specs.Inside.KeptRights.{bit, leaf_in, rights_of}

halved : (b : Bool) (k : ℕ) → (bit b + 2 * k) / 2 ≡ k
halved true k = omega arith
halved false k = omega arith

odd : (k : ℕ) → (1 + 2 * k) % 2 ≡ 1
odd k = omega arith

even : (k : ℕ) → (0 + 2 * k) % 2 ≡ 0
even k = omega arith

lowest : (b : Bool) (k : ℕ) → has_bit 0 (bit b + 2 * k) ≡ b
lowest true k = ap (λ n. n == 1) (bit_at_lowest (1 + 2 * k) ∙ odd k)
lowest false k = ap (λ n. n == 1) (bit_at_lowest (0 + 2 * k) ∙ even k)

higher : (i : ℕ) (b : Bool) (k : ℕ) → has_bit (suc i) (bit b + 2 * k) ≡ has_bit i k
higher i b k = ap (λ n. n == 1) (bit_at-suc (bit b + 2 * k) i ∙ ap (λ n. bit_at n i) (halved b k))

highest : (b : Bool) → has_bit 0 (bit b) ≡ b
highest true = refl
highest false = refl

pub leaf_again : (leaf : Leaf) → leaf_in leaf.page leaf.pa leaf.level (rights_of leaf) ≡ leaf
leaf_again leaf = λ i. record {
  page = leaf.page;
  pa = leaf.pa;
  level = leaf.level;
  global = lowest leaf.global r i;
  r = (higher 0 leaf.global r ∙ lowest leaf.r w) i;
  w = (higher 1 leaf.global r ∙ higher 0 leaf.r w ∙ lowest leaf.w x) i;
  x = (higher 2 leaf.global r ∙ higher 1 leaf.r w ∙ higher 0 leaf.w x ∙ lowest leaf.x d) i;
  d = (higher 3 leaf.global r ∙ higher 2 leaf.r w ∙ higher 1 leaf.w x ∙ higher 0 leaf.x d ∙ highest leaf.d) i;
}
  where
    -- the bits from each on
    d : ℕ
    d = bit leaf.d

    x : ℕ
    x = bit leaf.x + 2 * d

    w : ℕ
    w = bit leaf.w + 2 * x

    r : ℕ
    r = bit leaf.r + 2 * w
