-- One level of `li` more.
use Rattle.std.proofs.Common.{◌≡◌, ℕ, zero, suc, ◌+◌, ◌-◌, ◌<◌, ◌==◌, if◌then◌else◌, ap, arith}
use Rattle.asm_expressions.specs.Parts.{low_part}
use Rattle.asm_instructions.specs.Ranges.{is_signed_word, li_parts, odd_upper, word_parts}

pub parts_more : (most value : ℕ) → 0 < most
    → li_parts most value ≡ (if is_signed_word value then word_parts value else li_parts (most - 1) (odd_upper value) + (if low_part value == 0 then 1 else 2))
parts_more zero value some = absurd (omega arith)
parts_more (suc most) value some =
    let less : most ≡ suc most - 1 = omega arith in
    ap (λ k. if is_signed_word value then word_parts value else li_parts k (odd_upper value) + (if low_part value == 0 then 1 else 2)) less
