-- One level deeper, one operator more, and the number of tokens.
use Rattle.std.proofs.Common.{◌≡◌, ℕ, zero, suc, ◌-◌, ◌<◌, List, length, ap, arith}
use Rattle.std.proofs.lemmas.List.{length-map}
use Rattle.asm_tokens.specs.declared.reader.Placed.{Placed}
use Rattle.asm_tokens.specs.Readings.{TokenSpot, spots_of, token_spot}
use Rattle.asm_expressions.specs.declared.operators.Level.{Level}
use Rattle.asm_expressions.specs.Symbols.{Context}
use Rattle.asm_expressions.specs.Operators.{joint_in}
use Rattle.asm_expressions.specs.Values.{ValueOutcome, ValueRead, inner_level, joined_by, joins, value_at, level_value}

pub value_deeper : (scope : Context) (depth : ℕ) (level : Level) (tokens : List TokenSpot) → 0 < depth
    → value_at scope depth level tokens ≡ level_value scope (value_at scope (depth - 1)) level (inner_level level) tokens
value_deeper scope zero level tokens some = absurd (omega arith)
value_deeper scope (suc depth) level tokens some =
    let less : depth ≡ suc depth - 1 = omega arith in
    ap (λ k. level_value scope (value_at scope k) level (inner_level level) tokens) less

pub joins_more : (operand : List TokenSpot → ValueOutcome) (level : Level) (n : ℕ) (found : ValueRead) → 0 < n
    → joins operand level n found ≡ joined_by operand (joint_in level found.rest) found (joins operand level (n - 1))
joins_more operand level zero found some = absurd (omega arith)
joins_more operand level (suc n) found some =
    let less : n ≡ suc n - 1 = omega arith in
    ap (λ k. joined_by operand (joint_in level found.rest) found (joins operand level k)) less

pub spots_length : (tokens : List Placed) → length (spots_of tokens) ≡ length tokens
spots_length tokens = length-map tokens token_spot
