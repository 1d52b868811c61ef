-- One level deeper, one connective more, and the number of tokens.
use Rattle.std.proofs.Common.{◌≡◌, ℕ, zero, suc, ◌-◌, ◌<◌, List, length, ap, arith}
use Rattle.std.proofs.lemmas.List.{length-map}
use Rattle.asm_tokens.specs.declared.reader.Placed.{Placed}
use Rattle.asm_tokens.specs.Readings.{TokenSpot, spots_of, token_spot}
use Rattle.asm_expressions.specs.Symbols.{Context}
use Rattle.end_conditions.specs.declared.connectives.Level.{Level}
use Rattle.end_conditions.specs.Connectives.{connective_in}
use Rattle.end_conditions.specs.Finals.{Finals}
use Rattle.end_conditions.specs.Truths.{TruthOutcome, TruthRead, tighter_level, connected_by, connections, level_truth, truth_at}

pub truth_deeper : (scope : Context) (finals : Finals) (depth : ℕ) (level : Level) (tokens : List TokenSpot) → 0 < depth
    → truth_at scope finals depth level tokens ≡ level_truth scope finals (truth_at scope finals (depth - 1)) level (tighter_level level) tokens
truth_deeper scope finals zero level tokens some = absurd (omega arith)
truth_deeper scope finals (suc depth) level tokens some =
    let less : depth ≡ suc depth - 1 = omega arith in
    ap (λ k. level_truth scope finals (truth_at scope finals k) level (tighter_level level) tokens) less

pub connections_more : (operand : List TokenSpot → TruthOutcome) (level : Level) (n : ℕ) (found : TruthRead) → 0 < n
    → connections operand level n found ≡ connected_by operand (connective_in level found.rest) found (connections operand level (n - 1))
connections_more operand level zero found some = absurd (omega arith)
connections_more operand level (suc n) found some =
    let less : n ≡ suc n - 1 = omega arith in
    ap (λ k. connected_by operand (connective_in level found.rest) found (connections operand level k)) less

pub spots_length : (tokens : List Placed) → length (spots_of tokens) ≡ length tokens
spots_length tokens = length-map tokens token_spot
