use Rattle.std.proofs.Common.{◌≡◌, ◌<◌, ◌+◌, List, length, sym, ap, ◌∙◌, arith, inl, inr, rules, Some, ℕ}
use Rattle.std.specs.Prelude.{◌⊎◌, option_map}
use Rattle.asm_program.specs.Strings.{string_bytes, tail_of}
use Rattle.asm_program.proofs.StringBytes.{bytes_done, bytes_fail, size_more}
use Rattle.asm_program.proofs.strings.bytes_of.Goals.{then-bytes-test+else-not-is_empty, else-bytes-test}
use Rattle.asm_program.proofs.strings.bytes_of.Goals as goal

pub bytes-preserved : goal.bytes-preserved
bytes-preserved c =
    let some : 0 < length c.bytes.rest.now = search rules in (
      size_more (tail_of c.args.is_ended) c.bytes.size c.bytes.most _ c.bytes.rest.now c.in-Some.behind.now (option_map length (string_bytes (tail_of c.args.is_ended) c.args.text.now))
          c.bytes.invariant.0 c.bytes-test.true some c.in-Some.ensures.byte,
      omega (arith, c.bytes.invariant.1, c.bytes-test.true),
    )

pub returns-in_default : goal.returns-in_default
returns-in_default c =
    let some : 0 < length c.bytes.rest.now = search rules in
    ap (option_map (λ bytes. c.bytes.size + length bytes)) (sym (bytes_fail (tail_of c.args.is_ended) c.bytes.most c.bytes.rest.now c.bytes-test.true some c.in_default.ensures.byte))
    ∙ c.bytes.invariant.0

pub returns-then-is_ended : goal.returns-then-is_ended
returns-then-is_ended c =
    let over : (c.bytes.most ≡ 0) ⊎ (length c.bytes.rest.now ≡ 0) = elim c.bytes-test.branch [
      | then-bytes-test+else-not-is_empty w ↦ inr (search rules)
      | else-bytes-test w ↦ inl (search rules)
    ] in
    ap (λ (tail : List ℕ). Some (c.bytes.size + length tail)) (sym (ap tail_of c.if-is_ended.true))
    ∙ ap (option_map (λ bytes. c.bytes.size + length bytes)) (sym (bytes_done (tail_of c.args.is_ended) c.bytes.most c.bytes.rest.now over)) ∙ c.bytes.invariant.0

pub returns-else-is_ended : goal.returns-else-is_ended
returns-else-is_ended c =
    let over : (c.bytes.most ≡ 0) ⊎ (length c.bytes.rest.now ≡ 0) = elim c.bytes-test.branch [
      | then-bytes-test+else-not-is_empty w ↦ inr (search rules)
      | else-bytes-test w ↦ inl (search rules)
    ] in
    let same : c.bytes.size ≡ c.bytes.size + 0 = omega arith in
    ap Some same
    ∙ ap (λ (tail : List ℕ). Some (c.bytes.size + length tail)) (sym (ap tail_of c.if-is_ended.false))
    ∙ ap (option_map (λ bytes. c.bytes.size + length bytes)) (sym (bytes_done (tail_of c.args.is_ended) c.bytes.most c.bytes.rest.now over)) ∙ c.bytes.invariant.0
