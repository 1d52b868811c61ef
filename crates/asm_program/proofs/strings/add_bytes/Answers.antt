use Rattle.std.proofs.Common.{◌≡◌, ◌<◌, List, length, sym, ap, ◌∙◌, inl, inr, rules, Option, Some, ℕ}
use Rattle.std.specs.Prelude.{◌⊎◌}
use Rattle.asm_program.specs.Inside.Passes.{with_before}
use Rattle.asm_program.specs.Strings.{placed_or, string_bytes, tail_of}
use Rattle.asm_program.proofs.More.{before_none}
use Rattle.asm_program.proofs.StringBytes.{bytes_done, string_more}
use Rattle.asm_program.proofs.strings.add_bytes.Goals.{then-bytes-test+else-not-is_empty, else-bytes-test}
use Rattle.asm_program.proofs.strings.add_bytes.Goals as goal

pub bytes-preserved : goal.bytes-preserved
bytes-preserved c =
    let some : 0 < length c.bytes.rest.now = search rules in
    string_more (tail_of c.args.is_ended) c.bytes.numbers.items c.add_byte.new.numbers.items c.bytes.next c.args.left c.bytes.most c.in-Some.byte
    c.bytes.rest.now c.in-Some.behind.now (with_before c.args.numbers.now.items (placed_or c.args.at c.args.left (string_bytes (tail_of c.args.is_ended) c.args.text.now)))
    c.bytes.invariant c.bytes-test.true some c.in-Some.ensures.byte c.in_ok-add_byte.ensures.added

pub returns-else-is_ended-clause-added : goal.returns-else-is_ended-clause-added
returns-else-is_ended-clause-added c =
    let over : (c.bytes.most ≡ 0) ⊎ (length c.bytes.rest.now ≡ 0) = elim c.bytes-test.branch [
      | then-bytes-test+else-not-is_empty w ↦ inr (search rules)
      | else-bytes-test w ↦ inl (search rules)
    ] in
    sym c.bytes.invariant
    ∙ ap (λ (bytes : Option (List ℕ)). with_before c.bytes.numbers.items (placed_or c.bytes.next c.args.left bytes)) (bytes_done (tail_of c.args.is_ended) c.bytes.most c.bytes.rest.now over)
    ∙ ap (λ (tail : List ℕ). with_before c.bytes.numbers.items (placed_or c.bytes.next c.args.left (Some tail))) (ap tail_of c.if-is_ended.false)
    ∙ before_none c.bytes.numbers.items
