use Rattle.std.proofs.Common.{ℕ, Option, sym, ap, ◌∙◌, arith}
use Rattle.hart_access.proofs.Past.{no_word_past}
use Rattle.access_marks.proofs.changes.word.Goals as goal

pub returns-then-at-from : goal.returns-then-at-from
returns-then-at-from c =
    sym (no_word_past c.ram-ram.result.now c.args.at (omega (arith, c.if-at-from.true, c.from.ensures)))
    ∙ ap (λ (m : ℕ → Option ℕ). m c.args.at) c.ram-ram.ensures
