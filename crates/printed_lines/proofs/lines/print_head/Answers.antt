use Rattle.std.proofs.Common.{ℕ, List, ap, ◌∙◌, rules}
use Rattle.printed_lines.specs.LineText.{with_words}
use Rattle.printed_lines.specs.Words.{board_line_words, spaces_words}
use Rattle.printed_lines.proofs.lines.print_head.Goals as goal

pub returns : goal.returns
returns g c =
    c.put.ensures.puts (board_line_words c.args.config.now)
    (c.spaces_onto.ensures.text ∙ ap (λ (l : List ℕ). with_words l (spaces_words c.args.config.now)) (search rules))
