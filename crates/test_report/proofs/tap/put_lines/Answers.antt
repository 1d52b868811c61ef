use Rattle.std.proofs.Common.{ℕ, List, ◌++◌, flat_map, string_bytes, sym, ap, ◌∙◌, map-id}
use Rattle.std.proofs.lemmas.Iterator.{YieldsList-from_chars}
use Rattle.std.proofs.lemmas.Iterator.Consumers.{YieldsList-end}
use Rattle.test_report.specs.Lines.{indented_letter}
use Rattle.test_report.proofs.tap.put_lines.Goals as goal

pub returns : goal.returns
returns c =
    let end = YieldsList-end (YieldsList-from_chars c.args.block.now c.utf8.block cc) c.loop-letter.yielded _ c.loop-letter.yielded_by _ _ c.in-None.is c.next.ensures.steps in
    c.loop-letter.invariant ∙ ap (λ (all : List ℕ). string_bytes c.args.text.now ++ flat_map (indented_letter c.args.margin.now) all) (sym (map-id c.loop-letter.yielded) ∙ end.0)
