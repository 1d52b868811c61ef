use Rattle.std.proofs.Common.{ℕ, List, ◌++◌, flat_map, string_bytes, sym, ap, ◌∙◌, map-id}
use Rattle.std.proofs.lemmas.Iterator.{YieldsList-from_chars}
use Rattle.std.proofs.lemmas.Iterator.Consumers.{YieldsList-end}
use Rattle.test_report.specs.Lines.{letter_text}
use Rattle.test_report.proofs.tap.put_escaped.Goals as goal

pub returns : goal.returns
returns c =
    let end = YieldsList-end (YieldsList-from_chars c.args.name.now c.utf8.name cc) c.loop-letter.yielded _ c.loop-letter.yielded_by _ _ c.in-None.is c.next.ensures.steps in
    c.loop-letter.invariant ∙ ap (λ (all : List ℕ). string_bytes c.args.text.now ++ flat_map letter_text all) (sym (map-id c.loop-letter.yielded) ∙ end.0)
