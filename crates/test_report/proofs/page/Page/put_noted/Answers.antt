use Rattle.std.proofs.Common.{ℕ, List, ◌++◌, ap, ◌∙◌}
use Rattle.std.proofs.lemmas.List.{append_assoc}
use Rattle.test_report.proofs.Numbered.{noted}
use Rattle.test_report.proofs.page.Page.put_noted.Goals as goal

pub returns-clause-text : goal.returns-clause-text
returns-clause-text c =
    let one = c.in_ok-put_point.ensures.text in
    let more = c.in_ok-put_notes.ensures.text in (
      one.0 ++ more.0,
      more.1 ∙ ap (λ (t : List ℕ). t ++ more.0) one.1 ∙ append_assoc _ one.0 more.0,
      (λ tap.
          let lines = more.2 (c.put_point.ensures.style ∙ tap) in
          noted _ _ one.0 (one.0 ++ more.0) lines.0 (one.2 tap) (ap (λ (t : List ℕ). one.0 ++ t) lines.1)),
    )
