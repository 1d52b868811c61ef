use Rattle.std.proofs.Common.{◌≡◌, ℕ, List, ◌++◌, false, true, ap, ◌∙◌, string_bytes}
use Rattle.std.proofs.lemmas.List.{append_assoc}
use Rattle.test_report.specs.declared.page.Page.{Page}
use Rattle.test_report.specs.declared.page.Style.TheVariants.{Tap}
use Rattle.test_report.specs.Lines.{indented, note_sign, plan_line}
use Rattle.test_report.proofs.page.Page.put_summary.Goals as goal
use Rattle.test_report.proofs.page.Page.put_summary.Goals.{then-eq+in_ok-put_plan, else-eq}

-- what is said is the summary without its last end of line
pub returns-clause-text : goal.returns-clause-text
returns-clause-text c = (
  c.trim_end.result.now,
  (λ tap. elim c.if-eq.branch [
    | then-eq+in_ok-put_plan w ↦
        let said = c.trim_end.result.now in
        let styled : c.if-eq.self.style ≡ Tap = ap (λ (page : Page). page.style) w.self-is ∙ tap in
        let planned : string_bytes c.if-eq.self.text ≡ string_bytes c.args.self.now.text ++ plan_line c.args.self.now.points =
        ap (λ (page : Page). string_bytes page.text) w.self-is ∙ w.in_ok-put_plan.ensures in
        c.in_ok-put_indented.ensures
        ∙ ap (λ (margin : List ℕ). string_bytes c.if-eq.self.text ++ indented margin said) (c.sign.ensures styled)
        ∙ ap (λ (text : List ℕ). text ++ indented note_sign said) planned
        ∙ append_assoc (string_bytes c.args.self.now.text) (plan_line c.args.self.now.points) (indented note_sign said)
    | else-eq w ↦ let none : false ≡ true = rw tap at w.if-eq.ensures in cc
  ]),
)
