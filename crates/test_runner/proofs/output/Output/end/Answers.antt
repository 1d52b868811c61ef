use Rattle.std.proofs.Common.{◌++◌, ℕ, List, sym, subst, ◌∙◌}
use Rattle.std.specs.Prelude.{Option, string_bytes}
use Rattle.std.specs.Io.KnownBytes.{Appends}
use Rattle.test_report.specs.Lines.{indented, note_sign, plan_line}
use Rattle.test_runner.proofs.output.Output.end.Goals as goal

pub returns : goal.returns
returns g c tap =
    let put = c.in_ok-put_summary.ensures.text in
    let told = c.in_ok-tell.ensures in
    let still = c.tell_time.ensures (told.style ∙ c.put_summary.ensures.style ∙ tap) in
    let old = c.args.self.now.shown in
    let text : List ℕ = string_bytes old.text ++ (plan_line old.points ++ indented note_sign put.0) in record {
      said = put.0;
      printed = subst (λ (after : Option (List ℕ)). Appends (g.W.Write.contents c.args.out.now) after text) (sym still)
          (subst (λ (text : List ℕ). Appends (g.W.Write.contents c.args.out.now) (g.W.Write.contents c.tell.new.out) text) (put.1 tap) told.printed);
    }
