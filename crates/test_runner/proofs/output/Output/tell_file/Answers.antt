use Rattle.std.proofs.Common.{ℕ, List, subst, ◌∙◌}
use Rattle.std.specs.Io.KnownBytes.{Appends}
use Rattle.test_runner.proofs.output.Output.tell_file.Goals as goal

pub returns : goal.returns
returns g c tap =
    let put = c.in_ok-put_file.ensures.text in
    let told = c.in_ok-tell.ensures in record {
      text = put.0;
      printed = subst (λ (text : List ℕ). Appends (g.W.Write.contents c.args.out.now) (g.W.Write.contents c.tell.new.out) text) put.1 told.printed;
      is = put.2 tap;
      empty = told.empty;
      tap = told.style ∙ c.put_file.ensures.style ∙ tap;
      points = told.points ∙ c.in_ok-put_file.ensures.points;
    }
