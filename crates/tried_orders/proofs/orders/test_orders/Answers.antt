use Rattle.std.proofs.Common.{◌≡◌, ◌++◌, List, Bool, sym, ap, ◌∙◌, subst}
use Rattle.std.specs.Prelude.{map}
use Rattle.std.specs.Global.{Vec}
use Rattle.board_terms.specs.declared.config.Config.{Config}
use Rattle.conditions.specs.Condition.{Condition}
use Rattle.guest_script.specs.Grammar.{Content, content}
use Rattle.test_report.specs.declared.point.Point.{Point}
use Rattle.test_report.specs.declared.verdict.Verdict.{Verdict}
use Rattle.tried_orders.specs.Verdicts.{AreTriedOf, EachIsFoundBy}
use Rattle.tried_orders.proofs.orders.test_orders.Goals as goal

-- what was found of the orders that were tried is what the points say
pub returns-clause-points : goal.returns-clause-points
returns-clause-points g c =
    let numbers : Config = c.args.trial.now.script.now.config in
    let body : Content = content c.args.trial.now.script.now.body in
    let options = c.args.trial.now.options.now in
    let conditions : List Condition = c.args.trial.now.case.conditions.now in
    let found = c.in_ok-found.ensures.found in
    let put = c.in_ok-put_points.ensures.found in
    let told = c.in_ok-put_points.ensures.told in
    let more : List Verdict = put.0 in
    let cut : c.note_all.new.self.is_cut ≡ c.try_all.new.file.is_cut = c.note_all.ensures.cut ∙ c.put_points.ensures.cut in
    record {
      tried = found.tried;
      are = subst (λ (is_cut : Bool). AreTriedOf numbers body conditions options.seed options.orders is_cut found.tried) (sym cut) found.are;
      more = more;
      added = c.note_all.ensures.same ∙ put.1
          ∙ ap (λ (points : Vec Point). map (λ (p : Point). p.verdict) points.items ++ more) c.try_all.ensures.same;
      many = put.2;
      each = subst (λ (is_cut : Bool). EachIsFoundBy numbers.harts is_cut conditions found.tried more) (sym cut)
          (put.3 numbers.harts found.tried found.right);
      told = told.0;
      reached = c.note_all.ensures.reached ∙ told.1
          ∙ ap (λ (points : Vec Point). map (λ (p : Point). p.reach) points.items ++ told.0) c.try_all.ensures.same;
      tells = told.2 numbers.harts found.tried found.right;
    }
