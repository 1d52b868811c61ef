use Rattle.std.proofs.Common.{◌≡◌, ◌++◌, List, Bool, sym, ap, ◌∙◌, subst}
use Rattle.std.specs.Prelude.{map}
use Rattle.std.specs.Global.{Vec}
use Rattle.board_terms.specs.declared.config.Config.{Config}
use Rattle.conditions.specs.Condition.{Condition}
use Rattle.guest_script.specs.Grammar.{Content, content}
use Rattle.outcome_statistics.specs.Records.{EachIs}
use Rattle.test_report.specs.declared.point.Point.{Point}
use Rattle.test_report.specs.declared.verdict.Verdict.{Verdict}
use Rattle.tried_orders.specs.declared.points.Source.{Source}
use Rattle.tried_orders.specs.declared.points.Source.TheVariants.{Threads}
use Rattle.tried_orders.specs.Inside.Judging.{TellsOf}
use Rattle.tried_orders.specs.Verdicts.{AreRunsOf, EachIsFoundBy}
use Rattle.tried_orders.proofs.threaded.test_runs.Goals as goal

pub run_each-requires-clause-none : goal.run_each-requires-clause-none
run_each-requires-clause-none g c κs within = c.in_ok-tried.ensures.none c.args.trial.now.script.now.config.harts

-- what was found of the runs is what the points say
pub returns-clause-points : goal.returns-clause-points
returns-clause-points g c some =
    let numbers : Config = c.args.trial.now.script.now.config in
    let body : Content = content c.args.trial.now.script.now.body in
    let options = c.args.trial.now.options.now in
    let conditions : List Condition = c.args.trial.now.case.conditions.now in
    let runs = c.in_ok-run_each.ensures.runs in
    let put = c.in_ok-put_points.ensures.found in
    let told = c.in_ok-put_points.ensures.told in
    let more : List Verdict = put.0 in
    let cut : c.put_points.new.file.is_cut ≡ c.run_each.new.file.is_cut = c.put_points.ensures.cut in
    let source : c.run_each.new.tried.source ≡ Threads = c.run_each.ensures.source ∙ c.in_ok-tried.ensures.source in
    record {
      tried = runs.0;
      are = subst (λ (is_cut : Bool). AreRunsOf numbers body conditions options.runs is_cut runs.0) (sym cut) runs.1;
      more = more;
      added = put.1 ∙ ap (λ (points : Vec Point). map (λ (p : Point). p.verdict) points.items ++ more) c.run_each.ensures.same;
      many = put.2;
      each = subst (λ (is_cut : Bool). EachIsFoundBy numbers.harts is_cut conditions runs.0 more) (sym cut)
          (put.3 numbers.harts runs.0 runs.2);
      told = told.0;
      reached = told.1 ∙ ap (λ (points : Vec Point). map (λ (p : Point). p.reach) points.items ++ told.0) c.run_each.ensures.same;
      tells = subst (λ (source : Source). EachIs (TellsOf source options.seed runs.0) told.0) source (told.2 numbers.harts runs.0 runs.2);
    }
