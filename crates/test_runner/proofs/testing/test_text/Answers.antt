use Rattle.std.proofs.Common.{List, inl, subst}
use Rattle.conditions.specs.Condition.{Condition}
use Rattle.test_runner.specs.Findings.{IsFoundOf}
use Rattle.test_runner.proofs.testing.test_text.Goals as goal

-- what is found of the script, and behind it what fails
pub returns : goal.returns
returns g c =
    let loaded = c.in-Ok.loaded in
    let options = c.args.options.now in
    let odd = c.in_ok-put_unasked.ensures.odd in
    let told = c.in_ok-put_unasked.ensures.told in
    inl (record {
      script = loaded.script;
      conditions = loaded.conditions.items;
      reads = c.in-Ok.ensures.script;
      have = c.in-Ok.ensures.conditions;
      judged = c.in_ok-found.found;
      is = subst (λ (conditions : List Condition). IsFoundOf options loaded.script conditions options.mode c.in_ok-found.found)
          c.deref.ensures.value c.in_ok-found.ensures;
      is_cut = c.put_unasked.ensures.cut;
      odd = odd.0;
      parts = odd.1;
      fail = odd.2;
      told = told.0;
      reached = told.1;
    })
