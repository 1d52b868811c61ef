use Rattle.std.proofs.Common.{◌-◌, ◌/◌, ◌<◌, ◌≤◌, sym, ◌∙◌, arith}
use Rattle.condition_script.proofs.GoingOn.{begins_there, stops_there}
use Rattle.condition_script.proofs.beginnings.narrowed.Goals as goal

pub returns-then-begins : goal.returns-then-begins
returns-then-begins c =
    let low : c.args.least < c.args.most - (c.args.most - c.args.least) / 2 = omega arith in
    let high : c.args.most - (c.args.most - c.args.least) / 2 ≤ c.args.most = omega arith in
    (begins_there c.args.words.now c.args.least c.args.most _ low high c.requires.between (c.in_ok-begins.ensures.0 c.if-begins.true), omega arith)

pub returns-else-begins : goal.returns-else-begins
returns-else-begins c =
    let low : c.args.least < c.args.most - (c.args.most - c.args.least) / 2 = omega arith in
    let high : c.args.most - (c.args.most - c.args.least) / 2 ≤ c.args.most = omega arith in
    (stops_there c.args.words.now c.args.least c.args.most _ low high c.requires.between (λ is. let e = sym (c.in_ok-begins.ensures.1 is) ∙ c.if-begins.false in cc), omega arith)
