use Rattle.std.proofs.Common.{◌+◌, sym, ◌∙◌, arith}
use Rattle.condition_script.proofs.Asked.{found_here, none_found, none_more}
use Rattle.condition_script.proofs.words.place_of.Goals as goal

pub returns-then-eq : goal.returns-then-eq
returns-then-eq c =
    let found = found_here c.args.mark.now c.args.words.now c.loop-k.k (c.loop-k.k + 1) _ c.loop-k-test.true c.loop-k.invariant (sym c.eq.ensures ∙ c.if-eq.true) (omega arith) in
    (c.loop-k-test.true, found.0, found.1, found.2)

pub loop-k-preserved : goal.loop-k-preserved
loop-k-preserved c = none_more c.args.mark.now c.args.words.now c.loop-k.k _ c.loop-k-test.true (sym c.eq.ensures ∙ c.if-eq.false) c.loop-k.invariant

pub returns : goal.returns
returns c = none_found c.args.mark.now c.args.words.now c.loop-k.k c.loop-k-test.false c.loop-k.invariant
