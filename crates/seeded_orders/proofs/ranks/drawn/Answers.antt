use Rattle.std.proofs.Common.{ap, ◌∙◌, arith, ◌++◌, ◌-◌, ◌+◌, List, ℕ, refl}
use Rattle.seeded_orders.specs.Ranks.{ranks_from}
use Rattle.seeded_orders.proofs.Ranking.{drawn-next, drawn-whole}
use Rattle.seeded_orders.proofs.ranks.drawn.Goals as goal

pub loop-i-preserved : goal.loop-i-preserved
loop-i-preserved c =
    ap (λ (xs : List ℕ). xs ++ ranks_from (c.args.many - (c.loop-i.i + 1)) c.next_word.new.self) c.in_ok-push.ensures.items
    ∙ drawn-next c.loop-i.ranks.items c.args.many c.loop-i.i c.next_word.result _ c.loop-i.words c.next_word.new.self _ (omega arith) c.next_word.ensures refl c.loop-i.invariant

pub returns : goal.returns
returns c = drawn-whole c.loop-i.ranks.items c.args.many c.loop-i.i c.loop-i.words _ (omega arith) c.loop-i.invariant
