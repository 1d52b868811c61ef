use Rattle.std.proofs.Common.{sym, ◌∙◌}
use Rattle.std.proofs.lemmas.Option.{none-some}
use Rattle.conditions.proofs.Unheld.{reply-at}
use Rattle.conditions.proofs.misfits.reply_misfit_at.Goals as goal

pub returns-in-Some : goal.returns-in-Some
returns-in-Some c = reply-at c.args.harts c.args.p.now c.args.said c.args.place c.requires.named c.requires.behind c.in-Some.item
    ((c.reply_word.ensures c.in-Some.item).0 c.in-Some.is) c.wrong_in_reply.result c.wrong_in_reply.ensures

pub returns-in-None : goal.returns-in-None
returns-in-None c item at any wrong = absurd (none-some item (sym c.in-None.is ∙ (c.reply_word.ensures item).1 at))
