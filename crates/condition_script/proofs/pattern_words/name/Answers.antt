use Rattle.std.proofs.Common.{sym, ◌∙◌, true, false}
use Rattle.condition_script.proofs.Asked.{name_asked}
use Rattle.condition_script.proofs.pattern_words.name.Goals as goal

pub returns-then-is_reply : goal.returns-then-is_reply
returns-then-is_reply c = rw c.if-is_reply.true (name_asked true c.args.word.now c.said_name.result (rw c.as_slice.ensures at (sym c.eq.ensures ∙ c.if-eq.false)) c.said_name.ensures)

pub returns-else-is_reply : goal.returns-else-is_reply
returns-else-is_reply c = rw c.if-is_reply.false (name_asked false c.args.word.now c.op_name.result (rw c.as_slice.ensures at (sym c.eq.ensures ∙ c.if-eq.false)) c.op_name.ensures)
