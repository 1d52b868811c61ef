-- Answers as traces say them (profile).
use Rattle.std.specs.Prelude.{Result, Ok, Err}
use Rattle.sv39.specs.Causes.{cause_number}
use Rattle.hsm.specs.States.{state_number}
use Rattle.board_terms.specs.declared.reply.Refusal.{Refusal}
use Rattle.board_terms.specs.declared.reply.Reply.{Reply}
use Rattle.board_terms.specs.declared.reply.Reply.TheVariants as replies
use Rattle.board_terms.specs.Refusals.{refusal_number}
use Rattle.script_lines.specs.declared.said.Said.{Said}
use Rattle.script_lines.specs.declared.said.Said.TheVariants.{Ret, Waiting, Gone, Entry, Value, Fault, Served, Moved, Done, Refused}

-- An answer as a trace says it: a cause by its exception code, a state and a refusal by their numbers.
abbrev pub said_of : Result Reply Refusal → Said
said_of (Ok (replies.Ret answer)) = Ret answer.error answer.value
said_of (Ok replies.Waiting) = Waiting
said_of (Ok replies.Gone) = Gone
said_of (Ok (replies.Entry addr hart opaque)) = Entry addr hart opaque
said_of (Ok (replies.Value value)) = Value value
said_of (Ok (replies.Fault cause)) = Fault (cause_number cause)
said_of (Ok replies.Served) = Served
said_of (Ok (replies.Moved state)) = Moved (state_number state)
said_of (Ok replies.Done) = Done
said_of (Err refusal) = Refused (refusal_number refusal)
