-- Receipts of accepted calls (profile).
use Rattle.std.specs.Prelude.{ℕ}
use Rattle.board_terms.specs.declared.op.Actor.{Actor}
use Rattle.board_terms.specs.declared.op.Op.{Op}
use Rattle.board_terms.specs.declared.reply.Reply.{Reply}

-- An accepted call: its actor, the number of its seat's calls accepted before, the number of all events before, its
-- operation, and the reply.
pub record AcceptedCall : Type 0 where
  pub actor : Actor
  pub ordinal : ℕ
  pub place : ℕ
  pub op : Op
  pub reply : Reply

abbrev pub accepted_call : Actor → (ordinal place : ℕ) → Op → Reply → AcceptedCall
accepted_call actor ordinal place op reply = record { actor = actor; ordinal = ordinal; place = place; op = op; reply = reply }
