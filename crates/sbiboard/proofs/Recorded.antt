-- The text of a record's events, of which some were written.
use Rattle.std.proofs.Common.{◌≡◌, ℕ, ◌+◌, ◌<◌, List, ◌++◌, length, get_or, drop, sym, ap, ◌∙◌}
use Rattle.std.specs.Prelude.{Ok}
use Rattle.std.proofs.lemmas.List.{at_drop_more}
use Rattle.board_terms.specs.declared.op.Actor.{Actor}
use Rattle.board_terms.specs.declared.op.Op.{Op}
use Rattle.board_terms.specs.declared.reply.Reply.{Reply}
use Rattle.board_core.specs.History.{Event}
use Rattle.printed_lines.specs.Words.{event_words, as_line}
use Rattle.sbiboard.specs.Threaded.{events_text}

pub events_text-more : (events : List Event) (i : ℕ) (e : Event) → e ≡ get_or events i e → i < length events
    → (actor : Actor) (op : Op) (reply : Reply) → actor ≡ e.actor → op ≡ e.op → reply ≡ e.reply
    → events_text (drop i events) ≡ as_line (event_words actor op (Ok reply)) ++ events_text (drop (i + 1) events)
events_text-more events i e is below actor op reply is_actor is_op is_reply =
    at_drop_more events_text events i e below
    ∙ ap (λ (x : Event). as_line (event_words x.actor x.op (Ok x.reply)) ++ events_text (drop (i + 1) events)) (sym is)
    ∙ ap (λ by. as_line (event_words by e.op (Ok e.reply)) ++ events_text (drop (i + 1) events)) (sym is_actor)
    ∙ ap (λ does. as_line (event_words actor does (Ok e.reply)) ++ events_text (drop (i + 1) events)) (sym is_op)
    ∙ ap (λ answer. as_line (event_words actor op (Ok answer)) ++ events_text (drop (i + 1) events)) (sym is_reply)
