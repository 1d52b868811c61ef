use Rattle.std.proofs.Common.{◌≡◌, ◌↔◌, true, sym, subst, ◌∙◌, Option, arith}
use Rattle.tlb_model.specs.Entries.{Entry}
use Rattle.board_core.specs.Replies.{answer, stepped}
use Rattle.access_marks.proofs.Following.{Taken, goes-on, one-longer, refused-is-none, tells-next}
use Rattle.access_marks.proofs.taking.takes.Goals as goal

pub bounds-history-index : goal.bounds-history-index
bounds-history-index c =
    let b = c.args.board.now in
    let t : Taken b c.step.new.self c.args.event.now c.in-Ok.reply c.history-index.result.now c.history.result.now = record {
      answered = sym c.in-Ok.is ∙ c.step.ensures.answer ∙ (λ i. answer b.opening b.past (c.actor.ensures i) (c.op.ensures i));
      went = c.step.ensures.after ∙ (λ i. stepped b (c.actor.ensures i) (c.op.ensures i));
      was = c.history-index.ensures.events;
      is = c.history.ensures.events;
    } in
    let longer = one-longer b c.step.new.self c.args.event.now c.in-Ok.reply c.history-index.result.now c.history.result.now t in
    omega arith

pub returns-in-Ok-clause-is : goal.returns-in-Ok-clause-is
returns-in-Ok-clause-is c =
    let b = c.args.board.now in
    let event = c.args.event.now in
    let t : Taken b c.step.new.self event c.in-Ok.reply c.history-index.result.now c.history.result.now = record {
      answered = sym c.in-Ok.is ∙ c.step.ensures.answer ∙ (λ i. answer b.opening b.past (c.actor.ensures i) (c.op.ensures i));
      went = c.step.ensures.after ∙ (λ i. stepped b (c.actor.ensures i) (c.op.ensures i));
      was = c.history-index.ensures.events;
      is = c.history.ensures.events;
    } in
    tells-next b c.step.new.self event c.in-Ok.reply c.history-index.result.now c.history.result.now t c.index-history-index.result c.index-history-index.is c.is_event.result
    (subst (λ (used : Option Entry). (c.is_event.result ≡ true) ↔ ((c.in-Ok.reply ≡ event.reply) × (used ≡ event.translation))) c.translation.ensures c.is_event.ensures)

pub returns-in-Ok-clause-after : goal.returns-in-Ok-clause-after
returns-in-Ok-clause-after c =
    let b = c.args.board.now in
    let event = c.args.event.now in
    let t : Taken b c.step.new.self event c.in-Ok.reply c.history-index.result.now c.history.result.now = record {
      answered = sym c.in-Ok.is ∙ c.step.ensures.answer ∙ (λ i. answer b.opening b.past (c.actor.ensures i) (c.op.ensures i));
      went = c.step.ensures.after ∙ (λ i. stepped b (c.actor.ensures i) (c.op.ensures i));
      was = c.history-index.ensures.events;
      is = c.history.ensures.events;
    } in
    goes-on b c.step.new.self event c.in-Ok.reply c.history-index.result.now c.history.result.now t c.index-history-index.result c.index-history-index.is c.is_event.result
    (subst (λ (used : Option Entry). (c.is_event.result ≡ true) ↔ ((c.in-Ok.reply ≡ event.reply) × (used ≡ event.translation))) c.translation.ensures c.is_event.ensures)

pub returns-in-Err-clause-is : goal.returns-in-Err-clause-is
returns-in-Err-clause-is c =
    let b = c.args.board.now in
    refused-is-none b c.args.event.now c.in-Err.field-0 (sym c.in-Err.is ∙ c.step.ensures.answer ∙ (λ i. answer b.opening b.past (c.actor.ensures i) (c.op.ensures i)))
