use Rattle.std.proofs.Common.{[], ◌∷◌, false, subst, ap, sym, ◌∙◌, arith}
use Rattle.board_core.specs.Inside.Stands.{opening_in}
use Rattle.board_terms.specs.declared.op.Actor.{Actor}
use Rattle.board_terms.specs.declared.op.Actor.TheVariants.{Hart}
use Rattle.board_core.specs.Opening.{Opening}
use Rattle.board_core.specs.Refusals.{IsAccepted}
use Rattle.board_core.specs.Inside.Stands.{IsStanding, StandsFor}
use Rattle.board_core.specs.Taking.{event_with, refusal_at, reply_at}
use Rattle.board_core.proofs.Beginning.{legal-opens}
use Rattle.board_machine.proofs.Situations.{situation-read}
use Rattle.board_core.proofs.Steps.{hart_unrefused}
use Rattle.board_core.proofs.opening.Opening.event.Goals as goal

pub hart_event-requires-clause-accepted : goal.hart_event-requires-clause-accepted
hart_event-requires-clause-accepted c =
    let o = c.args.self.now in
    let h = c.in-Hart-default.h in
    let op = c.args.op in
    let free = hart_unrefused false o [] h op (ap (λ (actor : Actor). refusal_at o actor op) (sym c.in-Hart-default.is-0) ∙ c.requires.unrefused) in
    let most = c.self.invariant.0.good.at_most_128_harts in
    let same_config = ap (λ (o : Opening). o.config.harts) c.self.view_is in
    subst (IsAccepted op) (sym (situation-read o [] c.args.machine.now (omega arith) c.requires.stands h free.inside))
    free.accepted

pub hart_event-requires-clause-standing : goal.hart_event-requires-clause-standing
hart_event-requires-clause-standing c =
    let o = opening_in c.self.inside.config c.self.inside.places c.self.inside.machine in
    let kept = c.self.invariant.0 in
    let early = kept.early in
    let stands = subst (λ (o : Opening). StandsFor o [] c.args.machine.now) (sym c.self.view_is) c.requires.stands in
    let standing : IsStanding c.self.inside.config c.args.machine.now =
    record { o = o; past = []; opens = legal-opens o [] kept.legal; stands = stands; few = omega arith } in
    record { standing = standing; at = omega arith }

pub returns-in-Hart-default-clause-event : goal.returns-in-Hart-default-clause-event
returns-in-Hart-default-clause-event c =
    let o = opening_in c.self.inside.config c.self.inside.places c.self.inside.machine in
    let h = c.in-Hart-default.h in
    let op = c.args.op in
    let stands = subst (λ (o : Opening). StandsFor o [] c.args.machine.now) (sym c.self.view_is) c.requires.stands in
    c.hart_event.ensures.event o [] stands
    ∙ ap (λ (o : Opening). event_with o (Hart h) op (reply_at o (Hart h) op)) c.self.view_is
    ∙ ap (λ (actor : Actor). event_with c.args.self.now actor op (reply_at c.args.self.now actor op)) (sym c.in-Hart-default.is-0)

pub returns-in-Hart-default-clause-stands : goal.returns-in-Hart-default-clause-stands
returns-in-Hart-default-clause-stands c =
    let o = opening_in c.self.inside.config c.self.inside.places c.self.inside.machine in
    let stands = subst (λ (o : Opening). StandsFor o [] c.args.machine.now) (sym c.self.view_is) c.requires.stands in
    subst (λ (o : Opening). StandsFor o (c.hart_event.result ∷ []) c.hart_event.new.self) c.self.view_is
    (c.hart_event.ensures.after o [] (omega arith) stands)
