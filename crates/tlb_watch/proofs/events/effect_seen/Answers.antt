use Rattle.std.proofs.Common.{◌<◌, ◌≤◌, sym, subst, ◌∙◌}
use Rattle.board_terms.specs.declared.config.Config.{Config}
use Rattle.board_core.specs.Fences.{turn_by}
use Rattle.tlb_watch.specs.Effects.{turn_effect}
use Rattle.tlb_watch.proofs.EventActors.{by-clock, by-hart, by-other}
use Rattle.tlb_watch.proofs.events.effect_seen.Goals as goal

pub returns-then-hart-config : goal.returns-then-hart-config
returns-then-hart-config c = λ h.
    let own = sym c.actor.ensures ∙ c.in-Hart.is in
    by-other c.args.view.now.opening c.args.view.now.past c.args.event.now h c.in-Hart.hart own
    (subst (λ (k : Config). k.harts ≤ c.in-Hart.hart) c.requires.config c.if-hart-config.true)

pub returns-else-hart-config : goal.returns-else-hart-config
returns-else-hart-config c = λ h.
    let o = c.args.view.now.opening in
    let past = c.args.view.now.past in
    let event = c.args.event.now in
    let own = sym c.actor.ensures ∙ c.in-Hart.is in
    let inside = subst (λ (k : Config). c.in-Hart.hart < k.harts) c.requires.config c.if-hart-config.false in
    c.hart_effect.ensures h
    ∙ (λ i. turn_effect o past (turn_by o past c.in-Hart.hart (c.op.ensures i) (c.reply.ensures i)) h)
    ∙ by-hart o past event h c.in-Hart.hart own inside

pub returns-in-Clock : goal.returns-in-Clock
returns-in-Clock c = λ h. by-clock c.args.view.now.opening c.args.view.now.past c.args.event.now h (sym c.actor.ensures ∙ c.in-Clock.is)
