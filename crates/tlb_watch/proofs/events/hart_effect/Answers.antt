use Rattle.std.proofs.Common.{◌≡◌, ℕ, ◌<◌, sym, subst, ◌∙◌}
use Rattle.board_terms.specs.declared.config.Config.{Config}
use Rattle.board_core.specs.Fences.{turn_by}
use Rattle.board_core.specs.Opening.{on}
use Rattle.tlb_watch.specs.Effects.{IsReady, effect_on, turn_effect}
use Rattle.tlb_watch.proofs.events.hart_effect.Goals as goal

pub seen-ready-requires : goal.seen-ready-requires
seen-ready-requires c = subst (λ (k : Config). c.args.hart < k.harts) c.requires.config c.requires.there

pub effect-requires : goal.effect-requires
effect-requires c = record {
  good = c.requires.good;
  in_range = subst (λ (h : ℕ). h < c.args.config.now.harts) (sym c.seen-ready.ensures.hart) c.requires.there;
}

pub returns : goal.returns
returns c = λ h.
    let o = c.args.view.now.opening in
    let past = c.args.view.now.past in
    let ready = subst (λ (k : Config). IsReady (on k o) past c.seen-ready.result) (sym c.requires.config) c.seen-ready.ensures.ready in
    let told = subst (λ (k : Config). effect_on c.effect.result h ≡ turn_effect (on k o) past (turn_by (on k o) past c.seen-ready.result.hart c.args.op c.args.reply) h) c.requires.config (c.effect.ensures o past h ready) in
    told ∙ (λ i. turn_effect o past (turn_by o past (c.seen-ready.ensures.hart i) c.args.op c.args.reply) h)
