use Rattle.std.proofs.Common.{◌≡◌, ◌<◌, ◌∷◌, false, ap, sym, ◌∙◌, arith}
use Rattle.std.specs.Prelude.{◌==◌}
use Rattle.std.proofs.lemmas.Bool.{lt-leb}
use Rattle.std.proofs.lemmas.List.{length-reverse}
use Rattle.board_terms.specs.declared.op.Actor.{Actor}
use Rattle.board_terms.specs.declared.reply.Refusal.TheVariants.{Off, WrongPhase}
use Rattle.board_core.specs.Course.{Course}
use Rattle.board_core.specs.Refusals.{first_refusal}
use Rattle.board_core.specs.Refusals.{first_that_holds, is_full, refusals_in, situation}
use Rattle.board_core.specs.Resets.{is_off}
use Rattle.board_machine.proofs.Situations.{situation-read}
use Rattle.board_core.proofs.Viewed.{viewed}
use Rattle.board_core.proofs.view.View.refusal.Goals as goal

pub refusal-requires-clause-in_range : goal.refusal-requires-clause-in_range
refusal-requires-clause-in_range c =
    let v = viewed c.self.view_is c.self.invariant in
    omega (arith, v.sized.harts, ap (λ (b : Course). b.opening.config.harts) c.self.view_is)

pub returns-in-Hart-default : goal.returns-in-Hart-default
returns-in-Hart-default c =
    let v = viewed c.self.view_is c.self.invariant in
    let b = c.args.self.now in
    let h = c.in-Hart-default.h in
    let op = c.args.op in
    let on : is_off b.opening b.past ≡ false = sym c.is_off.ensures ∙ c.if-is_off.false in
    let inside : h < b.opening.config.harts = omega (arith, ap (λ (b : Course). b.opening.config.harts) c.self.view_is) in
    let present = lt-leb b.opening.config.harts h inside in
    let same = situation-read b.opening b.past c.self.inside.machine.now v.kept.good.at_most_128_harts v.stands h inside in
    let full = ap (λ n. n == c.self.inside.config.now.limit) (sym (length-reverse c.self.inside.events.now)) ∙ ap (λ (b : Course). is_full b.opening b.past) c.self.view_is in
    c.refusal.ensures
    ∙ (λ i. first_that_holds (refusals_in (same i) op (full i)))
    ∙ sym (λ i. first_that_holds ((on i, Off) ∷ (present i, WrongPhase) ∷ refusals_in (situation b.opening b.past h) op (is_full b.opening b.past)))
    ∙ ap (λ (actor : Actor). first_refusal b.opening b.past actor op) (sym c.in-Hart-default.is-0)
