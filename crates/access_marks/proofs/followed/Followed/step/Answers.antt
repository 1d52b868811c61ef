use Rattle.std.proofs.Common.{◌≡◌, ℕ, ◌<◌, ◌∷◌, List, refl, sym, ap, subst, ◌∙◌}
use Rattle.std.specs.Prelude.{IfSome}
use Rattle.std.specs.List.{All}
use Rattle.std.proofs.lemmas.List.Elements.{All-weaker}
use Rattle.board_terms.specs.declared.config.Config.{Config}
use Rattle.board_core.specs.Course.{Course}
use Rattle.board_core.specs.History.{Event}
use Rattle.any_tlb.specs.Effects.{effect_at}
use Rattle.tlb_watch.specs.declared.hart_address.HartAddress.{HartAddress}
use Rattle.tlb_watch.specs.Effects.{effect_on}
use Rattle.tlb_watch.specs.Tracked.{IsTracking, addresses_of}
use Rattle.access_marks.specs.Inside.Accessed.{IsPresent}
use Rattle.access_marks.specs.Inside.Changes.{SaysWritten}
use Rattle.access_marks.specs.Inside.Following.{Following, IsNext}
use Rattle.access_marks.specs.Inside.Logging.{SaysSatp}
use Rattle.access_marks.specs.declared.use_watch.UseWatch.{UseWatch}
use Rattle.access_marks.specs.Inside.Calls.{step_of}
use Rattle.access_marks.specs.Inside.Missing.{IsKept, call_step}
use Rattle.access_marks.specs.Inside.Words.{AreNoted}
use Rattle.access_marks.proofs.Following.{does, of-own}
use Rattle.access_marks.proofs.LoggedEvents.{satp-present}
use Rattle.walk_watch.specs.declared.former.FormerSatp.{FormerSatp}
use Rattle.walk_watch.specs.Logged.{IsLogged, listed}
use Rattle.access_marks.proofs.followed.Followed.step.Goals as goal

pub satp_before-former-requires : goal.satp_before-former-requires
satp_before-former-requires c = subst (λ (f : Following). IsPresent f.course.opening.config.harts c.args.event.now.actor) (sym c.self.view_is) c.requires

pub log_if_there-requires : goal.log_if_there-requires
log_if_there-requires c =
    let b = c.self.inside.board in
    let grew = c.takes.ensures.after c.if-not-takes.false in
    let there = subst (λ (f : Following). IsPresent f.course.opening.config.harts c.args.event.now.actor) (sym c.self.view_is) c.requires in
    subst (λ (b : Course). IfSome c.satp_before-former.result (λ (f : FormerSatp). f.hart < b.opening.config.harts)) (sym grew)
    (satp-present b.opening b.past b.opening.config.harts c.args.event.now.actor c.satp_before-former.result there c.satp_before-former.ensures)

pub happened-requires : goal.happened-requires
happened-requires c =
    let b = c.self.inside.board in
    let grew = c.takes.ensures.after c.if-not-takes.false in
    let watches = c.self.inside.uses.watches.items in
    subst (λ (b : Course). All (λ (w : UseWatch). w.of.at.hart < b.opening.config.harts) watches) (sym grew)
    (All-weaker (IsKept b.opening b.past) (λ (w : UseWatch). w.of.at.hart < b.opening.config.harts) (λ w kept. kept.present) watches c.self.invariant.2)

pub invariant_of-result : goal.invariant_of-result
invariant_of-result c =
    let b = c.self.inside.board in
    let event = c.args.event.now in
    let tracker = c.self.inside.tracker in
    let after = c.in_ok-tracker.tracker in
    let grew = c.takes.ensures.after c.if-not-takes.false in
    let present = subst (λ (f : Following). IsPresent f.course.opening.config.harts event.actor) (sym c.self.view_is) c.requires in
    let says = does b.opening b.past event c.effect_of-effect.result present c.effect_of-effect.ensures in
    let tracks = subst (λ (b : Course). (event : Event) (past : List Event) (addresses : List HartAddress) → b.past ≡ event ∷ past → event.op ≡ c.op.result
    → ((h : ℕ) → effect_on c.effect_of-effect.result h ≡ effect_at b.opening past event h) → IsTracking b.opening past addresses tracker → IsTracking b.opening (event ∷ past) addresses after)
    grew c.in_ok-tracker.ensures event b.past (addresses_of tracker) refl (sym c.op.ensures) says c.self.invariant.0 in
    let notes = subst (λ (b : Course). (event : Event) (past : List Event) → b.past ≡ event ∷ past → SaysWritten b.opening past event c.written_by-word.result
    → ((h : ℕ) → effect_on c.effect_of-effect.result h ≡ effect_at b.opening past event h) → AreNoted b.opening past c.self.inside.notes.items → AreNoted b.opening (event ∷ past) c.note.new.notes.items)
    grew c.in_ok-note.ensures event b.past refl
    (subst (λ (b : Course). SaysWritten b.opening b.past event c.written_by-word.result) c.view.ensures c.written_by-word.ensures) says c.self.invariant.1 in
    let step : c.of-call.result ≡ call_step b.opening event = c.of-call.ensures ∙ ap (λ (k : Config). step_of k event.actor event.op event.reply) c.config.ensures.config in
    let watches = c.in_ok-uses.uses.watches.items in
    let kept = subst (λ (b : Course). (event : Event) (past : List Event) → b.past ≡ event ∷ past → c.of-call.result ≡ call_step b.opening event
    → All (IsKept b.opening past) c.self.inside.uses.watches.items → All (IsKept b.opening (event ∷ past)) watches)
    grew c.in_ok-uses.ensures event b.past refl step c.self.invariant.2 in
    let logs = subst (λ (b : Course). (event : Event) (past : List Event) → b.past ≡ event ∷ past → SaysWritten b.opening past event c.written_by-word.result
    → SaysSatp b.opening past event.actor c.satp_before-former.result → ((h : ℕ) → effect_on c.effect_of-effect.result h ≡ effect_at b.opening past event h)
    → IfSome c.self.inside.log (λ log. IsLogged b.opening past (listed log)) → IfSome c.log_if_there.new.log (λ log. IsLogged b.opening (event ∷ past) (listed log)))
    grew c.in_ok-log_if_there.ensures.logged event b.past refl
    (subst (λ (b : Course). SaysWritten b.opening b.past event c.written_by-word.result) c.view.ensures c.written_by-word.ensures) c.satp_before-former.ensures says
    c.self.invariant.3 in (
      subst (λ (b : Course). IsTracking b.opening b.past (addresses_of after) after) (sym grew) (of-own b.opening (event ∷ b.past) (addresses_of tracker) after tracks),
      subst (λ (b : Course). AreNoted b.opening b.past c.note.new.notes.items) (sym grew) notes,
      subst (λ (b : Course). All (IsKept b.opening b.past) watches) (sym grew) kept,
      subst (λ (b : Course). IfSome c.log_if_there.new.log (λ log. IsLogged b.opening b.past (listed log))) (sym grew) logs,
    )

pub returns-then-not-takes : goal.returns-then-not-takes
returns-then-not-takes c = λ next.
    let yes = c.takes.ensures.is.1 (subst (λ (f : Following). IsNext f.course.opening f.course.past c.args.event.now) (sym c.self.view_is) next) in
    let no = c.if-not-takes.true in
    absurd (cc)

pub returns : goal.returns
returns c =
    let b = c.self.inside.board in
    let event = c.args.event.now in
    let tracker = c.self.inside.tracker in
    let after = c.in_ok-tracker.tracker in
    let grew = c.takes.ensures.after c.if-not-takes.false in
    let present = subst (λ (f : Following). IsPresent f.course.opening.config.harts event.actor) (sym c.self.view_is) c.requires in
    let says = does b.opening b.past event c.effect_of-effect.result present c.effect_of-effect.ensures in
    let tracks = subst (λ (b : Course). (event : Event) (past : List Event) (addresses : List HartAddress) → b.past ≡ event ∷ past → event.op ≡ c.op.result
    → ((h : ℕ) → effect_on c.effect_of-effect.result h ≡ effect_at b.opening past event h) → IsTracking b.opening past addresses tracker → IsTracking b.opening (event ∷ past) addresses after)
    grew c.in_ok-tracker.ensures event b.past (addresses_of tracker) refl (sym c.op.ensures) says c.self.invariant.0 in
    let course = grew ∙ ap (λ (f : Following). record { opening = f.course.opening; past = event ∷ f.course.past }) c.self.view_is in
    let addresses = tracks.are ∙ ap (λ (f : Following). f.addresses) c.self.view_is in
    let walks = c.in_ok-log_if_there.ensures.there ∙ ap (λ (f : Following). f.walks) c.self.view_is in (
      subst (λ (f : Following). IsNext f.course.opening f.course.past event) c.self.view_is (c.takes.ensures.is.0 c.if-not-takes.false),
      (λ i. record { course = course i; addresses = addresses i; walks = walks i }),
    )
