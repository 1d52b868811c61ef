use Rattle.std.proofs.Common.{◌≡◌, ℕ, ◌<◌, ◌∷◌, List, sym, ap, subst, ◌∙◌}
use Rattle.std.specs.Prelude.{Option}
use Rattle.std.specs.List.{AllZip}
use Rattle.sv39.specs.Memory.{word_in}
use Rattle.board_core.specs.Course.{Course}
use Rattle.board_core.specs.History.{Event}
use Rattle.board_core.specs.Memory.{memory, satp}
use Rattle.tlb_watch.specs.QuietOps.{is_quiet}
use Rattle.tlb_watch.specs.Tracked.{Follows, satp_in}
use Rattle.access_marks.proofs.Following.{if-ok}
use Rattle.access_marks.proofs.followed.track.Goals as goal

pub returns-then-is_quiet : goal.returns-then-is_quiet
returns-then-is_quiet c = λ event past addresses grew operation does tracks.
    let o = c.args.board.now.opening in
    c.trackers_outlast_quiet_events.ensures o event past addresses c.args.tracker
    (c.quiet_operations_have_no_effect.ensures o event past (ap is_quiet operation ∙ sym c.is_quiet.ensures ∙ c.if-is_quiet.true)) tracks

pub returns : goal.returns
returns c = if-ok c.happened.result _ _
    (λ after follows event past addresses grew operation does tracks.
    let b = c.args.board.now in
    let satps = c.deref.result.now in
    let ram : word_in c.ram.result.now ≡ memory b.opening (event ∷ past) =
    c.ram.ensures ∙ ap (λ (b : Course). memory b.opening b.past) c.view.ensures ∙ ap (memory b.opening) grew in
    let have : (h : ℕ) → h < b.opening.config.harts → satp_in satps h ≡ satp b.opening (event ∷ past) h =
    λ h inside. ap (λ (l : List ℕ). satp_in l h) c.deref.ensures.value ∙ c.in_ok-satps.ensures.each h inside ∙ ap (λ (es : List Event). satp b.opening es h) grew in
    c.trackers_follow_histories.ensures b.opening event past addresses c.args.effect satps c.args.tracker after does have tracks
    (subst (λ (m : ℕ → Option ℕ). AllZip (Follows c.args.effect m satps) c.args.tracker after) ram follows))
    c.happened.ensures.follows
