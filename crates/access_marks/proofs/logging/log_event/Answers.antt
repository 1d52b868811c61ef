use Rattle.std.proofs.Common.{◌<◌, ◌∷◌, List, sym, subst}
use Rattle.std.specs.Prelude.{IfSome}
use Rattle.board_core.specs.Course.{Course}
use Rattle.board_core.specs.History.{Event}
use Rattle.board_core.specs.Memory.{memory, satp}
use Rattle.board_core.specs.Replies.{IsLegal}
use Rattle.walk_watch.specs.declared.former.FormerSatp.{FormerSatp}
use Rattle.walk_watch.specs.Logged.{listed}
use Rattle.access_marks.specs.Inside.Logging.{IsFormerOf, IsSatpChange}
use Rattle.access_marks.proofs.LoggedEvents.{if-ok-3, logged-more}
use Rattle.access_marks.proofs.logging.log_event.Goals as goal

pub changed_satp-satp-requires : goal.changed_satp-satp-requires
changed_satp-satp-requires c =
    subst (λ (b : Course). IfSome c.args.former (λ (f : FormerSatp). f.hart < b.opening.config.harts)) (sym c.view-view.ensures) c.requires

pub returns : goal.returns
returns c = if-ok-3 c.happened.result _ _ _ _
    (λ done own global notes event past grew says had does logged.
    let b = c.args.board.now in
    let legal : IsLegal b.opening (event ∷ past) = subst (IsLegal b.opening) grew c.history-legal.ensures.legal in
    let wrote : IsFormerOf c.args.written (memory b.opening (event ∷ past)) c.former_word-word.result =
    subst (λ (es : List Event). IsFormerOf c.args.written (memory b.opening es) c.former_word-word.result) grew
    (subst (λ (b : Course). IsFormerOf c.args.written (memory b.opening b.past) c.former_word-word.result) c.view-view.ensures c.former_word-word.ensures) in
    let changes : IsSatpChange c.args.former (satp b.opening (event ∷ past)) c.changed_satp-satp.result =
    subst (λ (es : List Event). IsSatpChange c.args.former (satp b.opening es) c.changed_satp-satp.result) grew
    (subst (λ (b : Course). IsSatpChange c.args.former (satp b.opening b.past) c.changed_satp-satp.result) c.view-view.ensures c.changed_satp-satp.ensures) in
    logged-more b.opening event past c.args.written c.former_word-word.result c.args.former c.changed_satp-satp.result c.args.effect (listed c.args.log.now) (listed c.happened.new.self)
    legal says wrote had changes does logged own global notes)
    c.happened.ensures.own c.happened.ensures.global c.happened.ensures.notes
