use Rattle.std.proofs.Common.{◌∷◌, List, sym, ap, subst, ◌∙◌}
use Rattle.board_core.specs.Course.{Course}
use Rattle.board_core.specs.History.{Event}
use Rattle.board_core.specs.Memory.{memory}
use Rattle.board_core.specs.Replies.{IsLegal}
use Rattle.access_marks.specs.Inside.Changes.{IsChange}
use Rattle.access_marks.specs.Inside.Words.{AreNoted, with_effect}
use Rattle.access_marks.proofs.Following.{if-ok}
use Rattle.access_marks.proofs.Wording.{noted-more}
use Rattle.access_marks.proofs.followed.note.Goals as goal

pub returns : goal.returns
returns c = if-ok c.note_effect.result _ _
    (λ done is event past grew says does noted.
    let b = c.args.board.now in
    let legal : IsLegal b.opening (event ∷ past) = subst (IsLegal b.opening) grew c.history-legal.ensures.legal in
    let changes : IsChange c.args.written (memory b.opening (event ∷ past)) c.changed.result =
    subst (λ (es : List Event). IsChange c.args.written (memory b.opening es) c.changed.result) grew
    (subst (λ (b : Course). IsChange c.args.written (memory b.opening b.past) c.changed.result) c.view.ensures c.changed.ensures) in
    subst (AreNoted b.opening (event ∷ past)) (sym (is ∙ ap (with_effect c.args.effect) c.in_ok-note_change.ensures))
    (noted-more b.opening event past c.args.written c.changed.result c.args.effect c.args.notes.now.items legal says changes does noted))
    c.note_effect.ensures
