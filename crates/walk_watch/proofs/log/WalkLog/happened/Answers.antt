use Rattle.std.proofs.Common.{List, true, false, None, ap, ◌∙◌}
use Rattle.tlb_watch.proofs.Giving.{if-ok}
use Rattle.walk_watch.specs.declared.former.FormerSatp.{FormerSatp}
use Rattle.walk_watch.specs.declared.former.WalkNote.{WalkNote}
use Rattle.walk_watch.specs.Logged.{notes_after, satps_after}
use Rattle.walk_watch.proofs.Effected.{notes-noted, satps-noted}
use Rattle.walk_watch.proofs.log.WalkLog.happened.Goals as goal

pub returns-clause-own : goal.returns-clause-own
returns-clause-own c = if-ok c.apply.result _ _
    (λ done is. is ∙ ap (λ (l : List FormerSatp). satps_after false c.args.effect None l) c.in_ok-put_satp.ensures.own
    ∙ satps-noted false c.args.effect c.args.former c.args.self.now.own.items)
    c.apply.ensures.own

pub returns-clause-global : goal.returns-clause-global
returns-clause-global c = if-ok c.apply.result _ _
    (λ done is. is ∙ ap (λ (l : List FormerSatp). satps_after true c.args.effect None l) c.in_ok-put_satp.ensures.global
    ∙ satps-noted true c.args.effect c.args.former c.args.self.now.global.items)
    c.apply.ensures.global

pub returns-clause-notes : goal.returns-clause-notes
returns-clause-notes c = if-ok c.apply.result _ _
    (λ done is. is ∙ ap (λ (l : List WalkNote). notes_after c.args.effect None l) c.in_ok-put_word.ensures
    ∙ notes-noted c.args.effect c.args.word c.args.self.now.notes.items)
    c.apply.ensures.notes
