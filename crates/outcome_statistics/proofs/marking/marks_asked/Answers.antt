use Rattle.std.proofs.Common.{◌≡◌, true, List, reverse, ap, subst, ◌∙◌}
use Rattle.std.specs.Prelude.{IfSome, Option}
use Rattle.access_marks.specs.declared.marks.Marks.{Marks}
use Rattle.access_marks.specs.Marks.{AreMarked, AreWalksMarked}
use Rattle.access_marks.proofs.Recording.{when-some}
use Rattle.board_core.specs.History.{Event}
use Rattle.board_core.specs.Opening.{Opening, opening_at}
use Rattle.outcome_statistics.proofs.marking.marks_asked.Goals as goal

pub returns-clause-marked : goal.returns-clause-marked
returns-clause-marked c = λ ask.
    let marks : List Marks = reverse c.in-Some.marks.items in
    let o : opening_at c.config.result.now ≡ opening_at c.args.board.now.opening.config = ap opening_at c.config.ensures.config in
    let past : reverse c.history-events.result.now ≡ c.args.board.now.past = c.history-events.ensures.events in
    let told = when-some c.in_ok-marks.field-0 c.in-Some.marks _ _ c.in-Some.is c.in_ok-marks.ensures.marks in
    let walked = subst (λ (found : Option _). IfSome found (λ marks. c.ask_of_walks.result ≡ true → AreWalksMarked (opening_at c.config.result.now) (reverse c.history-events.result.now) (reverse marks.items))) c.in-Some.is c.in_ok-marks.ensures.walks in (
      subst (λ (o : Opening). AreMarked o c.args.board.now.past marks) o
          (subst (λ (es : List Event). AreMarked (opening_at c.config.result.now) es marks) past told.1),
      λ of_walks.
          subst (λ (o : Opening). AreWalksMarked o c.args.board.now.past marks) o
          (subst (λ (es : List Event). AreWalksMarked (opening_at c.config.result.now) es marks) past (walked (c.ask_of_walks.ensures of_walks))),
    )
