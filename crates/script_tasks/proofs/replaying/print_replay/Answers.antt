use Rattle.std.proofs.Common.{ℕ, List, ◌++◌, refl, ap, ◌∙◌}
use Rattle.std.proofs.KnownBytes.{Appends-trans}
use Rattle.board_core.specs.Course.{Course}
use Rattle.printed_lines.specs.Words.{board_line_words, as_line}
use Rattle.script_tasks.specs.Replay.{lines_text, meets_full, text_of}
use Rattle.script_tasks.proofs.Replayed.{text_of-printed}
use Rattle.script_tasks.proofs.replaying.print_replay.Goals as goal

pub returns-clause-text : goal.returns-clause-text
returns-clause-text g c =
    let (text, (full, is), body, body_failures) = (rw c.in-ToTheEnd.is at c.in_ok-met_full.ensures.text) in
    let flushed = c.in_ok-flush.ensures in
    let printed = c.in_ok-print.ensures in
    let head = c.in_ok-print_head.ensures in (
      text_of c.args.config.now c.args.lines.now,
      (full ∙ ap (λ (b : Course). meets_full b c.args.lines.now) c.requires.at_opening, refl),
      text_of-printed c.args.config.now c.args.board.now _ c.args.lines.now text is c.requires.at_opening (rw c.in-ToTheEnd.is at c.in_ok-met_full.ensures.course)
          _ _ _ _ _ head.0 body printed.0 flushed.bytes,
      flushed.failed ∙ printed.1 ∙ body_failures ∙ head.1,
    )

pub returns-in_default-clause-text : goal.returns-in_default-clause-text
returns-in_default-clause-text g c =
    let (text, (before, stops, is), body, body_failures) = (rw c.in_default.is at c.in_ok-met_full.ensures.text) in
    let head = c.in_ok-print_head.ensures in
    let own = as_line (board_line_words c.args.config.now) in (
      own ++ text,
      (before, stops, ap (λ (t : List ℕ). own ++ t) (is ∙ ap (λ (b : Course). lines_text b before) c.requires.at_opening)),
      Appends-trans _ _ _ own text head.0 body,
      body_failures ∙ head.1,
    )
