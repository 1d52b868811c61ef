use Rattle.std.proofs.Common.{◌≡◌, List, [], ◌∷◌, ◌++◌, rules, ap, ◌∙◌}
use Rattle.std.specs.Prelude.{filter, not}
use Rattle.std.proofs.lemmas.Fn.{filter_same}
use Rattle.access_marks.specs.declared.words.WordNote.{WordNote}
use Rattle.access_marks.specs.Inside.Words.{is_note}
use Rattle.access_marks.proofs.words.note.Goals as goal

pub returns : goal.returns
returns c =
    let filtered : c.retain.new.self.items ≡ filter (λ other. not (is_note c.args.note other)) c.args.notes.now.items =
    filter_same _ _ _ (λ x b f' k. search rules) _ _ c.retain.ensures.filtered in
    c.in_ok-push.ensures.items ∙ ap (λ (l : List WordNote). l ++ c.args.note ∷ []) filtered
