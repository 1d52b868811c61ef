use Rattle.std.proofs.Common.{◌≡◌, ◌↔◌, ◌∷◌, Bool, List, [], ℕ, false, true, subst, ap, ◌∙◌}
use Rattle.std.specs.Prelude.{if◌then◌else◌}
use Rattle.board_core.specs.History.{Event}
use Rattle.access_marks.specs.declared.entry_use.EntryUse.{EntryUse}
use Rattle.access_marks.specs.Inside.Missing.{IsOther}
use Rattle.access_marks.proofs.UseWatching.{watch-more}
use Rattle.access_marks.proofs.use_watch.UseWatch.happened.Goals as goal

pub returns-clause-watch : goal.returns-clause-watch
returns-clause-watch c = λ event past grew is was.
    let b = c.args.board.now in
    let old = c.args.self.now in
    let new = c.look.new.self in
    watch-more b.opening event past c.args.step old new is was (c.look.ensures.of ∙ c.in_ok-follow.ensures.of)
    (subst (λ (of : EntryUse). (new.is_other ≡ true) ↔ IsOther b.opening (event ∷ past) of) c.in_ok-follow.ensures.of
    (subst (λ (es : List Event). (new.is_other ≡ true) ↔ IsOther b.opening es c.follow.new.self.of) grew c.look.ensures.other))
    (c.look.ensures.asking ∙ ap (λ (asks : List ℕ). if new.is_other then asks else []) c.in_ok-follow.ensures.asking)
    (c.look.ensures.missed ∙ ap (λ (missed : Bool). if new.is_other then missed else false) c.in_ok-follow.ensures.missed)
