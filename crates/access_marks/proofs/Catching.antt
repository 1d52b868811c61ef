-- A board that takes the events of a legal record.
use Rattle.std.proofs.Common.{◌≡◌, ◌↔◌, ℕ, ◌+◌, ◌<◌, Bool, true, List, ◌∷◌, length, take, reverse, get_or, sym, ap, subst, ◌∙◌}
use Rattle.board_core.specs.Course.{Course}
use Rattle.board_core.specs.History.{Event}
use Rattle.board_core.specs.Opening.{Opening}
use Rattle.board_core.specs.Replies.{IsLegal}
use Rattle.access_marks.specs.declared.call_step.CallStep.{CallStep}
use Rattle.access_marks.specs.declared.use_watch.UseWatch.{UseWatch}
use Rattle.access_marks.specs.Inside.Following.{IsNext}
use Rattle.access_marks.specs.Inside.Missing.{IsWatch, call_step}
use Rattle.access_marks.proofs.Recording.{legal-at, next-of, one-more}

module _ (o : Opening) (events : List Event) (i : ℕ) (event : Event) (inside : i < length events) (is : event ≡ get_or events i event) (legal : IsLegal o (reverse events)) where
  -- it takes each
  pub taken : (old new : Course) (says : Bool) → old ≡ record { opening = o; past = reverse (take i events) } → (says ≡ true) ↔ IsNext old.opening old.past event
      → (says ≡ true → new ≡ record { opening = old.opening; past = event ∷ old.past }) → new ≡ record { opening = o; past = reverse (take (i + 1) events) }
  taken old new says here tells after =
      let next = subst (λ (b : Course). IsNext b.opening b.past event) (sym here) (next-of o (reverse (take i events)) event (legal-at o events i event inside is legal)) in
      after (tells.1 next) ∙ ap (λ (b : Course). let more : Course = record { opening = b.opening; past = event ∷ b.past } in more) here
      ∙ ap (λ (past : List Event). let b : Course = record { opening = o; past = past } in b) (sym (one-more events i event inside is))

  -- and the watch of an access tells what the longer record says
  pub watched : (new : Course) (step : CallStep) (before after : UseWatch) → new ≡ record { opening = o; past = reverse (take (i + 1) events) } → step ≡ call_step o event
      → ((e : Event) (past : List Event) → new.past ≡ e ∷ past → step ≡ call_step new.opening e → IsWatch new.opening past before → IsWatch new.opening (e ∷ past) after)
      → IsWatch o (reverse (take i events)) before → IsWatch o (reverse (take (i + 1) events)) after
  watched new step before after there does goes was =
      let more = one-more events i event inside is in
      subst (λ (past : List Event). IsWatch o past after) (sym more)
      (subst (λ (b : Course). (e : Event) (past : List Event) → b.past ≡ e ∷ past → step ≡ call_step b.opening e → IsWatch b.opening past before → IsWatch b.opening (e ∷ past) after) there goes
      event (reverse (take i events)) more does was)
