-- What the marks of a history say of all of it.
use Rattle.std.proofs.Common.{◌≡◌, false, List, [], ◌∷◌, Option, Some, None}
use Rattle.std.specs.List.{All}
use Rattle.std.proofs.lemmas.List.Elements.{All-head, All-tail}
use Rattle.board_terms.specs.declared.op.Actor.{Actor}
use Rattle.board_terms.specs.declared.op.Actor.TheVariants.{Hart, Clock}
use Rattle.board_core.specs.History.{Event, Reach, access_of}
use Rattle.board_core.specs.Opening.{Opening}
use Rattle.any_tlb.specs.Firm.{AllAreFirm, IsFirmStep}
use Rattle.any_tlb.specs.Steady.{AllAreSteady, IsSteadyStep}
use Rattle.access_marks.specs.declared.marks.Marks.{Marks}
use Rattle.access_marks.specs.Marks.{AreMarked, AreWalksMarked, IsMarkedStep, IsWalkMarkedStep}

steady-step : (o : Opening) (past : List Event) (event : Event) (actor : Actor) (reach : Option Reach) (m : Marks) → IsMarkedStep o past event actor reach m → m.unsteady ≡ false → IsSteadyStep o past actor reach
steady-step o past event (Hart h) (Some reach) m marked quiet = marked.steady.0 quiet
steady-step o past event (Hart h) None m marked quiet = tt
steady-step o past event Clock reach m marked quiet = tt

pub unmarked_is_steady : (o : Opening) (past : List Event) (marks : List Marks) → AreMarked o past marks → All (λ (m : Marks). m.unsteady ≡ false) marks → AllAreSteady o past
unmarked_is_steady o [] marks marked quiet = tt
unmarked_is_steady o (event ∷ past) [] marked quiet = absurd marked
unmarked_is_steady o (event ∷ past) (m ∷ marks) marked quiet =
    let Quiet : Marks → Type 0 = λ m. m.unsteady ≡ false in (
      steady-step o past event event.actor (access_of event.op) m marked.0 (All-head Quiet m marks quiet),
      unmarked_is_steady o past marks marked.1 (All-tail Quiet m marks quiet),
    )

firm-step : (o : Opening) (past : List Event) (actor : Actor) (reach : Option Reach) (m : Marks) → IsWalkMarkedStep o past actor reach m → m.unfirm ≡ false → IsFirmStep o past actor reach
firm-step o past (Hart h) (Some reach) m marked quiet = marked.firm.0 quiet
firm-step o past (Hart h) None m marked quiet = tt
firm-step o past Clock reach m marked quiet = tt

pub unmarked_is_firm : (o : Opening) (past : List Event) (marks : List Marks) → AreWalksMarked o past marks → All (λ (m : Marks). m.unfirm ≡ false) marks → AllAreFirm o past
unmarked_is_firm o [] marks marked quiet = tt
unmarked_is_firm o (event ∷ past) [] marked quiet = absurd marked
unmarked_is_firm o (event ∷ past) (m ∷ marks) marked quiet =
    let Quiet : Marks → Type 0 = λ m. m.unfirm ≡ false in (
      firm-step o past event.actor (access_of event.op) m marked.0 (All-head Quiet m marks quiet),
      unmarked_is_firm o past marks marked.1 (All-tail Quiet m marks quiet),
    )
