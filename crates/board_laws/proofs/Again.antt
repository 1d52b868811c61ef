-- A legal history follows from its steps.
use Rattle.std.proofs.Common.{◌≡◌, ◌↔◌, List, [], ◌∷◌, subst, refl, sym, ap, ◌∙◌, Result, Ok, Err}
use Rattle.board_core.specs.Opening.{IsOpening, Opening}
use Rattle.board_core.specs.History.{Event}
use Rattle.board_terms.specs.declared.reply.Refusal.{Refusal}
use Rattle.board_terms.specs.declared.reply.Reply.{Reply}
use Rattle.board_core.specs.Replies.{IsLegal, answer, recorded, stepped}
use Rattle.board_core.specs.Accesses.{used_by_actor}
use Rattle.board_laws.specs.Again.{ActorStep, again, actor_steps}

-- an event that is answered so and used so is the one that its step makes
stepped-same : (o : Opening) (past : List Event) (event : Event) → answer o past event.actor event.op ≡ Ok event.reply → event.translation ≡ used_by_actor o past event.actor event.op
    → (stepped (record { opening = o; past = past }) event.actor event.op).past ≡ event ∷ past
stepped-same o past event answered translated =
    rw answered (λ i. record { actor = event.actor; op = event.op; reply = event.reply; translation = sym translated i } ∷ past)

same-again : (o : Opening) (past : List Event) → IsLegal o past → again o (actor_steps past) ≡ past
same-again o [] legal = refl
same-again o (event ∷ past) legal =
    ap (λ (before : List Event). (stepped (record { opening = o; past = before }) event.actor event.op).past) (same-again o past legal.2)
    ∙ stepped-same o past event legal.0 legal.1

-- what steps make is legal
pub again-legal : (o : Opening) → IsOpening o → (steps : List ActorStep) → IsLegal o (again o steps)
again-legal o opens [] = opens
again-legal o opens (step ∷ steps) = by_answer (answer o (again o steps) step.actor step.op) refl (again-legal o opens steps)
  where
    by_answer : (r : Result Reply Refusal) → answer o (again o steps) step.actor step.op ≡ r → IsLegal o (again o steps)
        → IsLegal o (recorded (record { opening = o; past = again o steps }) step.actor step.op r).past
    by_answer (Ok reply) is legal = (is, refl, legal)
    by_answer (Err refusal) is legal = legal

pub recorded_is_recomputed : (o : Opening) (past : List Event) → IsOpening o → IsLegal o past ↔ (again o (actor_steps past) ≡ past)
recorded_is_recomputed o past opens = (same-again o past, λ same. subst (IsLegal o) same (again-legal o opens (actor_steps past)))
