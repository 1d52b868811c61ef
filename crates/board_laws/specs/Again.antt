-- A history, recomputed from its steps (profile).
use Rattle.std.specs.Prelude.{List, [], ◌∷◌, map}
use Rattle.board_core.specs.Opening.{Opening}
use Rattle.board_terms.specs.declared.op.Actor.{Actor}
use Rattle.board_terms.specs.declared.op.Op.{Op}
use Rattle.board_core.specs.History.{Event}
use Rattle.board_core.specs.Replies.{stepped}

-- a step: an actor, and its operation
pub record ActorStep : Type 0 where
  pub actor : Actor
  pub op : Op

-- the actors and operations of the past, without replies and entries
abbrev pub actor_steps : List Event → List ActorStep
actor_steps = map (λ event. record { actor = event.actor; op = event.op })

-- The past that the steps make, newest first. Each step gets its answer and its entry from the past of the steps before
-- it. A refused step makes no event.
abbrev pub again : Opening → List ActorStep → List Event
again o [] = []
again o (step ∷ steps) = (stepped (record { opening = o; past = again o steps }) step.actor step.op).past
