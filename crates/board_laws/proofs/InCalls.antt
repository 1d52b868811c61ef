-- A hart inside a fence call is STARTED.
use Rattle.std.proofs.Common.{◌≡◌, List, refl, Option, Some, None}
use Rattle.hsm.specs.declared.hart.HartState.TheVariants as states
use Rattle.rfence.specs.declared.opened.FenceCall.{FenceCall}
use Rattle.rfence.specs.Calls as calls
use Rattle.rfence.specs.Calls.{open_call}
use Rattle.rfence.specs.State.{in_call}
use Rattle.tlb_model.specs.declared.fence.Flush.{Flush}
use Rattle.board_core.specs.Opening.{Opening}
use Rattle.board_core.specs.Fences.{turns}
use Rattle.board_core.specs.History.{Event}
use Rattle.board_core.specs.Replies.{IsLegal}
use Rattle.board_core.specs.States.{state}
use Rattle.board_core.proofs.InCalls.{inside-started}
use Rattle.board_laws.specs.Fences.{CallsAreMadeStarted}

pub calls_are_made_started : (o : Opening) (past : List Event) → IsLegal o past → CallsAreMadeStarted o past
calls_are_made_started o past legal h harts inside = by_call (open_call o.fences (turns o past) h) refl inside
  where
    by_call : (opened : Option (FenceCall Flush)) → open_call o.fences (turns o past) h ≡ opened → in_call opened (calls.outstanding o.fences o.config.harts (turns o past) h) ≡ Some harts
        → state o past h ≡ states.Started
    by_call None is e = cc
    by_call (Some place) is e = inside-started o past legal h place is
