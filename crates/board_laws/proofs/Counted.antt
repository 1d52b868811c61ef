-- Of the harts of which fences were asked, they were applied at some, and wait at the others.
use Rattle.std.proofs.Common.{◌≡◌, ◌+◌, List, sym, ap, ◌∙◌}
use Rattle.std.specs.Prelude.{sum_by}
use Rattle.std.proofs.lemmas.List.{length-map}
use Rattle.rfence.specs.Laws.{total_remote, total_waiting}
use Rattle.rfence.specs.Opening.{kept}
use Rattle.rfence.specs.State.{total_applied}
use Rattle.rfence.specs.Waiting as queues
use Rattle.rfence.proofs.Totals.{counts-agree}
use Rattle.rfence.proofs.Remote.{applied-is-counted}
use Rattle.board_core.specs.Opening.{Opening}
use Rattle.board_core.specs.Course.{harts_of}
use Rattle.board_core.specs.Fences.{turns}
use Rattle.board_core.specs.History.{Event}
use Rattle.board_terms.specs.Limits.{IsGood}
use Rattle.board_core.specs.Replies.{IsLegal}
use Rattle.board_core.specs.Totals.{totals}
use Rattle.board_core.proofs.Right.{turns_are_right}

-- what waits is counted alike with and without places
same-waiting : (o : Opening) (past : List Event) → (totals o past).waiting ≡ total_waiting o.fences o.config.harts (turns o past)
same-waiting o past i = sum_by (λ h. length-map (queues.waiting o.fences (turns o past) h) kept i) (harts_of o.config)

pub fences_are_counted : (o : Opening) (past : List Event) → IsGood o.config → IsLegal o past → (totals o past).asked ≡ (totals o past).applied + (totals o past).waiting
fences_are_counted o past good legal =
    counts-agree o.fences o.config.harts (turns o past) (turns_are_right o past good legal)
    ∙ ap (λ waits. total_applied o.fences o.config.harts (turns o past) + waits) (sym (same-waiting o past))

pub applied_is_counted : (o : Opening) (past : List Event) → IsGood o.config → IsLegal o past
    → (totals o past).applied ≡ o.fences.applied + total_remote o.fences o.config.harts (turns o past)
applied_is_counted o past good legal = applied-is-counted o.fences o.config.harts (turns o past) (turns_are_right o past good legal)
