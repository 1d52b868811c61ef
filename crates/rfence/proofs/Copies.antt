-- States with as many calls have as many of all else.
use Rattle.std.proofs.Common.{◌≡◌, length, sym, ◌∙◌}
use Rattle.rfence.specs.State.{HasTurns, State}
use Rattle.rfence.proofs.Stands.{length-calls, length-opened, length-queues}

pub same-lengths : {F : Type 0} (a b : State F) → HasTurns a → HasTurns b → length a.calls ≡ length b.calls
    → (length a.queues ≡ length b.queues) × (length a.opened ≡ length b.opened)
same-lengths a b mine yours same =
    let harts : mine.n ≡ yours.n =
    sym (length-calls mine.o mine.n mine.turns a mine.stands) ∙ same ∙ length-calls yours.o yours.n yours.turns b yours.stands in (
      length-queues mine.o mine.n mine.turns a mine.stands ∙ harts ∙ sym (length-queues yours.o yours.n yours.turns b yours.stands),
      length-opened mine.o mine.n mine.turns a mine.stands ∙ harts ∙ sym (length-opened yours.o yours.n yours.turns b yours.stands),
    )
