use Rattle.std.proofs.Common.{◌≡◌, ℕ, ◌<◌, length, get_or, List, Option, Some, None, ap, ◌∙◌}
use Rattle.std.proofs.lemmas.List.{get_or-set_same, length-set, set-set}
use Rattle.interrupts.specs.Timing.{Timing, with_deadline}
use Rattle.interrupts.proofs.Listing.{later-inserted, listed-ahead, listed-due, room, unset}
use Rattle.interrupts.proofs.timers.Timers.set.Goals as goal

-- what is known once the hart's deadline is forgotten
record Forgotten (before : Timing) (deadlines : List (Option ℕ)) (h : ℕ) : Type 0 where
  inside : h < length deadlines
  none : get_or deadlines h None ≡ None

forgotten : (before now : Timing) (h : ℕ) → now ≡ with_deadline before h None → h < length before.deadlines → Forgotten before now.deadlines h
forgotten before now h is inside =
    let same = ap (λ (t : Timing). t.deadlines) is in
    record { inside = rw (same, length-set before.deadlines h None) inside; none = rw same (get_or-set_same before.deadlines h None None inside) }

set-again : (before now : Timing) (h deadline : ℕ) → now ≡ with_deadline before h None → with_deadline now h (Some deadline) ≡ with_deadline before h (Some deadline)
set-again before now h deadline is =
    ap (λ t. with_deadline t h (Some deadline)) is ∙ ap (λ ds. record before { deadlines = ds }) (set-set before.deadlines h None (Some deadline))

pub invariant_of-self : goal.invariant_of-self
invariant_of-self c =
    let kept = c.self.invariant in
    let at = c.self.inside in
    let was = forgotten c.args.self.now _ c.args.h (c.self.view_is ∙ c.forget.ensures) c.requires in
    let free = unset at.time at.deadlines.items at.ahead at.due c.args.h was.inside was.none kept.1 kept.2 in
    (kept.0, rw c.insert.ensures (listed-due at.time at.deadlines.items at.ahead at.due c.args.h c.args.deadline was.inside c.if-deadline-self.true free.1 kept.1), kept.2, kept.3)

pub insert-requires-else-deadline-self : goal.insert-requires-else-deadline-self
insert-requires-else-deadline-self c =
    let kept = c.self.invariant in
    let at = c.self.inside in
    let was = forgotten c.args.self.now _ c.args.h (c.self.view_is ∙ c.forget.ensures) c.requires in
    let free = unset at.time at.deadlines.items at.ahead at.due c.args.h was.inside was.none kept.1 kept.2 in
    room at.time at.deadlines.items at.ahead at.due c.args.h was.inside free.1 kept.1

pub invariant_of-self-else-deadline-self : goal.invariant_of-self-else-deadline-self
invariant_of-self-else-deadline-self c =
    let kept = c.self.invariant in
    let at = c.self.inside in
    let was = forgotten c.args.self.now _ c.args.h (c.self.view_is ∙ c.forget.ensures) c.requires in
    let free = unset at.time at.deadlines.items at.ahead at.due c.args.h was.inside was.none kept.1 kept.2 in
    let put = c.insert-else-deadline-self.ensures in (
      kept.0,
      listed-ahead at.time at.deadlines.items at.ahead _ at.due c.args.h c.args.deadline was.inside free.0 free.1 kept.1 put,
      later-inserted at.time at.ahead _ c.args.h c.args.deadline c.if-deadline-self.false kept.2 put,
      kept.3,
    )

pub returns-then-deadline-self-clause-after : goal.returns-then-deadline-self-clause-after
returns-then-deadline-self-clause-after c = set-again c.args.self.now _ c.args.h c.args.deadline (c.self.view_is ∙ c.forget.ensures)

pub returns-else-deadline-self-clause-after : goal.returns-else-deadline-self-clause-after
returns-else-deadline-self-clause-after c = set-again c.args.self.now _ c.args.h c.args.deadline (c.self.view_is ∙ c.forget.ensures)
