use Rattle.std.proofs.Common.{◌<◌, length, arith, get_or, refl}
use Rattle.std.proofs.lemmas.List.{drop-drop}
use Rattle.std.proofs.lemmas.List.Sorted.{IsNonDecreasingBy-drop}
use Rattle.interrupts.specs.declared.ahead.Member.{Member}
use Rattle.interrupts.proofs.Members.{later-from_first}
use Rattle.interrupts.proofs.ahead.Ahead.pop_due.Goals as goal

pub returns-then-first-time : goal.returns-then-first-time
returns-then-first-time c =
    let members = c.self.inside.members.items in
    let start = c.self.inside.start in
    let look = c.in_ok-first.ensures.lookup in
    let first : (d : Member) → c.args.time < (get_or members start d).deadline = λ d. rw (← c.as_slice.ensures.value) (rw (← look.3.1 d) c.if-first-time.true) in
    record { same = refl; later = rw (← c.self.view_is) (later-from_first c.args.time members start c.self.invariant.1 first) }

pub invariant_of-self : goal.invariant_of-self
invariant_of-self c =
    let look = c.in_ok-first.ensures.lookup in
    let inside : c.self.inside.start < length c.self.inside.members.items = rw (← c.as_slice.ensures.value) look.3.0 in
    let up = IsNonDecreasingBy-drop (λ (m : Member). m.deadline) 1 _ c.self.invariant.1 in
    (omega (arith, inside), rw (← drop-drop 1 c.self.inside.start c.self.inside.members.items) up)
