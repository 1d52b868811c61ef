use Rattle.std.proofs.Common.{◌≡◌, ℕ, true, List, ap, subst, sym, ◌∙◌}
use Rattle.std.specs.Prelude.{◌&&◌, ◌||◌}
use Rattle.hart_mask.specs.Ids.{has, ids_where, intersection_of, union_of}
use Rattle.hart_mask.proofs.Sets.{passes-ids_where}
use Rattle.board_terms.specs.declared.config.Config.{Config}
use Rattle.board_lock.specs.Inside.Rests.{Held, IsRests, awake, held}
use Rattle.board_lock.specs.Inside.Waking.{comes_to, concerned, woken}
use Rattle.board_lock.specs.declared.rests.Rests.{Rests}
use Rattle.board_lock.specs.declared.rests.Woken.{Woken}
use Rattle.board_lock.proofs.Resting.{and-left, desk-rests, fewer-rest, none-wakes, still-none}
use Rattle.board_lock.proofs.Sifting.{of-both, waking, woken-of}
use Rattle.board_lock.proofs.desk.Desk.wake.Goals as goal
use Rattle.board_lock.proofs.desk.Desk.wake.Goals.{then-rests, else-rests}

pub returns-then-is_none-clause-answer : goal.returns-then-is_none-clause-answer
returns-then-is_none-clause-answer g c =
    let d : Held = held c.self.inside.board c.self.inside.rests c.self.inside.ended in
    let none = c.is_none.ensures.0 c.if-is_none.true in
    c.none.ensures ∙ none-wakes d c.args.op.now none.0 none.1 ∙ ap (λ (x : Held). woken x c.args.op.now) c.self.view_is

pub returns-then-is_none-clause-left : goal.returns-then-is_none-clause-left
returns-then-is_none-clause-left g c =
    let d : Held = held c.self.inside.board c.self.inside.rests c.self.inside.ended in
    let none = c.is_none.ensures.0 c.if-is_none.true in
    subst (λ (x : Held). x ≡ held x.board (awake x.rests c.none.result) x.ended) c.self.view_is
    (still-none d none.0 none.1 ∙ ap (λ (w : Woken). held d.board (awake d.rests w) d.ended) (sym c.none.ensures))

pub come_to-come-requires : goal.come_to-come-requires
come_to-come-requires g c h there =
    let r : Rests = c.self.inside.rests in
    let both : c.intersection.result ≡ intersection_of (intersection_of r.harts r.firmware) c.concerned-concerned.result =
    c.intersection.ensures ∙ ap (λ (ids : List ℕ). intersection_of ids c.concerned-concerned.result) c.intersection-firmware.ensures in
    c.self.invariant.at_rest.below h (of-both r.harts r.firmware c.concerned-concerned.result h (subst (λ (ids : List ℕ). has ids h ≡ true) both there))

pub invariant_of-self : goal.invariant_of-self
invariant_of-self g c =
    let harts = g.K.Room.opening.config.harts in
    desk-rests c.self.invariant
    (subst (IsRests harts) (sym c.end.ensures) (fewer-rest harts c.self.inside.rests _ c.self.invariant.at_rest))

pub returns-clause-answer : goal.returns-clause-answer
returns-clause-answer g c =
    let r : Rests = c.self.inside.rests in
    let now : Held = c.args.self.now in
    let who : List ℕ = concerned c.self.inside.board.opening.config.harts c.args.op.now in
    let named : c.concerned-concerned.result ≡ who = c.concerned-concerned.ensures ∙ ap (λ (now : Config). concerned now.harts c.args.op.now) c.config.ensures.config in
    let both : c.intersection.result ≡ intersection_of (intersection_of r.harts r.firmware) who =
    c.intersection.ensures ∙ ap (λ (ids : List ℕ). intersection_of ids c.concerned-concerned.result) c.intersection-firmware.ensures
    ∙ ap (intersection_of (intersection_of r.harts r.firmware)) named in
    let come : c.come_to-come.result ≡ ids_where (λ h. has (intersection_of (intersection_of r.harts r.firmware) who) h && comes_to now h) =
    c.come_to-come.ensures ∙ ap (λ (ids : List ℕ). ids_where (λ h. has ids h && comes_to now h)) both in
    let harts : c.union.result ≡ ids_where (λ h. has r.harts h && (has r.events h || (has r.firmware h && (has who h && comes_to now h)))) =
    c.union.ensures ∙ ap (λ (ids : List ℕ). union_of ids c.come_to-come.result) c.intersection-2.ensures
    ∙ ap (union_of (intersection_of r.harts r.events)) come ∙ waking r.harts r.events r.firmware who (comes_to now) in
    let clock : c.if-rests.woken ≡ (r.clock && r.clock_events) = elim c.if-rests.branch [
      | then-rests w ↦ w.woken-is ∙ ap (λ b. b && r.clock_events) (sym w.if-rests.true)
      | else-rests w ↦ w.woken-is ∙ w.if-rests.false ∙ ap (λ b. b && r.clock_events) (sym w.if-rests.false)
    ] in
    let is : Woken = record { harts = c.union.result; clock = c.if-rests.woken } in
    woken-of is (woken now c.args.op.now)
    (subst (λ (x : Held). c.union.result ≡ ids_where (λ h. has x.rests.harts h
    && (has x.rests.events h || (has x.rests.firmware h && (has (concerned x.board.opening.config.harts c.args.op.now) h && comes_to now h))))) c.self.view_is harts)
    (subst (λ (x : Held). c.if-rests.woken ≡ (x.rests.clock && x.rests.clock_events)) c.self.view_is clock)

pub returns-clause-below : goal.returns-clause-below
returns-clause-below g c h there =
    let r : Rests = c.self.inside.rests in
    let now : Held = c.args.self.now in
    let who : List ℕ = concerned c.self.inside.board.opening.config.harts c.args.op.now in
    let named : c.concerned-concerned.result ≡ who = c.concerned-concerned.ensures ∙ ap (λ (now : Config). concerned now.harts c.args.op.now) c.config.ensures.config in
    let both : c.intersection.result ≡ intersection_of (intersection_of r.harts r.firmware) who =
    c.intersection.ensures ∙ ap (λ (ids : List ℕ). intersection_of ids c.concerned-concerned.result) c.intersection-firmware.ensures
    ∙ ap (intersection_of (intersection_of r.harts r.firmware)) named in
    let come : c.come_to-come.result ≡ ids_where (λ h. has (intersection_of (intersection_of r.harts r.firmware) who) h && comes_to now h) =
    c.come_to-come.ensures ∙ ap (λ (ids : List ℕ). ids_where (λ h. has ids h && comes_to now h)) both in
    let harts : c.union.result ≡ ids_where (λ h. has r.harts h && (has r.events h || (has r.firmware h && (has who h && comes_to now h)))) =
    c.union.ensures ∙ ap (λ (ids : List ℕ). union_of ids c.come_to-come.result) c.intersection-2.ensures
    ∙ ap (union_of (intersection_of r.harts r.events)) come ∙ waking r.harts r.events r.firmware who (comes_to now) in
    let in_rest = (passes-ids_where (λ k. has r.harts k && (has r.events k || (has r.firmware k && (has who k && comes_to now k)))) h
    (subst (λ (ids : List ℕ). has ids h ≡ true) harts there)).1 in
    c.self.invariant.at_rest.below h (and-left (has r.harts h) _ in_rest)
