use Rattle.std.proofs.Common.{◌≡◌, ◌∷◌, ◌+◌, ℕ, List, [], length, reverse, refl, sym, ap, subst, ◌∙◌, arith}
use Rattle.std.proofs.lemmas.List.{reverse-reverse}
use Rattle.board_core.specs.Course.{Course}
use Rattle.access_marks.specs.declared.marks.Marks.{Marks}
use Rattle.board_core.specs.History.{Event}
use Rattle.board_core.specs.Opening.{opening_at}
use Rattle.board_terms.specs.declared.config.Config.{Config}
use Rattle.conditions.specs.Condition.{Condition}
use Rattle.conditions.specs.Endings.{ending}
use Rattle.guest_script.specs.Grammar.{Content, content}
use Rattle.guest_programs.specs.declared.ends.End.{End}
use Rattle.guest_programs.specs.Steps.{task_of}
use Rattle.outcome_statistics.specs.Findings.{AreFound, AreMarkedFor, HasMarks}
use Rattle.outcome_statistics.specs.Records.{Tried}
use Rattle.seeded_orders.specs.Orders.{IsTried}
use Rattle.tried_orders.proofs.orders.see_order_on.Goals as goal

pub see-requires : goal.see-requires
see-requires g c = record {
  many = (c.requires.none 0).many;
  marks = λ ask. c.in_ok-marks.ensures.length ask ∙ ap length (sym c.deref.ensures.value);
}

pub marks_asked-requires : goal.marks_asked-requires
marks_asked-requires g c = c.in_ok-end.ensures.opening ∙ ap opening_at (sym c.make.ensures.config)

pub returns : goal.returns
returns g c = λ is_cut.
    let numbers : Config = c.args.trial.now.script.now.config in
    let body : Content = content c.args.trial.now.script.now.body in
    let seed : ℕ = c.args.trial.now.options.now.seed in
    let conditions : List Condition = c.args.trial.now.case.conditions.now in
    let board : Course = c.make.new.board in
    let past : List Event = board.past in
    let end : End = c.in_ok-end.end in
    let marks : List Marks = c.deref.result.now in
    let x : Tried = record { number = c.args.order; events = reverse past; marks = marks; end = ending end } in
    let made = c.requires.config in
    let same : board.opening.config ≡ numbers = c.make.ensures.config ∙ made in
    let tried : IsTried numbers (task_of body) seed c.args.order past end =
    subst (λ (k : Config). IsTried k (task_of body) seed c.args.order past end) made c.in_ok-end.ensures.tried in
    let whole : IsTried numbers (task_of body) seed c.args.order (reverse x.events) end =
    subst (λ (events : List Event). IsTried numbers (task_of body) seed c.args.order events end) (sym (reverse-reverse past)) tried in
    let marked : HasMarks numbers conditions x = λ ask.
    subst (λ (k : Config). AreMarkedFor conditions k (reverse x.events) x.marks) same
    (subst (λ (events : List Event). AreMarkedFor conditions board.opening.config events x.marks) (sym (reverse-reverse past))
    (subst (λ (all : List Marks). AreMarkedFor conditions board.opening.config past all) (sym c.deref.ensures.value) (c.in_ok-marks.ensures.marked ask))) in
    record {
      tried = x ∷ [];
      are = record { to = c.args.order + 1; are = (refl, (end, refl, whole, marked), refl); most = omega arith; whole = (λ _. refl) };
      right = subst (λ (n : ℕ). AreFound n conditions (x ∷ []) c.see.new.self) (ap (λ (k : Config). k.harts) same)
          (c.in_ok-see.ensures.found [] x refl refl refl refl (c.requires.none board.opening.config.harts));
    }
