-- What was found of orders, and of orders behind others.
use Rattle.std.proofs.Common.{◌≡◌, ℕ, ◌+◌, List, [], ◌∷◌, ◌++◌, refl, sym, subst}
use Rattle.std.specs.Prelude.{reverse}
use Rattle.std.proofs.lemmas.List.{reverse-reverse}
use Rattle.access_marks.specs.declared.marks.Marks.{Marks}
use Rattle.board_terms.specs.declared.config.Config.{Config}
use Rattle.board_core.specs.History.{Event}
use Rattle.conditions.specs.Condition.{Condition}
use Rattle.guest_script.specs.Grammar.{Content}
use Rattle.guest_programs.specs.declared.blocks.Program.{Program}
use Rattle.guest_programs.specs.declared.ends.End.{End}
use Rattle.guest_programs.specs.Programs.{blocks_of, ticks_of}
use Rattle.seeded_orders.specs.Orders.{IsTried}
use Rattle.guest_programs.specs.Steps.{task_in, task_of}
use Rattle.outcome_statistics.specs.declared.findings.Findings.{Findings}
use Rattle.conditions.specs.Endings.{ending}
use Rattle.outcome_statistics.specs.Records.{Tried}
use Rattle.outcome_statistics.specs.Findings.{AreFound, AreFoundOf, AreMarkedFor, AreOrders, AskOfMarks, IsOrder}

orders-behind : (c : Config) (content : Content) (conditions : List Condition) (seed from mid to : ℕ) (xs ys : List Tried) → AreOrders c content conditions seed from xs mid
    → AreOrders c content conditions seed mid ys to → AreOrders c content conditions seed from (ys ++ xs) to
orders-behind c content conditions seed from mid to xs [] here there = subst (λ (n : ℕ). AreOrders c content conditions seed from xs n) (sym there) here
orders-behind c content conditions seed from mid to xs (y ∷ ys) here there = (there.0, there.1, orders-behind c content conditions seed from mid y.number xs ys here there.2)

-- what a program has its actors do is what its script says
pub same-task : (program : Program) (content : Content) → (task_in program).guests ≡ blocks_of content → program.ticks.now ≡ ticks_of content → task_in program ≡ task_of content
same-task program content guests ticks = λ i. record { guests = guests i; ticks = ticks i }

-- before any order
pub found-none : (c : Config) (content : Content) (conditions : List Condition) (seed from : ℕ) (found : Findings) → AreFound c.harts conditions [] found → AreFoundOf c content conditions seed from from found
found-none c content conditions seed from found none = ([], refl, none)

-- one order more
pub found-next : (c : Config) (content : Content) (conditions : List Condition) (seed from i : ℕ) (past : List Event) (marks : List Marks) (end : End) (before after : Findings) (harts : ℕ) → harts ≡ c.harts
    → IsTried c (task_of content) seed i past end → (AskOfMarks conditions → AreMarkedFor conditions c past marks)
    → ((tried : List Tried) (x : Tried) → x.number ≡ i → x.events ≡ reverse past → x.marks ≡ marks → x.end ≡ ending end → AreFound harts conditions tried before → AreFound harts conditions (x ∷ tried) after)
    → AreFoundOf c content conditions seed from i before → AreFoundOf c content conditions seed from (i + 1) after
found-next c content conditions seed from i past marks end before after harts same is marked sees found =
    let x : Tried = record { number = i; events = reverse past; marks = marks; end = ending end } in
    let P : List Event → Type 0 = λ xs. IsTried c (task_of content) seed i xs end in
    let M : List Event → Type 0 = λ xs. AreMarkedFor conditions c xs marks in
    let order : IsOrder c content conditions seed x = (end, refl, subst P (sym (reverse-reverse past)) is, (λ ask. subst M (sym (reverse-reverse past)) (marked ask))) in (
      x ∷ found.0,
      (refl, order, found.1),
      subst (λ (n : ℕ). AreFound n conditions (x ∷ found.0) after) same (sees found.0 x refl refl refl refl (subst (λ (n : ℕ). AreFound n conditions found.0 before) (sym same) found.2)),
    )

-- orders behind others
pub found-both : (c : Config) (content : Content) (conditions : List Condition) (seed from mid to : ℕ) (one other both : Findings)
    → ((harts : ℕ) (asked : List Condition) (tried more : List Tried) → AreFound harts asked tried one → AreFound harts asked more other → AreFound harts asked (more ++ tried) both)
    → AreFoundOf c content conditions seed from mid one → AreFoundOf c content conditions seed mid to other → AreFoundOf c content conditions seed from to both
found-both c content conditions seed from mid to one other both adds here there = (
  there.0 ++ here.0,
  orders-behind c content conditions seed from mid to here.0 there.0 here.1 there.1,
  adds c.harts conditions here.0 there.0 here.2 there.2,
)
