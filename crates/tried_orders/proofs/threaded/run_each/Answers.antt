use Rattle.std.proofs.Common.{◌≡◌, ◌∷◌, ℕ, true, List, [], reverse, refl, sym, ap, subst, ◌∙◌, arith}
use Rattle.std.proofs.lemmas.List.{reverse-reverse}
use Rattle.board_core.specs.Course.{Course}
use Rattle.board_core.specs.History.{Event}
use Rattle.board_core.specs.Opening.{Opening, opening_at}
use Rattle.board_terms.specs.declared.config.Config.{Config}
use Rattle.conditions.specs.Condition.{Condition}
use Rattle.conditions.specs.Endings.{ending}
use Rattle.guest_script.specs.Grammar.{Content, content}
use Rattle.guest_programs.specs.declared.ends.End.{End}
use Rattle.guest_programs.specs.Ends.{IsEnd}
use Rattle.guest_programs.specs.Programs.{blocks_of, ticks_of}
use Rattle.hart_threads.specs.Shares.{IsRun}
use Rattle.outcome_statistics.specs.Findings.{AreFound, AreMarkedFor, HasMarks}
use Rattle.outcome_statistics.specs.Records.{Tried}
use Rattle.tried_orders.specs.Verdicts.{IsRunRecord}
use Rattle.tried_orders.proofs.threaded.run_each.Goals as goal

pub loop-number-init : goal.loop-number-init
loop-number-init g c = (refl, refl, refl, ([], refl, tt, c.requires.none))

pub judge_run-requires : goal.judge_run-requires
judge_run-requires g c = record {
  many = c.loop-number.invariant.3.3.many;
  opening = c.in_ok-ended.ensures.opening ∙ ap (λ (o : Opening). opening_at o.config) (sym c.in_ok-ended.ensures.opening);
}

pub loop-number-preserved : goal.loop-number-preserved
loop-number-preserved g c =
    let numbers : Config = c.args.trial.now.script.now.config in
    let body : Content = content c.args.trial.now.script.now.body in
    let conditions : List Condition = c.args.trial.now.case.conditions.now in
    let before = c.loop-number.invariant in
    let records : List Tried = before.3.0 in
    let board : Course = c.in_ok-ended.ended.board in
    let past : List Event = board.past in
    let end : End = c.in_ok-ended.ended.end in
    let judged = c.in_ok-judge_run.ensures.found in
    let x : Tried = record { number = c.loop-number.number; events = reverse past; marks = judged.0; end = ending end } in
    let opened : board.opening ≡ opening_at numbers = c.in_ok-ended.ensures.opening in
    let whole : past ≡ reverse x.events = sym (reverse-reverse past) in
    let ended : IsEnd end (opening_at numbers) (reverse x.events) (blocks_of body) =
    subst (λ (o : Opening). IsEnd end o (reverse x.events) (blocks_of body)) opened
    (subst (λ (events : List Event). IsEnd end board.opening events (blocks_of body)) whole c.in_ok-ended.ensures.end) in
    let run : IsRun (λ actor ordinal answer. answer ≡ true) (opening_at numbers) (blocks_of body) (ticks_of body) (reverse x.events) end =
    subst (λ (o : Opening). IsRun (λ actor ordinal answer. answer ≡ true) o (blocks_of body) (ticks_of body) (reverse x.events) end) opened
    (subst (λ (events : List Event). IsRun (λ actor ordinal answer. answer ≡ true) board.opening (blocks_of body) (ticks_of body) events end) whole c.in_ok-ended.ensures.threads) in
    let marked : HasMarks numbers conditions x = λ ask.
    subst (λ (o : Opening). AreMarkedFor conditions o.config (reverse x.events) x.marks) opened
    (subst (λ (events : List Event). AreMarkedFor conditions board.opening.config events x.marks) whole (judged.1 ask)) in
    let one : IsRunRecord numbers body conditions x = record { end = end; ended = refl; is = ended; run = run; marked = marked } in
    let harts : board.opening.config.harts ≡ numbers.harts = ap (λ (o : Opening). o.config.harts) opened in (
      before.0,
      c.judge_run.ensures.source ∙ before.1,
      before.2,
      (
        x ∷ records,
        (let long = before.3.1 in omega arith),
        (one, before.3.2),
        subst (λ (n : ℕ). AreFound n conditions (x ∷ records) c.judge_run.new.tried.found) harts
            (judged.2 records x refl refl refl refl
            (subst (λ (n : ℕ). AreFound n conditions records c.loop-number.tried.found) (sym harts) before.3.3)),
      ),
    )
