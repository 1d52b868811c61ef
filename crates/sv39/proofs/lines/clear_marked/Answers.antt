use Rattle.std.proofs.Common.{◌≡◌, ◌+◌, ◌*◌, length, replicate, ap, refl, ◌∙◌, arith}
use Rattle.sv39.specs.Nonzero.{IsClear}
use Rattle.sv39.proofs.ClearWords.{all-clear}
use Rattle.sv39.proofs.Marks.{skip-clear}
use Rattle.sv39.proofs.lines.clear_marked.Goals as goal

pub loop-line-init : goal.loop-line-init
loop-line-init c =
    let words = c.args.words.now in
    let next = c.next_marked-line.ensures in record {
      within = next.within;
      clear = skip-clear words words c.args.marks.now 0 c.next_marked-line.result c.requires.kept next.none (λ k after. refl) (λ k low below. absurd (omega arith));
      rest = λ k after. refl;
    }

pub loop-line-preserved : goal.loop-line-preserved
loop-line-preserved c =
    let line = c.loop-line.line in
    let cleared = c.clear_line.new.words in
    let next = c.next_marked-line-in-loop-line.ensures in
    let clear : IsClear cleared 0 (8 * (line + 1)) = λ k low below. c.clear_line.ensures.cleared k low (omega arith) in record {
      within = next.within;
      clear = skip-clear cleared c.args.words.now c.args.marks.now (line + 1) c.next_marked-line-in-loop-line.result c.requires.kept next.none
          (λ k after. c.clear_line.ensures.rest k (omega arith) ∙ c.loop-line.invariant.rest k (omega arith)) clear;
      rest = λ k after. c.clear_line.ensures.rest k (omega (arith, next.later)) ∙ c.loop-line.invariant.rest k (omega (arith, next.later));
    }

pub returns : goal.returns
returns c =
    let long : length c.loop-line.words ≡ length c.args.words.now = omega arith in
    all-clear c.loop-line.words (λ k low below. c.loop-line.invariant.clear k low (omega arith)) ∙ ap (λ n. replicate n 0) long
