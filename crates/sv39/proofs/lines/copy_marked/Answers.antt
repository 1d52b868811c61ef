use Rattle.std.proofs.Common.{◌+◌, ◌*◌, refl, ◌∙◌, arith}
use Rattle.sv39.specs.Inside.Lines.{AreSame}
use Rattle.sv39.proofs.Marks.{all-same, skip-same}
use Rattle.sv39.proofs.lines.copy_marked.Goals as goal

pub loop-line-init : goal.loop-line-init
loop-line-init c =
    let words = c.args.words.now in
    let next = c.next_marked-line.ensures in record {
      within = next.within;
      same = skip-same words words c.args.others.now c.args.marks.now c.args.other_marks.now 0 c.next_marked-line.result c.requires.kept c.requires.others_kept
          next.none next.none_other (λ k after. refl) (λ k low below. absurd (omega arith));
      rest = λ k after. refl;
    }

pub loop-line-preserved : goal.loop-line-preserved
loop-line-preserved c =
    let line = c.loop-line.line in
    let others = c.args.others.now in
    let copied = c.copy_line.new.words in
    let next = c.next_marked-line-in-loop-line.ensures in
    let same : AreSame copied others 0 (8 * (line + 1)) = λ k low below. c.copy_line.ensures.copied k low (omega arith) in record {
      within = next.within;
      same = skip-same copied c.args.words.now others c.args.marks.now c.args.other_marks.now (line + 1) c.next_marked-line-in-loop-line.result c.requires.kept c.requires.others_kept
          next.none next.none_other (λ k after. c.copy_line.ensures.rest k (omega arith) ∙ c.loop-line.invariant.rest k (omega arith)) same;
      rest = λ k after. c.copy_line.ensures.rest k (omega (arith, next.later)) ∙ c.loop-line.invariant.rest k (omega (arith, next.later));
    }

pub returns : goal.returns
returns c =
    all-same c.loop-line.words c.args.others.now (8 * c.loop-line.line) (omega arith) (omega arith) c.loop-line.invariant.same
