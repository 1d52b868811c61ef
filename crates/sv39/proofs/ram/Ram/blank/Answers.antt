use Rattle.std.proofs.Common.{◌≡◌, ◌*◌, ap, length, subst, sym, ◌∙◌, arith}
use Rattle.std.proofs.lemmas.List.{length-replicate}
use Rattle.sv39.specs.Inside.Lines.{AreMarked}
use Rattle.sv39.proofs.Marks.{zeros-marked}
use Rattle.sv39.proofs.ram.Ram.blank.Goals as goal

pub invariant_of-result : goal.invariant_of-result
invariant_of-result c =
    let words = c.in_ok-words.words in
    let marks = c.in_ok-marks.marks in
    let long : length words.items ≡ 512 * c.args.pages = ap length c.in_ok-words.ensures.items ∙ length-replicate (512 * c.args.pages) 0 in (
      record { whole = omega (arith, long); some = omega (arith, long); limit = omega (arith, long) },
      c.in_ok-words.ensures.room ∙ sym long ∙ sym words.ok.0,
      long ∙ ap (λ n. 512 * n) (sym (ap length c.in_ok-marks.ensures.items ∙ length-replicate c.args.pages 0)),
      subst (λ ws. AreMarked ws marks.items) (sym c.in_ok-words.ensures.items) (zeros-marked (512 * c.args.pages) marks.items),
    )
