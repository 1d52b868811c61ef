use Rattle.std.proofs.Common.{◌≡◌, ℕ, ◌+◌, ◌<◌, List, [], ◌∷◌, ◌++◌, length, take, sym, ap, ◌∙◌, subst, arith}
use Rattle.std.proofs.lemmas.List.{append_assoc, length-take-le, take_more}
use Rattle.test_report.specs.declared.point.Point.{Point}
use Rattle.test_report.specs.Lines.{AreNumbered, IsPointText}
use Rattle.test_report.proofs.Numbered.{one-more}
use Rattle.test_report.proofs.page.Page.put_points.Goals as goal

pub loop-point-preserved : goal.loop-point-preserved
loop-point-preserved c =
    let before = c.loop-point.invariant in
    let more = c.in_ok-put_noted.ensures.text in
    let points : List Point = c.args.points.now in
    let index = c.loop-point.point-index in
    let point : Point = c.point-item.result in
    let below : index < length points = let t = c.loop-point-test.true in omega arith in
    let grown : take (index + 1) points ≡ take index points ++ point ∷ [] =
    take_more points index point below ∙ ap (λ (p : Point). take index points ++ p ∷ []) (sym c.point-item.is) in
    let long : length (take index points) ≡ index = length-take-le index points (let t = below in omega arith) in (
      c.put_noted.ensures.style ∙ before.0,
      (let a = c.in_ok-put_noted.ensures.points in let b = before.1 in omega arith),
      (
        before.2.0 ++ more.0,
        more.1 ∙ ap (λ (t : List ℕ). t ++ more.0) before.2.1 ∙ append_assoc _ before.2.0 more.0,
        (λ tap.
            subst (λ (ps : List Point). AreNumbered c.args.self.now.points ps (before.2.0 ++ more.0)) (sym grown)
            (one-more c.args.self.now.points (take index points) point before.2.0 more.0 (before.2.2 tap)
            (subst (λ (n : ℕ). IsPointText (n + 1) point more.0) (let b = before.1 in let l = long in omega arith) (more.2 (before.0 ∙ tap))))),
      ),
    )
