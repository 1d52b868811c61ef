use Rattle.std.proofs.Common.{◌≡◌, ◌+◌, ◌-◌, length, suc, add-one, ap, sym, ◌∙◌, arith}
use Rattle.tlb_model.specs.Inside.Places.{seen}
use Rattle.tlb_model.proofs.Places.{count-more, length-seen, live-past}
use Rattle.tlb_model.proofs.live.LiveExactSizeIterator.len.Goals as goal
use Rattle.tlb_model.proofs.live.LiveExactSizeIterator.len.Goals.{then-self-place-eq0, else-self-place-eq0}

pub overflow_add-len : goal.overflow_add-len
overflow_add-len g c =
    omega (arith, length-seen c.self.inside.next c.loop-age.age c.self.inside.places.now c.self.inside.dates.now c.self.inside.dropped, c.loop-age.invariant, c.self.invariant.0, c.self.invariant.1)

pub loop-age-preserved : goal.loop-age-preserved
loop-age-preserved g c =
    let n = c.self.inside.next in
    let places = c.self.inside.places.now in
    let ds = c.self.inside.dates.now in
    let d = c.self.inside.dropped in
    let age = c.loop-age.age in
    let last : n - 1 - age + suc age ≡ n = omega (arith, c.self.invariant.0, c.self.invariant.1, c.loop-age-test.true) in
    let next : length (seen n (suc age) places ds d) ≡ length (seen n (age + 1) places ds d) = ap (λ q. length (seen n q places ds d)) (sym (add-one age)) in
    elim c.if-self-place-eq0.branch [
      | then-self-place-eq0 w ↦ w.len-is ∙ ap (λ q. q + 1) c.loop-age.invariant ∙ sym (count-more n age (n - 1 - age) places ds d last c.self.invariant.0 w.if-self-place-eq0.true) ∙ next
      | else-self-place-eq0 w ↦ w.len-is ∙ c.loop-age.invariant ∙ sym (ap length (live-past n age (n - 1 - age) places ds d last w.if-self-place-eq0.false)) ∙ next
    ]
