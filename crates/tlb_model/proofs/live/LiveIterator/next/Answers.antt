use Rattle.std.proofs.Common.{◌≡◌, ◌+◌, ◌-◌, ◌<◌, ◌%◌, get_or, length, reverse, suc, ap, sym, ◌∙◌, refl, arith, rules}
use Rattle.std.proofs.lemmas.Option.{slice_get-get_or}
use Rattle.tlb_model.specs.Inside.Places.{seen}
use Rattle.tlb_model.proofs.Places.{live-first, live-past}
use Rattle.tlb_model.proofs.live.LiveIterator.next.Goals as goal

pub returns-then-self-place-eq0-clause-steps : goal.returns-then-self-place-eq0-clause-steps
returns-then-self-place-eq0-clause-steps g c =
    let n = c.loop-age.self-inside.next in
    let places = c.loop-age.self-inside.places.now in
    let ds = c.loop-age.self-inside.dates.now in
    let d = c.loop-age.self-inside.dropped in
    let k = c.loop-age.age - 1 in
    let held = c.loop-age.invariant in
    let more : suc k ≡ c.loop-age.age = omega (arith, c.loop-age-test.true) in
    let last : n - 1 - k + suc k ≡ n = omega (arith, held.2, held.3, c.loop-age-test.true) in
    let within : (n - 1 - k) % 16 < length places = omega (arith, held.2, held.3, c.loop-age-test.true) in
    let here = slice_get-get_or places ((n - 1 - k) % 16) c.index-self-place.result within in
    sym held.0 ∙ ap (λ q. reverse (seen n q places ds d)) (held.1 ∙ sym more)
    ∙ live-first n k (n - 1 - k) places ds d (get_or places ((n - 1 - k) % 16) c.index-self-place.result) last here c.if-self-place-eq0.true

pub returns-then-self-place-eq0-clause-goes : goal.returns-then-self-place-eq0-clause-goes
returns-then-self-place-eq0-clause-goes g c = rw (returns-then-self-place-eq0-clause-steps g c) (search rules)

pub loop-age-preserved : goal.loop-age-preserved
loop-age-preserved g c =
    let n = c.loop-age.self-inside.next in
    let places = c.loop-age.self-inside.places.now in
    let ds = c.loop-age.self-inside.dates.now in
    let d = c.loop-age.self-inside.dropped in
    let k = c.loop-age.age - 1 in
    let held = c.loop-age.invariant in
    let more : suc k ≡ c.loop-age.age = omega (arith, c.loop-age-test.true) in
    let last : n - 1 - k + suc k ≡ n = omega (arith, held.2, held.3, c.loop-age-test.true) in (
      sym (ap reverse (live-past n k (n - 1 - k) places ds d last c.if-self-place-eq0.false)) ∙ ap (λ q. reverse (seen n q places ds d)) (more ∙ sym held.1) ∙ held.0,
      refl,
      held.2,
      omega (arith, held.3),
    )
