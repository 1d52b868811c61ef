use Rattle.std.proofs.Common.{◌≡◌, ◌+◌, ◌*◌, ◌/◌, ◌%◌, ◌^◌, ap, ◌∙◌, arith}
use Rattle.std.proofs.Math.Facts.{Fits-lt-pow}
use Rattle.std.proofs.lemmas.Nat.{one_shl}
use Rattle.amo.proofs.Placing.{above_whole, all_fit, upper_fits, upper_whole}
use Rattle.amo.proofs.part.with_part.Goals as goal

pub overflow_add-upper : goal.overflow_add-upper
overflow_add-upper c =
    let s = c.bits_below-below.result in
    let b = 8 * c.args.size in
    let word = c.args.word in
    let value = c.args.value in
    let inside = Fits-lt-pow c.ranges.word in
    let fits = c.bits_below-below.ensures.within in
    let one = one_shl b 64 (omega (arith, c.requires)) in
    let same : word / 2 ^ s / 2 ^ b * 2 ^ b % 2 ^ 64 + value % (1 * 2 ^ b % 2 ^ 64) ≡ word / 2 ^ s / 2 ^ b * 2 ^ b + value % 2 ^ b =
    (λ i. above_whole word value s b inside fits i + value % one i) in
    omega (arith, same, upper_fits word value s b inside fits)

pub overflow_add-result : goal.overflow_add-result
overflow_add-result c =
    let s = c.bits_below-below.result in
    let b = 8 * c.args.size in
    let word = c.args.word in
    let value = c.args.value in
    let inside = Fits-lt-pow c.ranges.word in
    let fits = c.bits_below-below.ensures.within in
    let one = one_shl b 64 (omega (arith, c.requires)) in
    let other = one_shl s 64 (omega (arith, c.requires, fits)) in
    let same : (word / 2 ^ s / 2 ^ b * 2 ^ b % 2 ^ 64 + value % (1 * 2 ^ b % 2 ^ 64)) * 2 ^ s % 2 ^ 64 + word % (1 * 2 ^ s % 2 ^ 64)
    ≡ (word / 2 ^ s / 2 ^ b * 2 ^ b + value % 2 ^ b) * 2 ^ s + word % 2 ^ s =
    (λ i. (above_whole word value s b inside fits i + value % one i) * 2 ^ s % 2 ^ 64 + word % other i)
    ∙ ap (λ n. n + word % 2 ^ s) (upper_whole word value s b inside fits) in
    omega (arith, same, all_fit word value s b inside fits)

pub returns : goal.returns
returns c =
    let s = c.bits_below-below.result in
    let b = 8 * c.args.size in
    let word = c.args.word in
    let value = c.args.value in
    let inside = Fits-lt-pow c.ranges.word in
    let fits = c.bits_below-below.ensures.within in
    let one = one_shl b 64 (omega (arith, c.requires)) in
    let other = one_shl s 64 (omega (arith, c.requires, fits)) in
    (λ i. (above_whole word value s b inside fits i + value % one i) * 2 ^ s % 2 ^ 64 + word % other i)
    ∙ ap (λ n. n + word % 2 ^ s) (upper_whole word value s b inside fits)
    ∙ ap (λ k. (word / 2 ^ k / 2 ^ b * 2 ^ b + value % 2 ^ b) * 2 ^ k + word % 2 ^ k) c.bits_below-below.ensures.below
