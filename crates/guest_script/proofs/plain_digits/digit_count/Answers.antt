use Rattle.std.proofs.Common.{◌≡◌, ◌∙◌, cond, eqb, map, not, sym, ap, arith}
use Rattle.std.specs.Int.Count.{count_trailing_zeros}
use Rattle.std.specs.Simd.Lanes.{mask_l}
use Rattle.std.proofs.lemmas.List.Sums.{prefix_len-le-length}
use Rattle.std.proofs.lemmas.Simd.{first_set_mask_l, trailing_mask_l}
use Rattle.guest_script.specs.Inside.HexDigits.{is_other}
use Rattle.guest_script.proofs.HexDigits.{bytes_of}
use Rattle.guest_script.proofs.plain_digits.digit_count.Goals as goal

pub returns-then-others-eq0-clause-count : goal.returns-then-others-eq0-clause-count
returns-then-others-eq0-clause-count c =
    let none : mask_l (map is_other c.args.text) ≡ 0 = sym c.others-others.ensures ∙ c.if-others-eq0.true in
    sym (ap (λ m. cond (eqb m 0) 16 (count_trailing_zeros 64 m)) none) ∙ first_set_mask_l is_other c.args.text 16 c.fits-text.0 (omega arith)

pub returns-then-others-eq0-clause-bytes : goal.returns-then-others-eq0-clause-bytes
returns-then-others-eq0-clause-bytes c = bytes_of c.args.text c.fits-text.1

pub returns-else-others-eq0-clause-count : goal.returns-else-others-eq0-clause-count
returns-else-others-eq0-clause-count c =
    ap (count_trailing_zeros 64) c.others-others.ensures
    ∙ trailing_mask_l is_other 64 c.args.text (omega (arith, c.fits-text.0)) (omega (arith, c.if-others-eq0.false, c.others-others.ensures))

pub returns-else-others-eq0-clause-most : goal.returns-else-others-eq0-clause-most
returns-else-others-eq0-clause-most c =
    omega (arith, returns-else-others-eq0-clause-count c, prefix_len-le-length (λ byte. not (is_other byte)) c.args.text, c.fits-text.0)

pub returns-else-others-eq0-clause-bytes : goal.returns-else-others-eq0-clause-bytes
returns-else-others-eq0-clause-bytes c = bytes_of c.args.text c.fits-text.1
