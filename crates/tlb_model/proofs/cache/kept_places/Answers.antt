use Rattle.std.proofs.Common.{◌≡◌, ◌*◌, ◌%◌, ◌^◌, ap, ◌∙◌, arith}
use Rattle.std.specs.Int.{bit_at, w16}
use Rattle.std.proofs.Math.Facts.{Fits-lt-pow}
use Rattle.std.proofs.Math.Nat.{mod-eq_of_lt}
use Rattle.std.proofs.Math.Pow.{pow-lt}
use Rattle.std.proofs.lemmas.Nat.Bits.{bit_at_not}
use Rattle.tlb_model.proofs.Marks.{bit-mod}
use Rattle.tlb_model.proofs.cache.kept_places.Goals as goal

pub returns-clause-kept : goal.returns-clause-kept
returns-clause-kept c place below =
    let fits : 1 * 2 ^ c.args.places % 4294967296 ≡ 2 ^ c.args.places =
    mod-eq_of_lt (omega (arith, pow-lt {i = c.args.places} {j = 17} (omega (arith, c.requires)))) ∙ omega arith in
    ap (λ m. bit_at (c.from.result % m) place) fits ∙ bit-mod c.from.result c.args.places place below ∙ ap (λ v. bit_at v place) c.from.ensures
    ∙ bit_at_not w16 c.args.dropped place (Fits-lt-pow c.ranges.dropped) (omega (arith, c.requires, below))
