use Rattle.std.proofs.Common.{◌*ℤ◌, ◌-◌, ◌^◌, FitsSigned, arith, lit<}
use Rattle.std.specs.Int.{w128}
use Rattle.std.proofs.lemmas.Int.{fits_signed_mul, to_z-of_z}
use Rattle.rv64_alu.proofs.high.product.Goals as goal

pub returns : goal.returns
returns c =
    let fits : FitsSigned w128 (c.args.a *ℤ c.args.b) = fits_signed_mul w128 c.args.a c.args.b (2 ^ 63) (2 ^ 64 - 1) c.requires.first (omega (arith, c.requires.second)) (lit< tt) in
    simp (to_z-of_z w128 c.args.a c.ranges.a, to_z-of_z w128 c.args.b c.ranges.b) (to_z-of_z w128 (c.args.a *ℤ c.args.b) fits)
