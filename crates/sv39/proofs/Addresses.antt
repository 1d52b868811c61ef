-- Addresses by the number of their top bits.
use Rattle.std.proofs.Common.{◌≡◌, ℕ, ◌-◌, ◌/◌, ◌^◌, Bool, ◌||◌, eqb, arith}
use Rattle.std.proofs.lemmas.Bool.Decides.{nat_tests}
use Rattle.sv39.specs.declared.paging.Paging.{Paging}
use Rattle.sv39.specs.declared.paging.Paging.TheVariants.{Sv39, Sv48}
use Rattle.sv39.specs.Paging.{is_valid_by, scheme}

-- whether all bits of a mode's addresses from the highest one of its width on are 0, or all 1
abbrev pub has_right_top : Paging → ℕ → Bool
has_right_top mode va =
    eqb (va / 2 ^ ((scheme mode).width - 1)) 0 || eqb (va / 2 ^ ((scheme mode).width - 1)) (2 ^ (65 - (scheme mode).width) - 1)

-- which are the addresses of the mode
pub is_valid_by_top : (mode : Paging) (va : ℕ) → is_valid_by mode va ≡ has_right_top mode va
unfolding is_valid_by
is_valid_by_top Sv39 va = grind (arith, nat_tests)
is_valid_by_top Sv48 va = grind (arith, nat_tests)
