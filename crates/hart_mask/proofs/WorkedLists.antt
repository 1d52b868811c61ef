-- Worked hart lists, computed from the definition.
use Rattle.std.proofs.Common.{◌≡◌, [], ◌∷◌, refl}
use Rattle.std.specs.Prelude.{Some, None}
use Rattle.hart_mask.specs.HartList.{names_stray, targets_of}
use Rattle.hart_mask.specs.Ids.{ids_where}

-- harts 0 and 2 of three
two_of_three : targets_of 0x5 0 3 ≡ Some (0 ∷ 2 ∷ [])
unfolding targets_of names_stray ids_where
two_of_three = refl

-- hart 3 isn't one of three
fourth_of_three : targets_of 0x9 0 3 ≡ None
unfolding targets_of names_stray ids_where
fourth_of_three = refl

-- no hart, from a base that is one of three, and from one that isn't
none_of_three : targets_of 0 2 3 ≡ Some []
unfolding targets_of names_stray ids_where
none_of_three = refl

none_from_outside : targets_of 0 3 3 ≡ None
unfolding targets_of
none_from_outside = refl

-- the highest hart, and the one above it
highest : targets_of 0x8000000000000000 64 128 ≡ Some (127 ∷ [])
unfolding targets_of names_stray ids_where
highest = refl

above_highest : targets_of 0x8000000000000000 65 128 ≡ None
unfolding targets_of names_stray ids_where
above_highest = refl

-- all of three, whatever the mask
all_of_three : targets_of 0x9 0xFFFFFFFFFFFFFFFF 3 ≡ Some (0 ∷ 1 ∷ 2 ∷ [])
unfolding targets_of ids_where
all_of_three = refl

-- a sum of 2 ^ 64 isn't hart 0
past_the_top : targets_of 0x4 0xFFFFFFFFFFFFFFFE 3 ≡ None
unfolding targets_of names_stray
past_the_top = refl
