-- What threads met together, thread by thread.
use Rattle.std.proofs.Common.{◌≡◌, List, [], ◌∷◌, ◌++◌, refl, ap, ◌∙◌}
use Rattle.guest_programs.specs.declared.met.Met.{Met}
use Rattle.guest_programs.specs.declared.met.Met.TheVariants.{Nothing, FullHistory, ClosedGate}
use Rattle.guest_programs.specs.Met.{met_by_both}
use Rattle.hart_threads.specs.Inside.Works.{met_by_all}

alone : (m : Met) → met_by_both m Nothing ≡ m
alone Nothing = refl
alone FullHistory = refl
alone ClosedGate = refl

three : (a b c : Met) → met_by_both a (met_by_both b c) ≡ met_by_both (met_by_both a b) c
three ClosedGate b c = refl
three Nothing b c = refl
three FullHistory ClosedGate c = refl
three FullHistory Nothing c = refl
three FullHistory FullHistory ClosedGate = refl
three FullHistory FullHistory FullHistory = refl
three FullHistory FullHistory Nothing = refl

-- one thread more
pub met_by_one_more : (ms : List Met) (m : Met) → met_by_all (ms ++ m ∷ []) ≡ met_by_both (met_by_all ms) m
met_by_one_more [] m = alone m
met_by_one_more (a ∷ ms) m = ap (met_by_both a) (met_by_one_more ms m) ∙ three a (met_by_all ms) m
