-- How orders ended, one by one.
use Rattle.std.proofs.Common.{◌≡◌, refl, sym, ap, ◌∙◌}
use Rattle.std.specs.Prelude.{Bool, true, false, not, Option, Some, None, ◌↔◌}
use Rattle.conditions.specs.Ending.{Ending}
use Rattle.conditions.specs.Ending.TheVariants as endings
use Rattle.guest_programs.specs.declared.ends.End.{End}
use Rattle.guest_programs.specs.declared.ends.End.TheVariants as ends
use Rattle.conditions.specs.Endings.{ending}

-- the end that conditions name so
abbrev how : Option Ending → End
how None = ends.GateLimit
how (Some endings.Off) = ends.Off
how (Some endings.HistoryFull) = ends.HistoryFull
how (Some endings.Quiet) = ends.Quiet
how (Some endings.Stuck) = ends.Stuck

how-is : (end : End) → how (ending end) ≡ end
how-is ends.GateLimit = refl
how-is ends.Off = refl
how-is ends.HistoryFull = refl
how-is ends.Quiet = refl
how-is ends.Stuck = refl

-- Two ends are the same where conditions name them by the same word.
pub same-end : (told : Bool) (end named : End) (ended : Option Ending) → (told ≡ true) ↔ (end ≡ named) → ended ≡ ending end → (told ≡ true) ↔ (ended ≡ ending named)
same-end told end named ended tells is = (
  (λ yes. is ∙ ap ending (tells.0 yes)),
  (λ same. tells.1 (sym (how-is end) ∙ ap how (sym is ∙ same) ∙ how-is named)),
)

pub not-so : {P : Type 0} (told : Bool) → (told ≡ true) ↔ P → (not told ≡ true) ↔ (¬ P)
not-so true tells = ((λ no. absurd (let t = no in cc)), (λ no. absurd (no (tells.0 refl))))
not-so false tells = ((λ yes p. absurd (let t = tells.1 p in cc)), (λ no. refl))
