-- Misfits of a condition, or of a program without any (profile).
use Rattle.std.specs.Prelude.{ℕ, Option, Some, None}
use Rattle.conditions.specs.declared.misfits.Misfit.{Misfit as Word}
use Rattle.conditions.specs.Rule.{Rule}
use Rattle.conditions.specs.Misfits.{IsMisfitWith}

-- This word is a misfit of the condition on a board with so many harts, whose records tell marks.
abbrev pub IsMisfitOfMarked : ℕ → Option Rule → Word → Type 0
IsMisfitOfMarked harts None word = ⊥
IsMisfitOfMarked harts (Some rule) word = IsMisfitWith harts rule word
