-- Bells: whose there are, and which ring (profile).
use Rattle.std.specs.Prelude.{ℕ, if◌then◌else◌, List, [], ◌∷◌, ◌++◌, map}
use Rattle.std.specs.List.{range_with_len}
use Rattle.board_terms.specs.declared.op.Actor.{Actor}
use Rattle.board_terms.specs.declared.op.Actor.TheVariants.{Hart, Clock}
use Rattle.board_lock.specs.declared.rests.Woken.{Woken}

-- the actors of a board of so many harts: the harts in order, then the clock
abbrev pub actors : (harts : ℕ) → List Actor
actors harts = map Hart (range_with_len 0 harts) ++ Clock ∷ []

-- the actors of these seats, in the same order
abbrev pub actors_of : Woken → List Actor
actors_of w = map Hart w.harts ++ (if w.clock then Clock ∷ [] else [])
