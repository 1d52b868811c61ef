-- How a board stores its opening.
use Rattle.std.specs.Prelude.{◌≡◌, ℕ, Option, Some, None}
use Rattle.board_terms.specs.declared.config.Config.{Config}
use Rattle.board_core.specs.Opening.{Opening, opening_at}

-- Of a first opening only the board's numbers are stored.
abbrev pub opened_with : Config → Option Opening → Opening
opened_with c None = opening_at c
opened_with c (Some o) = o

abbrev pub opened_by : Config → (places : ℕ) → Option Opening → Opening
opened_by c places opened = record (opened_with c opened) { config = c; places = places }

-- the first opening, if the board stores none
abbrev pub first_of : Config → Option Opening → Option Opening
first_of c None = Some (opening_at c)
first_of c (Some o) = None

-- A stored opening has the board's numbers, and the place of the kept history's first event.
abbrev pub IsOpenedBy : Config → (places : ℕ) → Option Opening → Type 0
IsOpenedBy c places None = places ≡ 0
IsOpenedBy c places (Some o) = (o.config ≡ c) × (o.places ≡ places)
