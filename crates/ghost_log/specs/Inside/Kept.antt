-- The resources that the tokens own.
use Rattle.std.specs.Prelude.{ℕ, List, map}
use base.Fraction.{full_share}
use base.Stored.{Gv, Coded}
use base.Growing.{Order, prefixes, latest, at_least}
use base.Fml.{Fml, finv}

-- The list is stored as its ghost values, in an order that names no type parameter.
abbrev itself : Coded Gv
itself = record { code = λ g. g; inj = λ x y p. p }

abbrev pub lists : Order (List Gv)
lists = prefixes itself

module _ {E : Type 0} (c : E → Gv) where
  -- the list is this now, and can be appended to
  unfoldable pub latest_owns : ℕ → List E → Fml
  latest_owns name list = latest lists full_share name (map c list)

  -- the list begins with this
  unfoldable pub begun_owns : ℕ → List E → Fml
  begun_owns name list = at_least lists name (map c list)

  -- the list is this, and no longer grows
  unfoldable pub whole_owns : ℕ → List E → Fml
  whole_owns name list = finv (latest lists full_share name (map c list))
