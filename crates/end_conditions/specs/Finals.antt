-- What an order leaves at its end (profile).
use Rattle.std.specs.Prelude.{ℕ, Option}

-- what each register of each hart's guest holds, by its number; and each word of the memory, by its address
pub record Finals : Type 0 where
  pub register : (hart number : ℕ) → Option ℕ
  pub word : (address : ℕ) → Option ℕ
