-- What is loaded of bytes: what the functions of this crate tell each other.
use Rattle.std.specs.Prelude.{ℕ, List, map}
use Rattle.conditions.specs.Grammar.{ReadsConditions, condition_value}
use Rattle.guest_script.specs.Grammar.{Reads, written}
use Rattle.test_runner.specs.declared.loading.Loaded.{Loaded}

-- the bytes are this script, and have these conditions
pub record IsLoaded (bytes : List ℕ) (loaded : Loaded) : Type 0 where
  pub script : Reads bytes (written loaded.script)
  pub conditions : ReadsConditions bytes (map condition_value loaded.conditions.items)
