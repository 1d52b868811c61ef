-- Operations without their numbers.
use Rattle.std.specs.Prelude.{ℕ, Bool, true, false}
use Rattle.amo.specs.declared.amo.Amo.{Amo}
use Rattle.amo.specs.declared.amo.Amo.TheVariants as amos
use Rattle.amo.specs.declared.name.AmoName.{AmoName}
use Rattle.amo.specs.declared.name.AmoName.TheVariants.{Double, Half, Cas, Store1, Store2, Store4}

-- the name of an operation
abbrev pub amo_name : Amo → AmoName
amo_name (amos.Double function operand) = Double function
amo_name (amos.Half function operand) = Half function
amo_name (amos.Cas expected value) = Cas
amo_name (amos.Store1 value) = Store1
amo_name (amos.Store2 value) = Store2
amo_name (amos.Store4 value) = Store4

-- its first number: the operand, the expected value, or the value that is stored
abbrev pub amo_first : Amo → ℕ
amo_first (amos.Double function operand) = operand
amo_first (amos.Half function operand) = operand
amo_first (amos.Cas expected value) = expected
amo_first (amos.Store1 value) = value
amo_first (amos.Store2 value) = value
amo_first (amos.Store4 value) = value

-- its second number, or 0 if it has none
abbrev pub amo_second : Amo → ℕ
amo_second (amos.Cas expected value) = value
amo_second amo = 0

-- the operation of this name, with these numbers; only a compare-and-swap has the second one
abbrev pub made_of : AmoName → (first second : ℕ) → Amo
made_of (Double function) first second = amos.Double function first
made_of (Half function) first second = amos.Half function first
made_of Cas first second = amos.Cas first second
made_of Store1 first second = amos.Store1 first
made_of Store2 first second = amos.Store2 first
made_of Store4 first second = amos.Store4 first

-- how many numbers it has
abbrev pub count : AmoName → ℕ
count Cas = 2
count name = 1

-- whether it reads the old value
abbrev pub reads_by : AmoName → Bool
reads_by Store1 = false
reads_by Store2 = false
reads_by Store4 = false
reads_by name = true
