-- What stops a part of a pass stops the pass.
use Rattle.std.proofs.Common.{◌≡◌, ◌∙◌, ℕ, suc, List, ◌∷◌, sym, ap, Result, Err}
use Rattle.asm_expressions.specs.declared.faults.Fault.{Fault}
use Rattle.asm_program.specs.declared.data.Datum.{Datum}
use Rattle.asm_program.specs.declared.stop.Stop.{Stop}
use Rattle.asm_program.specs.declared.stop.Stop.TheVariants as reasons
use Rattle.asm_program.specs.Assembles.{Image}
use Rattle.asm_program.specs.Inside.Passes.{Laid, StopsAt, Sum, added_if, laid_in, laid_more, laid_on, sum_in, sum_on, with_before}
use Rattle.asm_program.specs.Layout.{Standing}
use Rattle.asm_program.specs.Parts.{Piece}
use Rattle.asm_program.specs.Written.{AllKnown, as_numbers, as_ticks, part_written}
use Rattle.asm_program.proofs.More.{numbers_fail, ticks_fail}

-- a fault that stops a pass is that of what was computed
pub stops_fault : {A : Type 0} (computed : Result A Fault) (found : Fault) (stop : Stop) → stop ≡ reasons.At found → computed ≡ Err found → StopsAt computed stop
stops_fault computed found stop is by fault same = let e : found ≡ fault = cc in by ∙ ap Err e

-- where memory is refused, no fault stops it
pub stops_memory : {A : Type 0} (computed : Result A Fault) (stop : Stop) → stop ≡ reasons.NoMemory → StopsAt computed stop
stops_memory computed stop is fault same = absurd (let t = sym is ∙ same in cc)

pub stops_laid : (number : ℕ) (laid : Laid) (part : Piece) (parts : List Piece) (whole : Result Laid Fault) (stop : Stop)
    → laid_in number laid (part ∷ parts) ≡ whole → StopsAt (laid_more number laid part) stop → StopsAt whole stop
stops_laid number laid part parts whole stop same stops =
    λ fault is. sym same ∙ ap (laid_on (λ next. laid_in (suc number) next parts)) (stops fault is)

pub stops_sum : (known : AllKnown) (before : Sum) (one : Standing) (more : List Standing) (whole : Result Sum Fault) (stop : Stop)
    → sum_in known before (one ∷ more) ≡ whole → StopsAt (added_if before (part_written known one)) stop → StopsAt whole stop
stops_sum known before one more whole stop same stops =
    λ fault is. sym same ∙ ap (sum_on (λ next. sum_in known next more)) (stops fault is)

pub stops_numbers : (before : Sum) (numbers : Result (List Datum) Fault) (stop : Stop)
    → StopsAt (with_before before.numbers numbers) stop → StopsAt (added_if before (as_numbers numbers)) stop
stops_numbers before numbers stop stops = λ fault is. numbers_fail before numbers fault (stops fault is)

pub stops_ticks : (before : Sum) (ticks : Result (List ℕ) Fault) (stop : Stop)
    → StopsAt (with_before before.ticks ticks) stop → StopsAt (added_if before (as_ticks ticks)) stop
stops_ticks before ticks stop stops = λ fault is. ticks_fail before ticks fault (stops fault is)

-- a pass whose fault is the program's
pub stops_program : {A : Type 0} (later : Result A Fault → Result Image Fault) (pass : Result A Fault) (stop : Stop)
    → ((fault : Fault) → later (Err fault) ≡ Err fault) → StopsAt pass stop → StopsAt (later pass) stop
stops_program later pass stop passes stops = λ fault is. ap later (stops fault is) ∙ passes fault
