-- What the parts of a program write.
use Rattle.std.specs.Prelude.{ℕ, List, [], filter_map, Option, None, option_map, Result, Ok, Err}
use Rattle.asm_expressions.specs.declared.faults.Fault.{Fault}
use Rattle.asm_expressions.specs.declared.symbols.PcrelHigh.{PcrelHigh}
use Rattle.asm_expressions.specs.Symbols.{Context, Named}
use Rattle.asm_instructions.specs.declared.made.Made.{Made}
use Rattle.asm_instructions.specs.Distances.{high_distance}
use Rattle.asm_instructions.specs.Rules.{instructions_of}
use Rattle.asm_program.specs.declared.code.CodeLine.{CodeLine}
use Rattle.asm_program.specs.declared.data.Datum.{Datum}
use Rattle.asm_program.specs.declared.directives.Directive.TheVariants.{Ascii, Data, Map, Tick}
use Rattle.asm_program.specs.Code.{code_lines}
use Rattle.asm_program.specs.Data.{listed_numbers, listed_ticks}
use Rattle.asm_program.specs.Forms.{PartForm, part_form}
use Rattle.asm_program.specs.Forms.PartForm.{Directs, Instructs}
use Rattle.asm_program.specs.declared.tables.Entry.{Entry}
use Rattle.asm_program.specs.Layout.{PartsReach, Standing}
use Rattle.asm_program.specs.Strings.{string_data}
use Rattle.asm_program.specs.Tables.{map_words}

-- ---- what is known once all parts stand

-- all symbols, each `auipc` with `%pcrel_hi(..)`, and the entries of page tables
pub record AllKnown : Type 0 where
  pub symbols : List Named
  pub highs : List PcrelHigh
  pub entries : List Entry

-- what a part sees
abbrev pub seen_from : AllKnown → Standing → Context
seen_from known one =
    record { symbols = known.symbols; highs = known.highs; statement = one.number; here = one.at; end = one.part.end }

abbrev pub high_in : Context → PartForm → Option PcrelHigh
high_in scope (Instructs form operands) =
    option_map (λ distance. record { at = scope.here; distance = distance }) (high_distance scope form operands)
high_in scope saying = None

abbrev pub high_said : Context → Result (PartForm × ℕ) Fault → Option PcrelHigh
high_said scope (Err fault) = None
high_said scope (Ok said) = high_in scope said.0

-- the `auipc` with `%pcrel_hi(..)` that a part is, by the symbols
unfoldable pub high_of : List Named → Standing → Option PcrelHigh
high_of symbols one = high_said (seen_from (record { symbols = symbols; highs = []; entries = [] }) one) (part_form one.part)

-- What is known at each part once all stand.
abbrev pub known_of : PartsReach → List Standing → AllKnown
known_of to standings =
    record { symbols = to.symbols; highs = filter_map (high_of to.symbols) standings; entries = to.entries }

-- ---- what a part writes

-- instructions, numbers, ticks of the clock, or nothing
pub data PartWriting : Type 0 where
  Blank : PartWriting
  Lines : List CodeLine → PartWriting
  Numbers : List Datum → PartWriting
  Ticks : List ℕ → PartWriting

abbrev pub lines_in : PartWriting → List CodeLine
lines_in (Lines lines) = lines
lines_in writing = []

abbrev pub data_in : PartWriting → List Datum
data_in (Numbers numbers) = numbers
data_in writing = []

abbrev pub written_ticks : PartWriting → List ℕ
written_ticks (Ticks ticks) = ticks
written_ticks writing = []

abbrev pub as_lines : (here left : ℕ) → Result Made Fault → Result PartWriting Fault
as_lines here left (Err fault) = Err fault
as_lines here left (Ok made) = Ok (Lines (code_lines made here left))

abbrev pub as_numbers : Result (List Datum) Fault → Result PartWriting Fault
as_numbers (Err fault) = Err fault
as_numbers (Ok numbers) = Ok (Numbers numbers)

abbrev pub as_ticks : Result (List ℕ) Fault → Result PartWriting Fault
as_ticks (Err fault) = Err fault
as_ticks (Ok ticks) = Ok (Ticks ticks)

-- An instruction writes what the assembler makes of it, and a directive of numbers, of a string, of ticks or of a map these; any other part
-- writes nothing.
abbrev pub form_written : List Entry → Context → PartForm → (left : ℕ) → Result PartWriting Fault
form_written entries scope (Instructs form operands) left = as_lines scope.here left (instructions_of scope form left operands)
form_written entries scope (Directs (Data size) operands) left = as_numbers (listed_numbers scope size left operands)
form_written entries scope (Directs (Ascii is_ended) operands) left = as_numbers (string_data scope.here is_ended left operands)
form_written entries scope (Directs Tick operands) left = as_ticks (listed_ticks scope operands)
form_written entries scope (Directs (Map paging) operands) left = as_numbers (map_words entries scope paging left operands)
form_written entries scope saying left = Ok Blank

abbrev pub written_said : List Entry → Context → Result (PartForm × ℕ) Fault → Result PartWriting Fault
written_said entries scope (Err fault) = Err fault
written_said entries scope (Ok said) = form_written entries scope said.0 said.1

-- What a part writes where it stands.
unfoldable pub part_written : AllKnown → Standing → Result PartWriting Fault
part_written known one = written_said known.entries (seen_from known one) (part_form one.part)
