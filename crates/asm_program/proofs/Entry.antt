-- What the entry point says of its passes.
use Rattle.std.proofs.Common.{◌≡◌, ℕ, List, refl, Ok, Err}
use Rattle.asm_expressions.specs.declared.faults.Fault.{Fault}
use Rattle.asm_tokens.specs.declared.reader.TokensFault.{TokensFault}
use Rattle.asm_tokens.specs.declared.reader.TokensFault.TheVariants as reads
use Rattle.asm_tokens.specs.Readings.{AreTokens, IsReadFault, TokenSpot}
use Rattle.asm_program.specs.declared.stop.Stop.{Stop}
use Rattle.asm_program.specs.declared.stop.Stop.TheVariants as stops
use Rattle.asm_program.specs.Assembles.{Assembles, HasPartFault, Image, IsUnassembled}
use Rattle.asm_program.specs.Inside.Passes.{StopsAt, program_in, stopped, unread}
use Rattle.asm_program.specs.Parts.{parts_of}
use Rattle.asm_program.proofs.Relation.{have_of, say_of}

pub assembles_of : (text : List ℕ) (tokens : List TokenSpot) (image : Image) → AreTokens text tokens
    → program_in (parts_of tokens) ≡ Ok image → Assembles text image
assembles_of text tokens image are same =
    record { tokens = tokens; are_tokens = are; say = say_of (parts_of tokens) image same }

has_fault : (text : List ℕ) (tokens : List TokenSpot) (fault : Fault) → AreTokens text tokens
    → program_in (parts_of tokens) ≡ Err fault → HasPartFault text fault
has_fault text tokens fault are same =
    record { tokens = tokens; are_tokens = are; have = have_of (parts_of tokens) fault same }

pub refused_stop : (text : List ℕ) (tokens : List TokenSpot) (stop : Stop) → AreTokens text tokens
    → StopsAt (program_in (parts_of tokens)) stop → IsUnassembled text (stopped text stop)
refused_stop text tokens (stops.At fault) are same = (fault.left, has_fault text tokens fault are (same fault refl), refl)
refused_stop text tokens stops.NoMemory are same = tt

pub refused_unread : (text : List ℕ) (fault : TokensFault) → IsReadFault text fault → IsUnassembled text (unread text fault)
refused_unread text (reads.Wrong fault) is = (fault.left, is, refl)
refused_unread text reads.NoMemory is = tt
