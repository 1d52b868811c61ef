use Rattle.asm_program.proofs.Relation.{one_assembly_of}
use Rattle.asm_program.proofs.laws.one_assembly.Goals as goal

pub returns : goal.returns
returns c = one_assembly_of c.one_row.ensures
