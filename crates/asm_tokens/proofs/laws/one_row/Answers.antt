use Rattle.asm_tokens.proofs.Parts.{one_reading_of}
use Rattle.asm_tokens.proofs.laws.one_row.Goals as goal

pub returns : goal.returns
returns c = one_reading_of
