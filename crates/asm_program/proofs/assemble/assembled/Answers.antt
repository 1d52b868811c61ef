use Rattle.asm_tokens.specs.Readings.{spots_of}
use Rattle.asm_program.specs.Assembles.{image_of}
use Rattle.asm_program.proofs.Entry.{assembles_of, refused_stop}
use Rattle.asm_program.proofs.assemble.assembled.Goals as goal

pub returns-in-Ok-clause-program : goal.returns-in-Ok-clause-program
returns-in-Ok-clause-program c =
    assembles_of c.args.text.now (spots_of c.args.tokens.now) (image_of c.in-Ok.program) c.requires c.in-Ok.ensures.program

pub returns-in-Err-clause-fault : goal.returns-in-Err-clause-fault
returns-in-Err-clause-fault c =
    rw c.stopped.ensures (refused_stop c.args.text.now (spots_of c.args.tokens.now) c.in-Err.stop c.requires c.in-Err.ensures.fault)
