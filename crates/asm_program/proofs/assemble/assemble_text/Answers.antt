use Rattle.asm_program.proofs.Entry.{refused_unread}
use Rattle.asm_program.proofs.assemble.assemble_text.Goals as goal

pub returns-in-Err-clause-fault : goal.returns-in-Err-clause-fault
returns-in-Err-clause-fault c =
    rw c.unread.ensures (refused_unread c.args.text.now c.in-Err.fault c.in-Err.ensures.fault)
