use Rattle.guest_script.proofs.reader.Reader.end.Goals as goal

pub returns-in-Ok : goal.returns-in-Ok
returns-in-Ok c = c.in-Ok.ensures

pub returns-in-Err : goal.returns-in-Err
returns-in-Err c before read = rw c.fault.ensures (c.in-Err.ensures before read)
