use Rattle.std.proofs.Common.{◌∷◌, refl, ap}
use Rattle.guest_script.specs.Reading.{located}
use Rattle.guest_script.proofs.LinesFrom.{script_from_bad, script_from_board, script_from_none}
use Rattle.guest_script.proofs.progress.first_stage.Goals as goal

pub returns-in-Ok-None : goal.returns-in-Ok-None
returns-in-Ok-None c others =
    let read = rw c.in-Ok-None.field-0-is at c.in-Ok-None.ensures in
    script_from_none c.args.n (c.args.text.now ∷ others) c.args.text.now others refl (ap (located c.args.n) read)

pub returns-in-Ok-Some : goal.returns-in-Ok-Some
returns-in-Ok-Some c others =
    let read = rw c.in-Ok-Some.field-0-is at c.in-Ok-Some.ensures in
    script_from_board c.args.n (c.args.text.now ∷ others) c.args.text.now others refl c.in-Ok-Some.config (ap (located c.args.n) read)

pub returns-in-Err : goal.returns-in-Err
returns-in-Err c others =
    script_from_bad c.args.n (c.args.text.now ∷ others) c.args.text.now others refl _ (ap (located c.args.n) c.in-Err.ensures)
