use Rattle.std.proofs.Common.{Result, sym, ap, subst, inr}
use Rattle.guest_script.specs.declared.fault.ScriptFault.{ScriptFault}
use Rattle.guest_script.specs.Inside.Drafts.{draft_of}
use Rattle.guest_script.specs.Grammar.{Written, written}
use Rattle.guest_script.specs.Reading.{GivesOrLacks, plainly, with_config}
use Rattle.guest_script.proofs.LinesFrom.{lines_from_none, no_board_line}
use Rattle.guest_script.proofs.progress.Progress.script.Goals as goal

pub returns-in-Nothing : goal.returns-in-Nothing
returns-in-Nothing c = inr (rw c.in-Nothing.is (no_board_line c.args.self.next))

pub returns-in-Lines : goal.returns-in-Lines
returns-in-Lines c =
    let all = sym (ap (with_config c.in-Lines.config) (lines_from_none c.args.self.next (draft_of c.in-Lines.draft))) in
    rw c.in-Lines.is (subst (λ (read : Result Written ScriptFault). GivesOrLacks written (plainly c.script_with.result) read) all c.script_with.ensures)
