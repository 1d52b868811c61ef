use Rattle.guest_script.specs.FirstFault.{fault_of}
use Rattle.guest_script.specs.Inside.Drafts.{draft_of}
use Rattle.guest_script.proofs.Drafted.{line_gave, line_lacks}
use Rattle.guest_script.proofs.draft.BodyDraft.read_line.Goals as goal

pub returns-in-Ok : goal.returns-in-Ok
returns-in-Ok c = line_gave c.args.n (draft_of c.args.self.now) c.args.text.now (draft_of c.line.new.self) c.in-Ok.ensures

pub returns-in-Err : goal.returns-in-Err
returns-in-Err c = rw c.of.ensures (line_lacks c.args.n (draft_of c.args.self.now) c.args.text.now (fault_of c.in-Err.unread.wrong) c.in-Err.ensures)
