use Rattle.std.proofs.Common.{◌≡◌, false, sym, ◌∙◌}
use Rattle.sv39.specs.Maps.{maps}
use Rattle.board_core.specs.Memory.{memory, satp}
use Rattle.board_core.specs.Opening.{opening_at}
use Rattle.tlb_watch.proofs.Giving.{if-ok}
use Rattle.walk_watch.specs.Logged.{listed}
use Rattle.walk_watch.specs.Inside.Fits.{walks_fit, wanted_by}
use Rattle.walk_watch.proofs.Deciding.{firm-so}
use Rattle.walk_watch.proofs.log.WalkLog.is_firm.Goals as goal

pub returns : goal.returns
returns c = if-ok c.walks_fit.result _ _
    (λ firm is config past logged ram register.
    let log = listed c.args.self.now in
    let at = c.args.at in
    let same : firm ≡ walks_fit log (memory (opening_at config) past) (satp (opening_at config) past at.hart)
    (wanted_by at.hart at.address c.args.kind false (maps (memory (opening_at config) past) (satp (opening_at config) past at.hart) at.address c.args.kind)) =
    is ∙ (λ i. walks_fit log (ram i) (register i) (wanted_by at.hart at.address c.args.kind false (maps (ram i) (register i) at.address c.args.kind))) in
    let decides = firm-so config past at.hart at.address c.args.kind log logged in
    (λ so. decides.0 (sym same ∙ so), λ so. same ∙ decides.1 so))
    c.walks_fit.ensures
