use Rattle.std.proofs.Common.{◌≡◌, length, sym, ap, ◌∙◌}
use Rattle.rfence.proofs.ByCaller.{length-by}
use Rattle.rfence.proofs.pending.Pending.copy_from.Goals as goal

pub copy_from-requires : goal.copy_from-requires
copy_from-requires g c =
    let mine = c.self.inside in
    let yours = c.from.inside in
    sym (length-by mine.fences.items mine.idle mine.callers) ∙ ap length c.self.view_is ∙ c.requires ∙ sym (ap length c.from.view_is)
    ∙ length-by yours.fences.items yours.idle yours.callers
