use Rattle.std.proofs.Common.{sym, ◌∙◌}
use Rattle.tlb_watch.proofs.Leaves.{leaves-decide}
use Rattle.access_marks.proofs.taking.is_leaf.Goals as goal

pub returns : goal.returns
returns c =
    let same = leaves-decide c.args.a c.args.b in (
      λ e. same.0 (sym c.eq.ensures ∙ e),
      λ is. c.eq.ensures ∙ same.1 is,
    )
