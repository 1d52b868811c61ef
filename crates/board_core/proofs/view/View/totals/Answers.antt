use Rattle.std.proofs.Common.{ap, length, ◌∙◌}
use Rattle.std.specs.Prelude.{sum_by}
use Rattle.board_core.specs.Course.{harts_of}
use Rattle.board_core.specs.Fences.{waiting}
use Rattle.board_core.proofs.Tables.{sum_by-map}
use Rattle.board_machine.proofs.HartsStanding.{count_by-pending}
use Rattle.board_core.proofs.StartsLaw.{starts_are_entered}
use Rattle.board_core.proofs.Viewed.{viewed}
use Rattle.board_core.proofs.view.View.totals.Goals as goal

pub returns-clause-counts : goal.returns-clause-counts
returns-clause-counts c =
    let v = viewed c.self.view_is c.self.invariant in
    let b = c.args.self.now in
    let starts_are = v.stands.counts.starts in
    let entries_are = v.stands.counts.entries in
    let pending_are = c.pending_starts.ensures ∙ count_by-pending _ _ _ v.stands.harts in
    let fences = v.stands.fences.stands in
    let asked_are = c.asked.ensures ∙ fences.asked in
    let applied_are = c.applied.ensures ∙ fences.applied in
    let waiting_are = c.waiting.ensures ∙ ap (sum_by length) fences.queues ∙ sum_by-map length (waiting b.opening b.past) (harts_of b.opening.config) in
    cc

pub returns-clause-starts : goal.returns-clause-starts
returns-clause-starts c =
    let v = viewed c.self.view_is c.self.invariant in
    let b = c.args.self.now in
    starts_are_entered b.opening _ v.kept.legal
