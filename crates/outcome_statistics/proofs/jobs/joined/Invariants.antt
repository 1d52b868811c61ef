use Rattle.std.proofs.Common.{◌≡◌, ℕ, ◌+◌, length}
use Rattle.std.specs.Vec.Iter.{into_iter_items, into_iter_len}
use Rattle.guest_script.specs.Grammar.{content}
use Rattle.outcome_statistics.specs.Findings.{AreFoundOf}
use Rattle.outcome_statistics.specs.Inside.Shares.{AreShares, edge}
use Rattle.outcome_statistics.proofs.jobs.joined.Given as goal

abbrev pub invariant-loop-tried : goal.invariant-loop-tried
invariant-loop-tried l =
    (into_iter_len l.tried-iterator ≡ length (into_iter_items l.tried-iterator))
    × ((i : ℕ) × (i + length (into_iter_items l.tried-iterator) ≡ length (into_iter_items l.initial.tried-iterator))
    × AreShares l.batch.script.now.config (content l.batch.script.now.body) l.batch.conditions.now l.batch.seed (edge l.batch.from l.batch.to l.share) i (into_iter_items l.tried-iterator)
    × AreFoundOf l.batch.script.now.config (content l.batch.script.now.body) l.batch.conditions.now l.batch.seed l.batch.from (edge l.batch.from l.batch.to l.share i) l.found)
