use Rattle.std.proofs.Common.{◌≡◌, ◌<◌, ◌*◌, ◌-◌, ◌/◌, ◌+◌, ℕ, length, subst, sym}
use Rattle.std.proofs.Math.Nat.{lt-mul-div-succ}
use Rattle.guest_script.specs.Grammar.{content}
use Rattle.outcome_statistics.specs.Inside.Shares.{edge}
use Rattle.outcome_statistics.proofs.Shares.{shares-all}
use Rattle.outcome_statistics.proofs.jobs.try_in_jobs.Goals as goal

pub joined-requires-clause-whole : goal.joined-requires-clause-whole
joined-requires-clause-whole g c =
    let n : ℕ = c.args.batch.now.to - c.args.batch.now.from in
    let many : length c.in_ok-all.all.items ≡ c.args.jobs = c.in_ok-all.ensures.many in
    subst (λ (m : ℕ). n < m * (n / c.args.jobs + 1)) (sym many) (lt-mul-div-succ n c.requires.some)

pub joined-requires-clause-shares : goal.joined-requires-clause-shares
joined-requires-clause-shares g c =
    let many : length c.in_ok-all.all.items ≡ c.args.jobs = c.in_ok-all.ensures.many in
    shares-all c.args.batch.now.script.now.config (content c.args.batch.now.script.now.body) c.args.batch.now.conditions.now c.args.batch.now.seed
    (edge c.args.batch.now.from c.args.batch.now.to ((c.args.batch.now.to - c.args.batch.now.from) / c.args.jobs + 1)) c.in_ok-all.all.items
    (λ k d below. c.in_ok-all.ensures.each k d (subst (λ (m : ℕ). k < m) many below))
