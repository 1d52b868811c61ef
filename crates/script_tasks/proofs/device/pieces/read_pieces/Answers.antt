use Rattle.std.proofs.Common.{◌-◌, ◌+◌, ◌≡◌, ◌∙◌, arith, subst, take}
use Rattle.script_tasks.specs.Sources.{HasTaken, read_limit}
use Rattle.script_tasks.proofs.Taken.{none_taken, read_taken, taken_up_to}
use Rattle.script_tasks.proofs.UpTo.{reads-more}
use Rattle.script_tasks.proofs.device.pieces.read_pieces.Goals as goal

pub returns-in_err-count-clause-at_most : goal.returns-in_err-count-clause-at_most
returns-in_err-count-clause-at_most g c =
    let has = c.loop-left.invariant.0 in
    reads-more read_limit c.loop-left.left _ _ _ _ has.taken c.read_behind.ensures.at_most (omega (arith, has.long, c.loop-left.invariant.3))

pub returns-then-count-eq0-clause-taken : goal.returns-then-count-eq0-clause-taken
returns-then-count-eq0-clause-taken g c =
    let has = none_taken _ _ _ c.loop-left.reader c.loop-left.pending _ c.in_ok-count.count _ _ c.if-count-eq0.true c.loop-left.invariant.0 c.in_ok-count.ensures.bytes in
    (read_limit - c.loop-left.left, has, omega arith, λ less. c.in_ok-count.ensures.end c.if-count-eq0.true)

pub returns-then-count-eq0-clause-at_most : goal.returns-then-count-eq0-clause-at_most
returns-then-count-eq0-clause-at_most g c =
    let has = none_taken _ _ _ c.loop-left.reader c.loop-left.pending _ c.in_ok-count.count _ _ c.if-count-eq0.true c.loop-left.invariant.0 c.in_ok-count.ensures.bytes in
    taken_up_to read_limit (read_limit - c.loop-left.left) _ _ _ _ has (omega arith)

pub returns-in_err-handed-clause-at_most : goal.returns-in_err-handed-clause-at_most
returns-in_err-handed-clause-at_most g c =
    let has = read_taken _ _ _ c.loop-left.reader c.loop-left.pending _ c.in_ok-count.count _ _ c.loop-left.invariant.0 c.in_ok-count.ensures.bytes in
    taken_up_to read_limit ((read_limit - c.loop-left.left) + c.in_ok-count.count) _ _ _ _ has (omega (arith, c.in_ok-count.ensures.most, c.loop-left.invariant.3))

pub loop-left-preserved : goal.loop-left-preserved
loop-left-preserved g c =
    let read = read_taken _ _ _ c.loop-left.reader c.loop-left.pending _ c.in_ok-count.count _ _ c.loop-left.invariant.0 c.in_ok-count.ensures.bytes in
    let count : (read_limit - c.loop-left.left) + c.in_ok-count.count ≡ read_limit - (c.loop-left.left - c.in_ok-count.count) = omega (arith, c.in_ok-count.ensures.most, c.loop-left.invariant.3) in (
      subst (HasTaken (g.S.Source.left c.args.source.now) (g.S.Source.left c.read_behind.new.source) c.in_ok-handed.handed.0 (take c.in_ok-handed.handed.1 c.give_lines.new.bytes.items)) count
          (c.in_ok-handed.ensures.taken _ _ _ read),
      c.in_ok-count.ensures.failed ∙ c.loop-left.invariant.1,
      omega (arith, c.in_ok-handed.ensures.len, c.in_ok-handed.ensures.fits, c.in_ok-count.ensures.fits),
      omega (arith, c.loop-left.invariant.3),
      omega (arith, c.in_ok-handed.ensures.len, c.in_ok-count.ensures.fits, c.if-count-eq0.false),
    )
