use Rattle.std.proofs.Common.{[], refl}
use Rattle.rfence.specs.Opening.{nothing_before}
use Rattle.rfence.proofs.Seams.{begins-right, stands-new}
use Rattle.rfence.proofs.fences.Fences.new.Goals as goal

pub invariant_of-result : goal.invariant_of-result
invariant_of-result g c = record {
  o = nothing_before c.args.harts;
  n = c.args.harts;
  turns = [];
  stands = stands-new c.args.harts _ c.requires c.in_ok-queues.ensures c.in_ok-calls.ensures c.in_ok-opened.ensures refl refl;
  right = begins-right c.args.harts c.requires;
}

pub returns : goal.returns
returns g c = stands-new c.args.harts _ c.requires c.in_ok-queues.ensures c.in_ok-calls.ensures c.in_ok-opened.ensures refl refl
