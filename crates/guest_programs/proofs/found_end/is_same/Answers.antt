use Rattle.std.proofs.Common.{◌≡◌, true, subst, sym, ◌∙◌}
use Rattle.board_terms.specs.contracts.op.OpPartialEq.TheImpl as op_eq
use Rattle.guest_programs.proofs.SameOps.{same, self}
use Rattle.guest_programs.proofs.found_end.is_same.Goals as goal

pub returns : goal.returns
returns c = (
  (λ yes. same c.args.a c.args.b (sym c.eq.ensures ∙ yes)),
  (λ is. c.eq.ensures ∙ subst (λ x. op_eq.ghosts.eq c.args.a x ≡ true) is (self c.args.a)),
)
