use Rattle.std.proofs.Common.{subst, inr}
use Rattle.condition_script.specs.FirstFault.{IsLongestBeginning}
use Rattle.condition_script.proofs.reading.unread.Goals as goal

pub returns-in-Ok : goal.returns-in-Ok
returns-in-Ok c = inr (
  c.wrong_at.ensures,
  record {
    many = c.in-Ok.many;
    is_longest = subst (λ ws. IsLongestBeginning ws c.in-Ok.many) c.requires c.in-Ok.ensures;
    is_behind = c.column_behind.ensures;
  },
)
