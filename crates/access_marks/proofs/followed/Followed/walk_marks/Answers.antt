use Rattle.std.proofs.Common.{◌≡◌, sym, ap, subst, ◌∙◌}
use Rattle.std.specs.Prelude.{IfSome, Option}
use Rattle.any_tlb.specs.Firm.{IsFirmReach, IsLenientReach}
use Rattle.walk_watch.specs.Logged.{IsLogged, listed}
use Rattle.walk_watch.specs.declared.log.WalkLog.{WalkLog}
use Rattle.access_marks.specs.Inside.Following.{Following}
use Rattle.access_marks.proofs.Following.{not-false}
use Rattle.access_marks.proofs.followed.Followed.walk_marks.Goals as goal

pub is_firm-requires : goal.is_firm-requires
is_firm-requires c = record {
  first = c.requires.first;
  present = c.requires.present;
  logged =
      subst (λ (f : Following). IsLogged f.course.opening f.course.past (listed c.in-Some.log)) c.self.view_is
      (subst (λ (log : Option WalkLog). IfSome log (λ log. IsLogged c.self.inside.board.opening c.self.inside.board.past (listed log))) c.in-Some.is c.self.invariant.3);
}
