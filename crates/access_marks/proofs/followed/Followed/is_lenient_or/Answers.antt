use Rattle.std.proofs.Common.{refl}
use Rattle.hart_access.specs.AccessKinds.{kind_of}
use Rattle.access_marks.proofs.followed.Followed.is_lenient_or.Goals as goal

pub returns-then-firm : goal.returns-then-firm
returns-then-firm c =
    let f = c.args.self.now in
    let reach = c.requires.known c.if-firm.true in (
      (λ good. record {
        translation = c.firm_is_lenient.ensures f.course.opening f.course.past c.args.at.hart c.args.at.address (kind_of c.args.access) reach.translation;
        fetch = reach.fetch;
      }),
      (λ lenient. refl),
    )
