use Rattle.std.proofs.Common.{◌≡◌, sym, ap, ◌∙◌, subst, Some}
use Rattle.board_terms.specs.declared.op.Actor.TheVariants.{Hart}
use Rattle.board_core.specs.History.{access_of}
use Rattle.access_marks.specs.Inside.Accessed.{IsPresent, accessed_by}
use Rattle.access_marks.proofs.Following.{if-ok, of-access, of-clock, of-other, walks-of-access, walks-of-clock, walks-of-other}
use Rattle.access_marks.proofs.followed.Followed.marks.Goals as goal

pub access_marks-requires : goal.access_marks-requires
access_marks-requires c =
    let event = c.args.event.now in
    let f = c.args.self.now in
    let own : event.actor ≡ Hart c.in-Hart.hart = sym c.actor.ensures ∙ c.in-Hart.is in
    let found : access_of event.op ≡ Some (record { va = c.in-Some.address; access = c.in-Some.access }) =
    ap access_of (sym c.op.ensures) ∙ sym (rw c.in-Some.is at c.access_of.ensures) in
    record {
      first = c.requires.first;
      present = subst (IsPresent f.course.opening.config.harts) own c.requires.watched.present;
      watched = c.requires.watched.watched (record { hart = c.in-Hart.hart; address = c.in-Some.address }) (λ i. accessed_by (own i) (found i));
    }

pub returns-in-Some-clause-marked : goal.returns-in-Some-clause-marked
returns-in-Some-clause-marked c =
    let event = c.args.event.now in
    let f = c.args.self.now in
    let found : access_of event.op ≡ Some (record { va = c.in-Some.address; access = c.in-Some.access }) =
    ap access_of (sym c.op.ensures) ∙ sym (rw c.in-Some.is at c.access_of.ensures) in
    if-ok c.access_marks.result _ _
    (λ m is. of-access f.course.opening f.course.past event c.in-Hart.hart (record { va = c.in-Some.address; access = c.in-Some.access }) m
    (sym c.actor.ensures ∙ c.in-Hart.is) found (is event (sym c.translation.ensures)))
    c.access_marks.ensures.marked

pub returns-in-None-clause-marked : goal.returns-in-None-clause-marked
returns-in-None-clause-marked c =
    let event = c.args.event.now in
    let f = c.args.self.now in
    of-other f.course.opening f.course.past event c.in-Hart.hart c.none.result (sym c.actor.ensures ∙ c.in-Hart.is)
    (ap access_of (sym c.op.ensures) ∙ sym (rw c.in-None.is at c.access_of.ensures)) c.none.ensures

pub returns-in-Clock-clause-marked : goal.returns-in-Clock-clause-marked
returns-in-Clock-clause-marked c =
    let f = c.args.self.now in
    of-clock f.course.opening f.course.past c.args.event.now c.none-in-Clock.result (sym c.actor.ensures ∙ c.in-Clock.is) c.none-in-Clock.ensures

pub returns-in-Some-clause-walks : goal.returns-in-Some-clause-walks
returns-in-Some-clause-walks c =
    let event = c.args.event.now in
    let f = c.args.self.now in
    let found : access_of event.op ≡ Some (record { va = c.in-Some.address; access = c.in-Some.access }) =
    ap access_of (sym c.op.ensures) ∙ sym (rw c.in-Some.is at c.access_of.ensures) in
    if-ok c.access_marks.result _ _
    (λ m is asked. walks-of-access f.course.opening f.course.past event c.in-Hart.hart (record { va = c.in-Some.address; access = c.in-Some.access }) m
    (sym c.actor.ensures ∙ c.in-Hart.is) found (is asked))
    c.access_marks.ensures.walks

pub returns-in-None-clause-walks : goal.returns-in-None-clause-walks
returns-in-None-clause-walks c = λ asked.
    let event = c.args.event.now in
    let f = c.args.self.now in
    walks-of-other f.course.opening f.course.past event c.in-Hart.hart c.none.result (sym c.actor.ensures ∙ c.in-Hart.is)
    (ap access_of (sym c.op.ensures) ∙ sym (rw c.in-None.is at c.access_of.ensures))

pub returns-in-Clock-clause-walks : goal.returns-in-Clock-clause-walks
returns-in-Clock-clause-walks c = λ asked.
    let f = c.args.self.now in
    walks-of-clock f.course.opening f.course.past c.args.event.now c.none-in-Clock.result (sym c.actor.ensures ∙ c.in-Clock.is)
