use Rattle.std.proofs.Common.{◌∙◌, arith}
use Rattle.rfence.proofs.Bounds.{are-bounded}
use Rattle.board_core.proofs.Needs.{are-few, can-end, is-left}
use Rattle.board_core.proofs.Viewed.{viewed}
use Rattle.board_core.proofs.view.View.need.Goals as goal

pub returns-clause-need : goal.returns-clause-need
returns-clause-need c =
    let v = viewed c.self.view_is c.self.invariant in
    c.need.ensures.need _ _ _ v.stands.fences.stands v.stands.fences.right

pub returns-clause-limit : goal.returns-clause-limit
returns-clause-limit c =
    let v = viewed c.self.view_is c.self.invariant in
    let fences = v.stands.fences in
    let bounded = are-bounded _ _ _ c.args.caller fences.right in
    omega (arith, c.need.ensures.need _ _ _ fences.stands fences.right, bounded.each c.args.t, v.kept.good.some_harts)

pub returns-clause-no_caller : goal.returns-clause-no_caller
returns-clause-no_caller c =
    let v = viewed c.self.view_is c.self.invariant in
    let fences = v.stands.fences in
    let bounded = are-bounded _ _ _ c.args.caller fences.right in
    λ outside. c.need.ensures.need _ _ _ fences.stands fences.right ∙ bounded.no_caller outside c.args.t

pub returns-clause-no_target : goal.returns-clause-no_target
returns-clause-no_target c =
    let v = viewed c.self.view_is c.self.invariant in
    let fences = v.stands.fences in
    let bounded = are-bounded _ _ _ c.args.caller fences.right in
    λ outside. c.need.ensures.need _ _ _ fences.stands fences.right ∙ bounded.no_target c.args.t outside

pub returns-clause-total : goal.returns-clause-total
returns-clause-total c =
    let v = viewed c.self.view_is c.self.invariant in
    (are-few _ _ c.args.caller v.kept.good v.kept.legal).total

pub returns-clause-left : goal.returns-clause-left
returns-clause-left c =
    let v = viewed c.self.view_is c.self.invariant in
    λ newer on. is-left _ newer _ c.args.caller c.args.t v.kept.good on

pub returns-clause-ends : goal.returns-clause-ends
returns-clause-ends c =
    let v = viewed c.self.view_is c.self.invariant in
    λ newer on below served. can-end _ newer _ c.args.caller v.kept.opened on below served
