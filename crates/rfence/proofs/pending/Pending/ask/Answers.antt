use Rattle.std.proofs.Common.{length, ap, ◌∙◌, sym, arith}
use Rattle.std.proofs.lemmas.List.{length-set}
use Rattle.rfence.proofs.ByCaller.{after-ask, can-callers, length-by, length-requested}
use Rattle.rfence.proofs.pending.Pending.ask.Goals as goal

pub ask_each-requires : goal.ask_each-requires
ask_each-requires g c =
    can-callers c.self.inside.fences.items c.self.inside.idle c.self.inside.callers _ c.self.view_is c.args.targets c.args.request
    (omega (arith, c.requires.caller, c.self.invariant, length-by c.self.inside.fences.items c.self.inside.idle c.self.inside.callers, ap length c.self.view_is))
    c.requires.out c.requires.can

pub invariant_of-self : goal.invariant_of-self
invariant_of-self g c =
    length-set c.self.inside.fences.items c.args.request.from c.args.request.flush ∙ c.self.invariant
    ∙ sym (ap length c.ask_each.ensures ∙ length-requested c.args.targets c.self.inside.callers _)

pub returns : goal.returns
returns g c =
    after-ask c.self.inside.fences.items c.self.inside.idle c.self.inside.callers _ c.self.view_is c.args.targets c.args.request
    (omega (arith, c.requires.caller, c.self.invariant, length-by c.self.inside.fences.items c.self.inside.idle c.self.inside.callers, ap length c.self.view_is))
    c.requires.out c.requires.can _ c.ask_each.ensures
