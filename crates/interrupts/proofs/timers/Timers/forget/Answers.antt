use Rattle.std.proofs.Common.{◌≡◌, length, get_or, None, ap, ◌∙◌, sym, arith}
use Rattle.interrupts.specs.Timing.{Timing, deadline_of}
use Rattle.interrupts.specs.Inside.Listed.{is_ahead}
use Rattle.interrupts.proofs.Listing.{later-without, listed-forgotten}
use Rattle.interrupts.proofs.timers.Timers.forget.Goals as goal

pub invariant_of-self : goal.invariant_of-self
invariant_of-self c =
    let kept = c.self.invariant in
    let at = c.self.inside in
    let long = ap (λ (t : Timing). length t.deadlines) c.self.view_is in
    let so : c.is_ahead-is_ahead.result ≡ is_ahead at.time (get_or at.deadlines.items c.args.h None) =
    c.is_ahead-is_ahead.ensures ∙ ap (λ (t : Timing). is_ahead t.time (deadline_of t c.args.h)) (sym c.self.view_is) in (
      kept.0,
      rw (c.take_out_where.ensures, c.remove.ensures, so) (listed-forgotten at.time at.deadlines.items at.ahead at.due c.args.h (omega (arith, long, c.requires)) kept.1 kept.2),
      rw c.take_out_where.ensures (later-without at.time c.is_ahead-is_ahead.result c.args.h at.ahead kept.2),
      kept.3,
    )
