use Rattle.std.proofs.Common.{ap, sym, length, ◌≡◌, ◌∙◌, ◌++◌, ◌∷◌, [], List, map, arith}
use Rattle.std.proofs.lemmas.List.{length-map, map-append}
use Rattle.std.proofs.lemmas.List.FromFn.{length-range_with_len, map-range_with_len_more}
use Rattle.std.specs.List.{range_with_len}
use Rattle.hsm.specs.Harts.{Hart}
use Rattle.hsm.specs.Inside.Phases.{hart_of}
use Rattle.hsm.specs.Interruptible.{interruptible_ids}
use Rattle.hsm.specs.Transitions.{hart_at_opening, opening}
use Rattle.hsm.proofs.Interruptible.{none-at-opening}
use Rattle.hsm.proofs.harts.Hsm.new.Goals as goal

pub loop-h-preserved : goal.loop-h-preserved
loop-h-preserved c = (
  ap (map hart_of) c.push_reserved.ensures.items
      ∙ map-append hart_of c.loop-h.phases.items (c.opening_phase.result ∷ [])
      ∙ ap (λ (harts : List Hart). harts ++ hart_of c.opening_phase.result ∷ []) c.loop-h.invariant.0
      ∙ ap (λ (hart : Hart). opening c.loop-h.h c.args.boot_hart c.args.boot ++ hart ∷ []) c.opening_phase.ensures
      ∙ sym (map-range_with_len_more (hart_at_opening c.args.boot_hart c.args.boot) 0 c.loop-h.h c.loop-h.h (omega arith)),
  let more = c.push_reserved.ensures.len in let long = c.loop-h.invariant.1 in omega arith,
  c.push_reserved.ensures.capacity ∙ c.loop-h.invariant.2,
)

pub invariant_of-result : goal.invariant_of-result
invariant_of-result c =
    let h = c.loop-h.h in
    let long = ap length c.loop-h.invariant.0 in
    let opened_long : length (opening h c.args.boot_hart c.args.boot) ≡ h =
    length-map (range_with_len 0 h) (hart_at_opening c.args.boot_hart c.args.boot) ∙ length-range_with_len 0 h in (
      record {
        limit = omega (arith, long, opened_long, c.loop-h.auto.h-end, c.requires.limit);
        interruptible =
            c.new.ensures
            ∙ sym (none-at-opening h c.args.boot_hart c.args.boot)
            ∙ sym (ap interruptible_ids c.loop-h.invariant.0);
      },
      let size = c.loop-h.invariant.1 in let room = c.loop-h.invariant.2 in omega (arith, c.loop-h.auto.h-end),
    )
