-- The harts that a reset makes.
use Rattle.std.proofs.Common.{◌≡◌, Bool, true, false, map, replicate, set, refl, sym, ap, ◌∙◌}
use Rattle.std.specs.Prelude.{Option, Some, None, if◌then◌else◌}
use Rattle.std.proofs.lemmas.List.FromFn.{length-range_with_len}
use Rattle.std.proofs.lemmas.Simd.{splat_is_map}
use Rattle.sbi_abi.specs.declared.reset.Reset.{Reset}
use Rattle.hsm.specs.declared.hart.EntryPoint.{EntryPoint}
use Rattle.hsm.specs.Harts.{resting, starting}
use Rattle.hsm.specs.Transitions.{hart_at_opening, reset_to}
use Rattle.board_terms.specs.declared.config.Config.{Config}
use Rattle.board_rules.specs.Course.{harts_of}
use Rattle.board_rules.specs.Resets.{begins_anew}
use Rattle.board_machine.proofs.HartsStanding.{hart_at_reset}
use Rattle.fence_queue.proofs.Tables.{tabulate-set}
use Rattle.board_rules.proofs.Tables.{eqb-other, eqb-same}

-- every hart is STOPPED, and the boot hart begins anew, if it is to
pub harts-anew : (c : Config) (reset : Reset) (boot : Option EntryPoint)
    → boot ≡ (if begins_anew reset.kind then Some (record { addr = c.boot_addr; opaque = c.boot_opaque }) else None)
    → reset_to c.harts c.boot_hart boot ≡ map (hart_at_reset c reset) (harts_of c)
harts-anew c reset boot is = ap (reset_to c.harts c.boot_hart) is ∙ by_kind (begins_anew reset.kind)
  where
    kept : EntryPoint
    kept = record { addr = c.boot_addr; opaque = c.boot_opaque }

    all : replicate c.harts resting ≡ map (λ h. resting) (harts_of c)
    all = splat_is_map (harts_of c) c.harts resting (length-range_with_len 0 c.harts)

    anew : set (map (λ h. resting) (harts_of c)) c.boot_hart (starting kept) ≡ map (hart_at_opening c.boot_hart kept) (harts_of c)
    anew =
        ap (set (map (λ h. resting) (harts_of c)) c.boot_hart) (sym (rw (eqb-same c.boot_hart) refl))
        ∙ tabulate-set (λ h. resting) (hart_at_opening c.boot_hart kept) c.harts c.boot_hart (λ j other. rw (eqb-other j c.boot_hart (λ e. other (sym e))) refl)

    by_kind : (begins : Bool) → reset_to c.harts c.boot_hart (if begins then Some kept else None)
        ≡ map (λ h. if begins then hart_at_opening c.boot_hart kept h else resting) (harts_of c)
    by_kind true = ap (λ hs. set hs c.boot_hart (starting kept)) all ∙ anew
    by_kind false = all
