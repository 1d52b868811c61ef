-- Nothing of a hart's own happens where its firmware has nothing to do inside a fence call.
use Rattle.std.proofs.Common.{◌≡◌, ℕ, Bool, true, false, List, refl, sym, ap, ◌∙◌}
use Rattle.std.specs.Prelude.{Option, Some, None, is_some, not}
use Rattle.board_terms.specs.declared.op.Op.{Op}
use Rattle.board_terms.specs.declared.op.Op.TheVariants.{Ecall, Load, Store, Fetch, Amo, WriteSatp, WriteSie, WriteSstatusSie, ReadSip, ClearSsip, Wfi, Sfence, FenceI, Poll, Serve, Advance, Tick}
use Rattle.board_core.specs.Refusals.{IsAccepted, Situation, is_running}
use Rattle.hsm.specs.declared.hart.HartState.TheVariants.{Started}
use Rattle.hsm.specs.States.{is_started}
use Rattle.hart_threads.specs.Choices.{HasNothing}

apart : {b : Bool} → b ≡ true → b ≡ false → ⊥
apart is isn't = let t = sym is ∙ isn't in cc

module _ (s : Situation) (harts : List ℕ) (inside : s.call ≡ Some harts) (started : s.state ≡ Started)
    (serves-not : ¬ IsAccepted Serve s) (polls-not : ¬ IsAccepted Poll s) where
  not-running : not (is_running s) ≡ true
  not-running = rw inside rw started refl

  nothing-happens : (op : Op) → ¬ IsAccepted op s
  nothing-happens (Ecall regs) accepted = apart not-running accepted.in_phase
  nothing-happens (Load va) accepted = apart not-running accepted.in_phase
  nothing-happens (Store va value) accepted = apart not-running accepted.in_phase
  nothing-happens (Fetch va) accepted = apart not-running accepted.in_phase
  nothing-happens (Amo at amo) accepted = apart not-running accepted.in_phase
  nothing-happens (WriteSatp value) accepted = apart not-running accepted.in_phase
  nothing-happens (WriteSie value) accepted = apart not-running accepted.in_phase
  nothing-happens (WriteSstatusSie value) accepted = apart not-running accepted.in_phase
  nothing-happens ReadSip accepted = apart not-running accepted.in_phase
  nothing-happens ClearSsip accepted = apart not-running accepted.in_phase
  nothing-happens Wfi accepted = apart not-running accepted.in_phase
  nothing-happens (Sfence va asid) accepted = apart not-running accepted.in_phase
  nothing-happens FenceI accepted = apart not-running accepted.in_phase
  nothing-happens Poll accepted = polls-not accepted
  nothing-happens Serve accepted = serves-not accepted
  nothing-happens Advance accepted = apart (ap is_started started) accepted.in_phase
  nothing-happens (Tick n) accepted = apart refl accepted.in_phase

-- a hart inside a fence call is STARTED
pub waits_in_call : (s : Situation) (guest : Option Op) (call : Option (List ℕ)) → s.call ≡ call → is_some call ≡ true
    → ((harts : List ℕ) → s.call ≡ Some harts → s.state ≡ Started) → ¬ IsAccepted Serve s → ¬ IsAccepted Poll s → HasNothing guest s
waits_in_call s guest None same inside starts serves-not polls-not op own accepted = absurd (let t = inside in cc)
waits_in_call s guest (Some harts) same inside starts serves-not polls-not op own accepted =
    nothing-happens s harts same (starts harts same) serves-not polls-not op accepted
