-- The harts that a hart list reaches: those that it names and that are in an interruptible state.
use Rattle.std.proofs.Common.{◌≡◌, ℕ, ◌<◌, ◌≤◌, Bool, true, false, List, refl, sym, ap, ◌∙◌, arith, inl, inr}
use Rattle.std.specs.Prelude.{◌&&◌, Some}
use Rattle.std.proofs.lemmas.Bool.{cases_Bool}
use Rattle.hart_mask.specs.HartList.{targets_of}
use Rattle.hart_mask.specs.Ids.{has, ids_where, intersection_of}
use Rattle.hart_mask.proofs.Sets.{has-ids_where, passes-ids_where}
use Rattle.hsm.specs.Harts.{Hart}
use Rattle.hsm.specs.States.{is_interruptible}
use Rattle.hsm.specs.Transitions.{hart_at}
use Rattle.rfence.specs.Turns.{Turn, Ask}
use Rattle.tlb_model.specs.declared.fence.Flush.{Flush}
use Rattle.board_rules.specs.Opening.{Opening}
use Rattle.board_rules.specs.Fences.{is_asked_by}
use Rattle.board_rules.specs.History.{Event}
use Rattle.board_rules.specs.Targets.{is_target}
use Rattle.board_machine.specs.Stands.{HartsStand}
use Rattle.board_rules.specs.States.{state}
use Rattle.board_machine.proofs.HartsStanding.{hart_at-stand}

-- what is in none of the first sets is in no intersection with them
none_of : (first second in_both : Bool) → first ≡ false → (in_both ≡ true → (first && second) ≡ true) → in_both ≡ (first && second)
none_of true second in_both none both = absurd cc
none_of false second true none both = absurd (let e = both refl in cc)
none_of false second false none both = refl

module _ (o : Opening) (past : List Event) (hsm : List Hart) (most : o.config.harts ≤ 128) (stand : HartsStand o past hsm) (mask base : ℕ) (harts interruptible reached : List ℕ)
    (named : targets_of mask base o.config.harts ≡ Some harts) (below : (t : ℕ) → has harts t ≡ true → t < o.config.harts)
    (can : interruptible ≡ ids_where (λ h. is_interruptible (hart_at hsm h).state)) (both : reached ≡ intersection_of harts interruptible) where
  reached-inside : (t : ℕ) → t < o.config.harts → has reached t ≡ (has harts t && is_interruptible (state o past t))
  reached-inside t inside =
      ap (λ ids. has ids t) both
      ∙ has-ids_where (λ h. has harts h && has interruptible h) t (omega arith)
      ∙ ap (λ ids. has harts t && has ids t) can
      ∙ ap (λ b. has harts t && b) (has-ids_where (λ h. is_interruptible (hart_at hsm h).state) t (omega arith)
      ∙ ap (λ (hart : Hart). is_interruptible hart.state) (hart_at-stand o past hsm stand t inside))

  reached-all : (t : ℕ) → has reached t ≡ (has harts t && is_interruptible (state o past t))
  reached-all t = elim (cases_Bool (has harts t)) [
    | inl inside ↦ reached-inside t (below t inside)
    | inr outside ↦ rw outside (missed outside)
  ]
    where
      missed : has harts t ≡ false → has reached t ≡ false
      missed outside =
          none_of (has harts t) (has interruptible t) (has reached t) outside
          (λ is. (passes-ids_where (λ h. has harts h && has interruptible h) t (sym (ap (λ ids. has ids t) both) ∙ is)).1)
          ∙ rw outside refl

  pub is_reached : (t : ℕ) → has reached t ≡ is_asked_by o past mask base t
  is_reached t = reached-all t ∙ ap (λ targets. is_target targets t && is_interruptible (state o past t)) (sym named)

  pub reached-below : (t : ℕ) → has reached t ≡ true → t < o.config.harts
  reached-below t is = elim (cases_Bool (has harts t)) [
    | inl inside ↦ below t inside
    | inr outside ↦ absurd (let e = sym is ∙ reached-all t ∙ ap (λ b. b && is_interruptible (state o past t)) outside in cc)
  ]

  pub asked-as : (x : ℕ) (flush : Flush) → (let turn : Turn Flush = Ask x (has reached) flush in turn) ≡ Ask x (is_asked_by o past mask base) flush
  asked-as x flush = λ i. Ask x (λ t. is_reached t i) flush
