-- What an event does to caches, by its actor.
use Rattle.std.proofs.Common.{◌≡◌, ℕ, ◌<◌, ◌≤◌, Bool, true, false, List, ap, sym, ◌∙◌}
use Rattle.std.specs.Prelude.{if◌then◌else◌}
use Rattle.std.proofs.lemmas.Bool.{le-ltb, lt-ltb}
use Rattle.rfence.specs.Applied.{Nothing}
use Rattle.board_terms.specs.declared.op.Actor.TheVariants.{Hart, Clock}
use Rattle.board_core.specs.Fences.{turn_by, turn_of}
use Rattle.board_core.specs.History.{Event}
use Rattle.board_core.specs.Opening.{Opening}
use Rattle.any_tlb.specs.Effects.{effect_at}
use Rattle.tlb_watch.specs.Effects.{effect_there, is_there, turn_effect}

module _ (o : Opening) (past : List Event) (event : Event) (h : ℕ) where
  by-test : (b : Bool) → is_there o.config.harts event.actor ≡ b → effect_there o past event h ≡ (if b then effect_at o past event h else Nothing)
  by-test b is = ap (λ (there : Bool). if there then effect_at o past event h else Nothing) is

  pub by-hart : (x : ℕ) → event.actor ≡ Hart x → x < o.config.harts → turn_effect o past (turn_by o past x event.op event.reply) h ≡ effect_there o past event h
  by-hart x own inside =
      (λ i. turn_effect o past (turn_of o past (sym own i) event.op event.reply) h)
      ∙ sym (by-test true (ap (is_there o.config.harts) own ∙ lt-ltb x o.config.harts inside))

  pub by-other : (x : ℕ) → event.actor ≡ Hart x → o.config.harts ≤ x → Nothing ≡ effect_there o past event h
  by-other x own outside = sym (by-test false (ap (is_there o.config.harts) own ∙ le-ltb x o.config.harts outside))

  pub by-clock : event.actor ≡ Clock → Nothing ≡ effect_there o past event h
  by-clock own =
      (λ i. turn_effect o past (turn_of o past (sym own i) event.op event.reply) h) ∙ sym (by-test true (ap (is_there o.config.harts) own))
