-- A hart's operation can happen exactly where it isn't refused, or for a full history alone.
use Rattle.std.proofs.Common.{◌≡◌, ℕ, ◌<◌, Bool, true, false, not, ◌&&◌, List, [], ◌∷◌, refl, ap, ◌∙◌}
use Rattle.std.specs.Prelude.{Option, nat_le}
use Rattle.std.proofs.lemmas.Bool.{lt-leb}
use Rattle.board_terms.specs.declared.op.Actor.TheVariants.{Hart}
use Rattle.board_terms.specs.declared.op.Op.{Op}
use Rattle.board_terms.specs.declared.reply.Refusal.{Refusal}
use Rattle.board_terms.specs.declared.reply.Refusal.TheVariants.{Off, WrongPhase, Nothing, HistoryFull}
use Rattle.board_core.specs.History.{Event}
use Rattle.board_core.specs.Opening.{Opening}
use Rattle.board_core.specs.Refusals.{first_refusal, first_that_holds, has_nothing_to_do, is_full, is_out_of_phase, situation}
use Rattle.board_core.specs.Resets.{is_off}
use Rattle.guest_programs.specs.Steps.{accepts, happens_with_room}

by-rows : (off there out none full : Bool) → off ≡ false → there ≡ false
    → happens_with_room (first_that_holds ((off, Off) ∷ (there, WrongPhase) ∷ (out, WrongPhase) ∷ (none, Nothing) ∷ (full, HistoryFull) ∷ [])) ≡ (not out && not none)
by-rows true there out none full on here = absurd (let t = on in cc)
by-rows false true out none full on here = absurd (let t = here in cc)
by-rows false false true none full on here = refl
by-rows false false false true full on here = refl
by-rows false false false false true on here = refl
by-rows false false false false false on here = refl

pub accepts_by : (o : Opening) (past : List Event) (h : ℕ) (op : Op) (refusal : Option Refusal) (can : Bool) → h < o.config.harts → is_off o past ≡ false
    → refusal ≡ first_refusal o past (Hart h) op → can ≡ happens_with_room refusal → can ≡ accepts (situation o past h) op
accepts_by o past h op refusal can below on is tells =
    tells ∙ ap happens_with_room is
    ∙ by-rows (is_off o past) (nat_le o.config.harts h) (is_out_of_phase op (situation o past h)) (has_nothing_to_do op (situation o past h)) (is_full o past) on
    (lt-leb o.config.harts h below)
