-- Events of operations that do nothing to caches, and change neither the memory nor a satp.
use Rattle.std.proofs.Common.{◌≡◌, ℕ, true, List, refl, ap, Option, None}
use Rattle.rfence.specs.Applied.{Nothing, effect}
use Rattle.tlb_model.specs.Entries.{Entry}
use Rattle.board_terms.specs.declared.config.Config.{Config}
use Rattle.board_terms.specs.declared.op.Actor.{Actor}
use Rattle.board_terms.specs.declared.op.Actor.TheVariants.{Hart, Clock}
use Rattle.board_terms.specs.declared.op.Op.{Op}
use Rattle.board_terms.specs.declared.op.Op.TheVariants.{Load, Fetch, WriteSie, WriteSstatusSie, ReadSip, ClearSsip, Wfi, Poll, Tick}
use Rattle.board_terms.specs.declared.reply.Reply.{Reply}
use Rattle.board_core.specs.Course.{is_hart}
use Rattle.board_core.specs.Fences.{turn_of, turns}
use Rattle.board_core.specs.History.{Event}
use Rattle.board_core.specs.Memory.{Writing, memory, satp, satp_by, writing_by, written_by}
use Rattle.board_core.specs.Opening.{Opening}
use Rattle.board_core.specs.Writes.{Write, latest}
use Rattle.any_tlb.specs.Effects.{effect_by}
use Rattle.any_tlb.specs.Quiet.{HasNoEffect}
use Rattle.tlb_watch.specs.QuietOps.{is_quiet}

no-satp : (c : Config) (op : Op) (r : Reply) → is_quiet op ≡ true → satp_by c op r ≡ None
no-satp c (Load va) r quiet = refl
no-satp c (Fetch va) r quiet = refl
no-satp c (WriteSie value) r quiet = refl
no-satp c (WriteSstatusSie value) r quiet = refl
no-satp c ReadSip r quiet = refl
no-satp c ClearSsip r quiet = refl
no-satp c Wfi r quiet = refl
no-satp c Poll r quiet = refl
no-satp c (Tick n) r quiet = refl
no-satp c op r quiet = cc

no-writing : (op : Op) (r : Reply) (used : Option Entry) → is_quiet op ≡ true → writing_by op r used ≡ None
no-writing (Load va) r used quiet = refl
no-writing (Fetch va) r used quiet = refl
no-writing (WriteSie value) r used quiet = refl
no-writing (WriteSstatusSie value) r used quiet = refl
no-writing ReadSip r used quiet = refl
no-writing ClearSsip r used quiet = refl
no-writing Wfi r used quiet = refl
no-writing Poll r used quiet = refl
no-writing (Tick n) r used quiet = refl
no-writing op r used quiet = cc

no-effect : (o : Opening) (past : List Event) (actor : Actor) (op : Op) (r : Reply) (h : ℕ) → is_quiet op ≡ true
    → effect_by (turn_of o past actor op r) (effect o.fences (turns o past) (turn_of o past actor op r) h) ≡ Nothing
no-effect o past Clock op r h quiet = refl
no-effect o past (Hart x) (Load va) r h quiet = refl
no-effect o past (Hart x) (Fetch va) r h quiet = refl
no-effect o past (Hart x) (WriteSie value) r h quiet = refl
no-effect o past (Hart x) (WriteSstatusSie value) r h quiet = refl
no-effect o past (Hart x) ReadSip r h quiet = refl
no-effect o past (Hart x) ClearSsip r h quiet = refl
no-effect o past (Hart x) Wfi r h quiet = refl
no-effect o past (Hart x) Poll r h quiet = refl
no-effect o past (Hart x) (Tick n) r h quiet = refl
no-effect o past (Hart x) op r h quiet = cc

pub quiet : (o : Opening) (past : List Event) (event : Event) → is_quiet event.op ≡ true → (h : ℕ) → HasNoEffect o event past h
quiet o past event is h = record {
  effect = no-effect o past event.actor event.op event.reply h is;
  satp = ap (λ (w : Option (Write ℕ)). latest w (is_hart h event.actor) (satp o past h)) (no-satp o.config event.op event.reply is);
  memory = ap (λ (w : Option Writing). written_by o.config w (memory o past)) (no-writing event.op event.reply event.translation is);
}
