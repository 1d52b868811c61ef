-- What a system reset leaves.
use Rattle.std.proofs.Common.{◌≡◌, ℕ, Bool, true, false, List, [], ◌∷◌, eqb, refl, ap, arith, Some, None}
use Rattle.std.specs.Prelude.{◌&&◌, if◌then◌else◌}
use Rattle.sbi_abi.specs.declared.reset.Reset.{Reset}
use Rattle.hsm.specs.Harts.{resting, starting}
use Rattle.sv39.specs.Memory.{zero_memory}
use Rattle.tlb_model.specs.Acts.{Act, Clear, live}
use Rattle.tlb_model.specs.Contents.{Contents}
use Rattle.tlb_model.specs.declared.fence.Flush.{Flush}
use Rattle.tlb_model.specs.Entries.{covers_entry}
use Rattle.tlb_model.specs.Words.{covers_word}
use Rattle.tlb_model.proofs.Living.{keeps_what_lives}
use Rattle.board_core.specs.Opening.{Opening, tlb_at, words_at}
use Rattle.board_core.specs.History.{Event}
use Rattle.board_core.specs.Memory.{Zeroed, memory, tlb_acts, word_acts, written_by}
use Rattle.board_core.specs.Starts.{hart_of}
use Rattle.board_core.specs.Replies.{IsLegal}
use Rattle.board_core.specs.Resets.{begins_anew, is_cold, reset_by}
use Rattle.board_core.proofs.AtResets.{IsReset, is-reset, off-refuses, reset-turn}
use Rattle.board_laws.specs.Resets.{IsFresh}

-- nothing lives where all was dropped
pub none-lives : {E : Type 0} (first : ℕ) (opening : Contents E) (covers : Flush → E → Bool) (acts : List (Act E)) → live first opening covers (Clear ∷ acts) ≡ []
none-lives {E} first opening covers acts = ap (λ (cache : Contents E). cache.live) (keeps_what_lives first opening covers Clear acts)

module _ (o : Opening) (event : Event) (past : List Event) (reset : Reset) (is : IsReset event reset) where
  by_kind : (h : ℕ) → (anew at_boot : Bool) → begins_anew reset.kind ≡ anew → eqb h o.config.boot_hart ≡ at_boot
      → hart_of o (event ∷ past) h ≡ (if anew && at_boot then starting (record { addr = o.config.boot_addr; opaque = o.config.boot_opaque }) else resting)
  by_kind h true true kind here = rw (is.by_hart, is.call, is.accepted, is.asks, kind, here) refl
  by_kind h true false kind here = rw (is.by_hart, is.call, is.accepted, is.asks, kind, here) refl
  by_kind h false at_boot kind here = rw (is.by_hart, is.call, is.accepted, is.asks, kind) refl

  by_cold : (at : ℕ) → (cold : Bool) → written_by o.config (if cold then Some Zeroed else None) (memory o past) at ≡ (if cold then zero_memory o.config.pages at else memory o past at)
  by_cold at true = refl
  by_cold at false = refl

  leaves-fresh : IsFresh o reset past (event ∷ past)
  leaves-fresh = record {
    harts = λ h. by_kind h (begins_anew reset.kind) (eqb h o.config.boot_hart) refl refl;
    starts = rw (is.call, is.accepted, is.asks) refl;
    entries = rw (is.call, is.accepted, is.asks) refl;
    entered = rw (is.call, is.accepted, is.asks) refl;
    sstatus_sie = λ h. rw (is.call, is.accepted, is.asks) refl;
    sie = λ h. rw (is.call, is.accepted, is.asks) refl;
    ssip = λ h. rw (is.call, is.accepted, is.asks) refl;
    deadline = λ h. rw (is.call, is.accepted, is.asks) refl;
    satp = λ h. rw (is.call, is.accepted, is.asks) refl;
    tlb = λ h. rw (reset-turn o event past reset is) (none-lives o.places (tlb_at o h) covers_entry (tlb_acts o past h));
    fetched = λ h. rw (reset-turn o event past reset is) (none-lives o.places (words_at o h) covers_word (word_acts o past h));
    waiting = λ h. rw (reset-turn o event past reset is) refl;
    outstanding = λ h. rw (reset-turn o event past reset is) refl;
    memory = λ at. rw (is.call, is.accepted, is.asks) (by_cold at (is_cold reset.kind));
    time = rw is.call (omega arith);
    off = λ dark. off-refuses o (event ∷ past) (rw (is.call, is.accepted, is.asks, dark) refl);
  }

pub resets_are_fresh : (o : Opening) (event : Event) (past : List Event) (reset : Reset) → IsLegal o (event ∷ past) → reset_by event.op event.reply ≡ Some reset
    → IsFresh o reset past (event ∷ past)
resets_are_fresh o event past reset legal resets = leaves-fresh o event past reset (is-reset o past event reset legal.0 resets)
