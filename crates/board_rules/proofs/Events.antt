-- What accepted events do, by component: each part of a deed is what the definitions read off the event.
use Rattle.std.proofs.Common.{◌≡◌, ℕ, Bool, true, false, List, [], refl, sym, ap}
use Rattle.std.specs.Prelude.{Option, Some, None}
use Rattle.sbi_abi.specs.declared.answer.Sbiret.{Sbiret}
use Rattle.sbi_abi.specs.declared.call.Call.{Call}
use Rattle.sbi_abi.specs.declared.call.Call.TheVariants.{Rfence}
use Rattle.sbi_abi.specs.declared.call.rfence.RfenceCall.{RfenceCall}
use Rattle.sbi_abi.specs.declared.call.Regs.{Regs}
use Rattle.sbi_abi.specs.declared.reset.Reset.{Reset}
use Rattle.sbi_abi.specs.Calls.{call_of}
use Rattle.hsm.specs.declared.hart.HartState.TheVariants as states
use Rattle.hsm.specs.declared.hart.EntryPoint.{EntryPoint}
use Rattle.hsm.specs.States.{is_start_pending}
use Rattle.tlb_model.specs.Entries.{Entry as CacheEntry}
use Rattle.tlb_model.specs.declared.word.FetchWord.{FetchWord}
use Rattle.rfence.specs.Applied.{effect}
use Rattle.rfence.specs.Turns.{Turn, Quiet}
use Rattle.tlb_model.specs.declared.fence.Flush.{Flush}
use Rattle.tlb_model.specs.Acts.{Act, Nothing}
use Rattle.board_rules.specs.Opening.{Opening}
use Rattle.board_rules.specs.declared.sie.Sie.{Sie}
use Rattle.board_rules.specs.Course.{is_hart}
use Rattle.board_rules.specs.History.{Event, by_hart}
use Rattle.board_terms.specs.declared.op.Op.TheVariants.{Ecall, Advance}
use Rattle.board_terms.specs.declared.reply.Reply.{Reply}
use Rattle.board_terms.specs.declared.reply.Reply.TheVariants.{Entry, Ret, Waiting}
use Rattle.board_rules.specs.Csrs.{none_enabled, sie_by, sstatus_sie_by}
use Rattle.board_rules.specs.Calls.Rfence.{Remote, remote_by_rfence}
use Rattle.board_rules.specs.Fences.{turn_by_call, turn_by_remote, turn_of, turns}
use Rattle.board_rules.specs.Interrupts.{deadline_by, deadline_by_call, reaches_by, reaches_by_call, ssip_by, ticks_by}
use Rattle.board_rules.specs.Memory.{Writing, act_by, cached_in, entry_filling, hit_in, memory, own_filling, satp, satp_by, tlb_acts, word_acts, word_filling, writing_by, zeroed_by}
use Rattle.board_rules.specs.Starts.{Growth, More, entry_by, growth, start_by, start_by_call}
use Rattle.board_rules.specs.States.{Move, One, is_starting, move_by_call, move_of, state}
use Rattle.board_rules.specs.Resets.{reset_by, reset_by_call}
use Rattle.board_rules.specs.Suspends.{resume_by, resume_by_call}
use Rattle.board_rules.specs.Writes.{Write, Here, at_reset}

-- of the harts: one to move, a start to keep, and what a suspend says of its end
pub record HartsDeed : Type 0 where
  pub move : Option Move
  pub start : Option Growth
  pub resume : Option (Write (Option EntryPoint))

-- of interrupts: values for sstatus.SIE, sie, SSIP and the deadline; ticks; and the harts that an IPI reaches
pub record InterruptsDeed : Type 0 where
  pub sstatus : Option (Write Bool)
  pub sie : Option (Write Sie)
  pub ssip : Option (Write Bool)
  pub deadline : Option (Write (Option ℕ))
  pub ticks : ℕ
  pub reach : ℕ → Bool

-- of memory and caches: a value for satp, what is written into memory, and what happens to the TLB and to the instruction cache of a hart
pub record MemoryDeed : Type 0 where
  pub satp : Option (Write ℕ)
  pub writing : Option Writing
  pub tlb_act : ℕ → Act CacheEntry
  pub word_act : ℕ → Act FetchWord

-- of the counts: how the starts go on, and their entries
pub record CountsDeed : Type 0 where
  pub start : Option Growth
  pub entry : Option Growth

-- with its turn, which is what it means for fences
pub record Deed : Type 0 where
  pub harts : HartsDeed
  pub interrupts : InterruptsDeed
  pub memory : MemoryDeed
  pub turn : Turn Flush
  pub counts : CountsDeed
  pub reset : Option Reset

-- nothing
abbrev pub still : Deed
still = record {
  harts = record { move = None; start = None; resume = None };
  interrupts = record { sstatus = None; sie = None; ssip = None; deadline = None; ticks = 0; reach = λ h. false };
  memory = record { satp = None; writing = None; tlb_act = λ h. Nothing; word_act = λ h. Nothing };
  turn = Quiet;
  counts = record { start = None; entry = None };
  reset = None;
}

module _ (o : Opening) (past : List Event) where
  -- what an event does
  abbrev pub deed : Event → Deed
  deed event = record {
    harts = record {
      move = move_of o.config event.actor event.op event.reply;
      start = start_by o.config event.op event.reply;
      resume = resume_by event.op event.reply;
    };
    interrupts = record {
      sstatus = sstatus_sie_by event.op event.reply;
      sie = sie_by event.op event.reply (is_starting o past event.actor);
      ssip = ssip_by event.op event.reply (is_starting o past event.actor);
      deadline = deadline_by event.op event.reply (is_starting o past event.actor);
      ticks = ticks_by event.op;
      reach = reaches_by o past event.op event.reply;
    };
    memory = record {
      satp = satp_by o.config event.op event.reply;
      writing = writing_by event.op event.reply event.translation;
      tlb_act = λ h. act_by (effect o.fences (turns o past) (turn_of o past event.actor event.op event.reply) h)
          (own_filling (is_hart h event.actor) (entry_filling event.op event.translation (satp o past h) (hit_in o h (tlb_acts o past h))));
      word_act = λ h. act_by (effect o.fences (turns o past) (turn_of o past event.actor event.op event.reply) h)
          (own_filling (is_hart h event.actor) (word_filling event.op event.reply event.translation (memory o past) (cached_in o h (word_acts o past h))));
    };
    turn = turn_of o past event.actor event.op event.reply;
    counts = record {
      start = start_by o.config event.op event.reply;
      entry = entry_by event.op event.reply (is_starting o past event.actor);
    };
    reset = reset_by event.op event.reply;
  }

  -- ---- turns

  -- what a turn does
  abbrev pub deed_of_turn : Turn Flush → Deed
  deed_of_turn turn = record still {
    memory = record still.memory { tlb_act = λ h. act_by (effect o.fences (turns o past) turn h) None; word_act = λ h. act_by (effect o.fences (turns o past) turn h) None };
    turn = turn;
  }

  module _ (x : ℕ) where
    -- ---- calls

    abbrev pub deed_of_call : Call → Reply → Deed
    deed_of_call call reply = record {
      harts = record {
        move = move_by_call o.config x call reply;
        start = start_by_call o.config call reply;
        resume = resume_by_call call reply;
      };
      interrupts = record still.interrupts {
        sstatus = at_reset (reset_by_call call reply) false;
        sie = at_reset (reset_by_call call reply) none_enabled;
        ssip = at_reset (reset_by_call call reply) false;
        deadline = deadline_by_call call reply;
        reach = reaches_by_call o past call reply;
      };
      memory = record {
        satp = at_reset (reset_by_call call reply) 0;
        writing = zeroed_by (reset_by_call call reply);
        tlb_act = λ h. act_by (effect o.fences (turns o past) (turn_by_call o past x call reply) h) None;
        word_act = λ h. act_by (effect o.fences (turns o past) (turn_by_call o past x call reply) h) None;
      };
      turn = turn_by_call o past x call reply;
      counts = record { start = start_by_call o.config call reply; entry = growth None (reset_by_call call reply) (λ reset. []) };
      reset = reset_by_call call reply;
    }

    pub does_call : (regs : Regs) (call : Call) (reply : Reply) → call ≡ call_of regs → deed (by_hart x (Ecall regs) reply) ≡ deed_of_call call reply
    does_call regs call reply is = ap (λ it. deed_of_call it reply) (sym is)

    -- a remote fence that waits is a turn, and one that fails is nothing
    pub does_remote : (call : RfenceCall) (remote : Remote) → remote_by_rfence o.config call ≡ remote
        → deed_of_call (Rfence call) Waiting ≡ deed_of_turn (turn_by_remote o past x (Some remote) Waiting)
    does_remote call remote is = ap (λ r. deed_of_turn (turn_by_remote o past x (Some r) Waiting)) is

    pub does_no_remote : (call : RfenceCall) (answer : Sbiret) → deed_of_call (Rfence call) (Ret answer) ≡ still
    does_no_remote call answer = refl

    -- ---- entries

    -- what the entry of a start does, and what the end of a non-retentive suspend does
    abbrev pub deed_of_entry : (addr opaque : ℕ) → Deed
    deed_of_entry addr opaque = record {
      harts = record still.harts { move = Some (One x states.Started) };
      interrupts = record still.interrupts { sstatus = Some (Here false); sie = Some (Here none_enabled); ssip = Some (Here false); deadline = Some (Here None) };
      memory = record still.memory { satp = Some (Here 0) };
      turn = Quiet;
      counts = record still.counts { entry = Some (More (record { hart = x; addr = addr; opaque = opaque })) };
      reset = None;
    }

    abbrev pub deed_of_resume : Deed
    deed_of_resume = record still {
      harts = record still.harts { move = Some (One x states.Started) };
      interrupts = record still.interrupts { sstatus = Some (Here false) };
      memory = record still.memory { satp = Some (Here 0) };
    }

    pub does_entry : (addr opaque : ℕ) → is_start_pending (state o past x) ≡ true → deed (by_hart x Advance (Entry addr x opaque)) ≡ deed_of_entry addr opaque
    does_entry addr opaque starting = rw starting refl

    pub does_resume : (addr opaque : ℕ) → is_start_pending (state o past x) ≡ false → deed (by_hart x Advance (Entry addr x opaque)) ≡ deed_of_resume
    does_resume addr opaque other = rw other refl
