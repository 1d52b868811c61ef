-- The resting seats that an event wakes (profile).
use Rattle.std.specs.Prelude.{ℕ, Bool, ◌&&◌, ◌||◌, if◌then◌else◌, nat_lt, List, [], length, Option, Some, None}
use Rattle.sbi_abi.specs.declared.call.Call.{Call}
use Rattle.sbi_abi.specs.declared.call.Call.TheVariants as calls
use Rattle.sbi_abi.specs.declared.call.hsm.HsmCall.{HsmCall}
use Rattle.sbi_abi.specs.declared.call.hsm.HsmCall.TheVariants.{HartStart, HartStop, HartGetStatus, HartSuspend}
use Rattle.sbi_abi.specs.declared.call.ipi.IpiCall.{IpiCall}
use Rattle.sbi_abi.specs.declared.call.ipi.IpiCall.TheVariants.{SendIpi}
use Rattle.sbi_abi.specs.declared.call.rfence.RfenceCall.{RfenceCall}
use Rattle.sbi_abi.specs.declared.call.rfence.RfenceCall.TheVariants.{RemoteFenceI, RemoteSfenceVma, RemoteSfenceVmaAsid}
use Rattle.sbi_abi.specs.Calls.{call_of}
use Rattle.hart_mask.specs.HartList.{targets_of}
use Rattle.hart_mask.specs.Ids.{has, ids_below, ids_where, with_id}
use Rattle.board_terms.specs.declared.op.Op.{Op}
use Rattle.board_terms.specs.declared.op.Op.TheVariants.{Ecall, Serve, Tick}
use Rattle.board_core.specs.Course.{Course}
use Rattle.board_core.specs.Fences.{outstanding, waiting}
use Rattle.board_core.specs.Interrupts.{wake}
use Rattle.board_core.specs.States.{state}
use Rattle.board_lock.specs.Coming.{has_come}
use Rattle.board_lock.specs.Inside.Rests.{Held}
use Rattle.board_lock.specs.declared.rests.Awaits.TheVariants.{Firmware, Wake}
use Rattle.board_lock.specs.declared.rests.Woken.{Woken}
use Rattle.board_lock.specs.declared.views.HartNow.{HartNow}

abbrev pub all_or_none : Option (List ℕ) → List ℕ
all_or_none (Some ids) = ids
all_or_none None = []

-- the harts that a hart list names; none if it is invalid
abbrev pub named : (harts mask base : ℕ) → List ℕ
named harts mask base = all_or_none (targets_of mask base harts)

-- the set of only this hart; empty if there is no such hart
abbrev pub alone : (harts h : ℕ) → List ℕ
alone harts h = if nat_lt h harts then with_id [] h else []

-- the harts that a remote fence names
abbrev pub named_by : (harts : ℕ) → RfenceCall → List ℕ
named_by harts (RemoteFenceI mask base) = named harts mask base
named_by harts (RemoteSfenceVma mask base start size) = named harts mask base
named_by harts (RemoteSfenceVmaAsid mask base start size asid) = named harts mask base

abbrev pub concerned_by_hsm : (harts : ℕ) → HsmCall → List ℕ
concerned_by_hsm harts (HartStart h addr opaque) = alone harts h
concerned_by_hsm harts HartStop = ids_below harts
concerned_by_hsm harts (HartGetStatus h) = []
concerned_by_hsm harts (HartSuspend kind addr opaque) = []

abbrev pub concerned_by_ipi : (harts : ℕ) → IpiCall → List ℕ
concerned_by_ipi harts (SendIpi mask base) = named harts mask base

-- The harts, of so many, whose seats a call may concern, besides its caller's: of an IPI and a fence those that it
-- names, of a start the target, and of a stop and a reset all.
abbrev pub concerned_by : (harts : ℕ) → Call → List ℕ
concerned_by harts (calls.Ipi call) = concerned_by_ipi harts call
concerned_by harts (calls.Rfence call) = named_by harts call
concerned_by harts (calls.Hsm call) = concerned_by_hsm harts call
concerned_by harts (calls.Srst call) = ids_below harts
concerned_by harts call = []

-- The harts whose seats an operation may concern, besides its actor's: of a call those above, and of a serve and a tick
-- all.
abbrev pub concerned : (harts : ℕ) → Op → List ℕ
concerned harts (Ecall regs) = concerned_by harts (call_of regs)
concerned harts Serve = ids_below harts
concerned harts (Tick n) = ids_below harts
concerned harts op = []

-- hart h as it is now
abbrev pub now_of : Course → ℕ → HartNow
now_of b h = record {
  state = state b.opening b.past h;
  outstanding = outstanding b.opening b.past h;
  waiting = length (waiting b.opening b.past h);
  wake = wake b.opening b.past h;
}

-- whether what hart h's seat waits for has come; it waits for work for its firmware
abbrev pub comes_to : Held → ℕ → Bool
comes_to d h = has_come (if has d.rests.wakes h then Wake else Firmware) (now_of d.board h)

-- The resting seats that an event of this operation wakes: those whose rest any event ends, and those that wait for
-- work for their firmware, may be concerned, and now have it.
abbrev pub woken : Held → Op → Woken
woken d op = record {
  harts = ids_where (λ h. has d.rests.harts h
      && (has d.rests.events h ||
      (has d.rests.firmware h && (has (concerned d.board.opening.config.harts op) h && comes_to d h))));
  clock = d.rests.clock && d.rests.clock_events;
}
