-- Worked rows, computed from the definitions.
use Rattle.std.proofs.Common.{◌≡◌, ℕ, true, false, List, [], ◌∷◌, refl, pos, negsuc}
use Rattle.std.specs.Prelude.{Result, Ok, Err}
use Rattle.sbi_abi.specs.Calls.{call_of}
use Rattle.sbi_abi.specs.SuspendTypes.{suspend_kind_of}
use Rattle.hart_mask.specs.HartList.{names_stray, targets_of}
use Rattle.hart_mask.specs.Ids.{ids_where}
use Rattle.hsm.specs.declared.hart.HartState.TheVariants.{Stopped, Suspended}
use Rattle.board_terms.specs.declared.op.Actor.{Actor}
use Rattle.board_terms.specs.declared.op.Actor.TheVariants.{Hart, Clock}
use Rattle.board_terms.specs.declared.op.Op.{Op}
use Rattle.board_terms.specs.declared.op.Op.TheVariants.{Advance, ClearSsip, Ecall, Poll, ReadSip, Serve, Tick, WriteSie, WriteSstatusSie}
use Rattle.board_terms.specs.declared.reply.Refusal.{Refusal}
use Rattle.board_terms.specs.declared.reply.Refusal.TheVariants.{Nothing, TimeFull, WrongPhase}
use Rattle.board_terms.specs.declared.reply.Reply.{Reply}
use Rattle.board_terms.specs.declared.reply.Reply.TheVariants.{Done, Entry, Gone, Moved, Ret, Served, Value, Waiting}
use Rattle.board_rules.specs.Course.{Course}
use Rattle.board_rules.specs.Opening.{opening_at}
use Rattle.board_rules.specs.Replies.{answer, stepped}

-- what a list of steps is answered, from a course on
abbrev answers : Course → List (Actor × Op) → List (Result Reply Refusal)
answers b [] = []
answers b (step ∷ steps) = answer b.opening b.past step.0 step.1 ∷ answers (stepped b step.0 step.1) steps

abbrev opened : (harts : ℕ) → Course
opened harts = record {
  opening = opening_at (record { harts = harts; pages = 16; limit = 1000; boot_hart = 0; boot_addr = 0x80000000; boot_opaque = 0; asid_len = 16; width = 39 });
  past = [];
}

-- a call of an extension's function with three arguments
abbrev calls : (eid fid a b c : ℕ) → Op
calls eid fid a b c = Ecall (record { eid = eid; fid = fid; a = a ∷ b ∷ c ∷ 0 ∷ 0 ∷ 0 ∷ [] })

abbrev hsm : (fid a b c : ℕ) → Op
hsm = calls 0x48534d

abbrev returns : ℕ → Result Reply Refusal
returns value = Ok (Ret (record { error = pos 0; value = value }))

-- the error below zero: minus 1 is `fails 0`
abbrev fails : ℕ → Result Reply Refusal
fails n = Ok (Ret (record { error = negsuc n; value = 0 }))

double-start : answers (opened 3)
    ((Hart 0, Advance)
    ∷ (Hart 0, hsm 0 1 0x80001000 7)
    ∷ (Hart 0, hsm 0 1 0x80002000 8)
    ∷ (Hart 1, Advance)
    ∷ [])
    ≡ Ok (Entry 0x80000000 0 0) ∷ returns 0 ∷ fails 5 ∷ Ok (Entry 0x80001000 1 7) ∷ []
unfolding call_of
double-start = refl

hart-lifecycle : answers (opened 2)
    ((Hart 0, Advance)
    ∷ (Hart 0, hsm 2 1 0 0)
    ∷ (Hart 0, hsm 0 1 0x80000000 9)
    ∷ (Hart 1, Advance)
    ∷ (Hart 1, WriteSstatusSie true)
    ∷ (Hart 1, hsm 1 0 0 0)
    ∷ (Hart 1, WriteSstatusSie false)
    ∷ (Hart 1, hsm 1 0 0 0)
    ∷ (Hart 0, hsm 2 1 0 0)
    ∷ (Hart 1, Advance)
    ∷ (Hart 0, hsm 2 1 0 0)
    ∷ [])
    ≡ Ok (Entry 0x80000000 0 0)
    ∷ returns 1
    ∷ returns 0
    ∷ Ok (Entry 0x80000000 1 9)
    ∷ Ok Done
    ∷ fails 0
    ∷ Ok Done
    ∷ Ok Gone
    ∷ returns 3
    ∷ Ok (Moved Stopped)
    ∷ returns 1
    ∷ []
unfolding call_of
hart-lifecycle = refl

timer-edges : answers (opened 1)
    ((Hart 0, Advance)
    ∷ (Hart 0, calls 0x54494d45 0 10 0 0)
    ∷ (Clock, Tick 9)
    ∷ (Hart 0, ReadSip)
    ∷ (Clock, Tick 1)
    ∷ (Hart 0, ReadSip)
    ∷ (Hart 0, calls 0x54494d45 0 0xffffffffffffffff 0 0)
    ∷ (Hart 0, ReadSip)
    ∷ (Clock, Tick 0xfffffffffffffff4)
    ∷ (Hart 0, ReadSip)
    ∷ (Clock, Tick 1)
    ∷ [])
    ≡ Ok (Entry 0x80000000 0 0)
    ∷ returns 0
    ∷ Ok Done
    ∷ Ok (Value 0)
    ∷ Ok Done
    ∷ Ok (Value 32)
    ∷ returns 0
    ∷ Ok (Value 0)
    ∷ Ok Done
    ∷ Ok (Value 0)
    ∷ Err TimeFull
    ∷ []
unfolding call_of
timer-edges = refl

suspend-wake : answers (opened 2)
    ((Hart 0, Advance)
    ∷ (Hart 0, WriteSie 2)
    ∷ (Hart 0, hsm 3 1 0 0)
    ∷ (Hart 0, hsm 3 0x10000000 0 0)
    ∷ (Hart 0, hsm 3 0xffffffff80000000 0x80003000 0x55)
    ∷ (Hart 0, Advance)
    ∷ (Hart 0, Advance)
    ∷ [])
    ≡ Ok (Entry 0x80000000 0 0)
    ∷ Ok Done
    ∷ fails 2
    ∷ fails 1
    ∷ Ok Gone
    ∷ Ok (Moved Suspended)
    ∷ Err Nothing
    ∷ []
unfolding call_of suspend_kind_of
suspend-wake = refl

-- harts 0 and 1 are STARTED, and hart 2 is STOPPED, which an IPI skips
ipi-mask : answers (opened 3)
    ((Hart 0, Advance)
    ∷ (Hart 0, hsm 0 1 0x80000000 0)
    ∷ (Hart 1, Advance)
    ∷ (Hart 1, calls 0x735049 0 0x5 0 0)
    ∷ (Hart 0, ReadSip)
    ∷ (Hart 1, ReadSip)
    ∷ (Hart 0, ClearSsip)
    ∷ (Hart 1, calls 0x735049 0 0x9 0 0)
    ∷ (Hart 0, ReadSip)
    ∷ [])
    ≡ Ok (Entry 0x80000000 0 0)
    ∷ returns 0
    ∷ Ok (Entry 0x80000000 1 0)
    ∷ returns 0
    ∷ Ok (Value 2)
    ∷ Ok (Value 0)
    ∷ Ok Done
    ∷ fails 2
    ∷ Ok (Value 0)
    ∷ []
unfolding call_of targets_of names_stray ids_where
ipi-mask = refl

-- a remote fence of the harts of a mask, with base 0
abbrev fences : (fid mask start size : ℕ) → Op
fences fid mask start size = Ecall (record { eid = 0x52464e43; fid = fid; a = mask ∷ 0 ∷ start ∷ size ∷ 0 ∷ 0 ∷ [] })

crossing-fences : answers (opened 2)
    ((Hart 0, Advance)
    ∷ (Hart 0, hsm 0 1 0x80000000 0)
    ∷ (Hart 1, Advance)
    ∷ (Hart 0, fences 1 0x2 0 0)
    ∷ (Hart 1, fences 1 0x1 0 0)
    ∷ (Hart 0, Poll)
    ∷ (Hart 0, ReadSip)
    ∷ (Hart 0, Serve)
    ∷ (Hart 1, Serve)
    ∷ (Hart 0, Poll)
    ∷ (Hart 1, Poll)
    ∷ (Hart 1, Serve)
    ∷ (Hart 1, Poll)
    ∷ [])
    ≡ Ok (Entry 0x80000000 0 0)
    ∷ returns 0
    ∷ Ok (Entry 0x80000000 1 0)
    ∷ Ok Waiting
    ∷ Ok Waiting
    ∷ Err Nothing
    ∷ Err WrongPhase
    ∷ Ok Served
    ∷ Ok Served
    ∷ returns 0
    ∷ returns 0
    ∷ Err Nothing
    ∷ Err WrongPhase
    ∷ []
unfolding call_of targets_of names_stray ids_where
crossing-fences = refl

range-edges : answers (opened 1)
    ((Hart 0, Advance)
    ∷ (Hart 0, fences 1 0x1 0xfffffffffffff000 0x1000)
    ∷ (Hart 0, Poll)
    ∷ (Hart 0, fences 1 0x1 0xfffffffffffff000 0x1001)
    ∷ (Hart 0, fences 1 0x1 0xfffffffffffff000 0xffffffffffffffff)
    ∷ (Hart 0, Poll)
    ∷ (Hart 0, fences 1 0x8 0xfffffffffffff000 0x1001)
    ∷ (Hart 0, fences 0 0x1 0xfffffffffffff000 0x1001)
    ∷ (Hart 0, Poll)
    ∷ (Hart 0, fences 3 0x1 0 0)
    ∷ (Hart 0, fences 1 0 0 0)
    ∷ (Hart 0, Poll)
    ∷ [])
    ≡ Ok (Entry 0x80000000 0 0)
    ∷ Ok Waiting
    ∷ returns 0
    ∷ fails 4
    ∷ Ok Waiting
    ∷ returns 0
    ∷ fails 2
    ∷ Ok Waiting
    ∷ returns 0
    ∷ fails 1
    ∷ Ok Waiting
    ∷ returns 0
    ∷ []
unfolding call_of targets_of names_stray ids_where
range-edges = refl

stop-discharges : answers (opened 2)
    ((Hart 0, Advance)
    ∷ (Hart 0, hsm 0 1 0x80000000 0)
    ∷ (Hart 1, Advance)
    ∷ (Hart 0, fences 1 0x2 0 0)
    ∷ (Hart 1, WriteSstatusSie true)
    ∷ (Hart 1, hsm 1 0 0 0)
    ∷ (Hart 0, Poll)
    ∷ (Hart 1, WriteSstatusSie false)
    ∷ (Hart 1, hsm 1 0 0 0)
    ∷ (Hart 1, Serve)
    ∷ (Hart 0, Poll)
    ∷ (Hart 1, Advance)
    ∷ (Hart 0, hsm 0 1 0x80000000 0)
    ∷ (Hart 1, Advance)
    ∷ (Hart 1, Serve)
    ∷ [])
    ≡ Ok (Entry 0x80000000 0 0)
    ∷ returns 0
    ∷ Ok (Entry 0x80000000 1 0)
    ∷ Ok Waiting
    ∷ Ok Done
    ∷ fails 0
    ∷ Err Nothing
    ∷ Ok Done
    ∷ Ok Gone
    ∷ Err WrongPhase
    ∷ returns 0
    ∷ Ok (Moved Stopped)
    ∷ returns 0
    ∷ Ok (Entry 0x80000000 1 0)
    ∷ Err Nothing
    ∷ []
unfolding call_of targets_of names_stray ids_where
stop-discharges = refl

-- hart 2 is START_PENDING, which a fence skips
start-pending-skipped : answers (opened 3)
    ((Hart 0, Advance)
    ∷ (Hart 0, hsm 0 1 0x80000000 0)
    ∷ (Hart 1, Advance)
    ∷ (Hart 0, hsm 0 2 0x80000000 0)
    ∷ (Hart 0, fences 1 0x7 0 0)
    ∷ (Hart 2, Advance)
    ∷ (Hart 2, Serve)
    ∷ (Hart 0, Poll)
    ∷ (Hart 1, Serve)
    ∷ (Hart 0, Poll)
    ∷ [])
    ≡ Ok (Entry 0x80000000 0 0)
    ∷ returns 0
    ∷ Ok (Entry 0x80000000 1 0)
    ∷ returns 0
    ∷ Ok Waiting
    ∷ Ok (Entry 0x80000000 2 0)
    ∷ Err Nothing
    ∷ Err Nothing
    ∷ Ok Served
    ∷ returns 0
    ∷ []
unfolding call_of targets_of names_stray ids_where
start-pending-skipped = refl
