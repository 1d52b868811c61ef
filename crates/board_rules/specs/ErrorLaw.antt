-- A call that returns an error changes only the history (profile).
use Rattle.std.specs.Prelude.{◌≡◌, ℕ, List, Bool, false, not}
use Rattle.sbi_abi.specs.Errors.{is_success}
use Rattle.rfence.specs.Calls as calls
use Rattle.rfence.specs.Waiting as queues
use Rattle.board_rules.specs.Opening.{Opening}
use Rattle.board_rules.specs.History.{Event}
use Rattle.board_terms.specs.declared.reply.Reply.{Reply}
use Rattle.board_terms.specs.declared.reply.Reply.TheVariants.{Ret}
use Rattle.board_rules.specs.Csrs as csrs
use Rattle.board_rules.specs.Fences as fences
use Rattle.board_rules.specs.Interrupts as interrupts
use Rattle.board_rules.specs.Memory as memory
use Rattle.board_rules.specs.Need.{need}
use Rattle.board_rules.specs.Resets as resets
use Rattle.board_rules.specs.Starts as starts
use Rattle.board_rules.specs.States as states
use Rattle.board_rules.specs.Totals as counts

-- whether a call returns with an error (SBI 3)
abbrev pub is_error : Reply → Bool
is_error (Ret answer) = not (is_success answer)
is_error reply = false

-- On both pasts each look-up of a board gives the same, except the history, the number of its events, and refusals of a
-- full history.
pub record LooksSame (o : Opening) (past later : List Event) : Type 0 where
  pub state : (h : ℕ) → states.state o later h ≡ states.state o past h
  pub kept : (h : ℕ) → starts.kept o later h ≡ starts.kept o past h
  pub sstatus_sie : (h : ℕ) → csrs.sstatus_sie o later h ≡ csrs.sstatus_sie o past h
  pub sie : (h : ℕ) → csrs.sie o later h ≡ csrs.sie o past h
  pub ssip : (h : ℕ) → interrupts.ssip o later h ≡ interrupts.ssip o past h
  pub stip : (h : ℕ) → interrupts.stip o later h ≡ interrupts.stip o past h
  pub wake : (h : ℕ) → interrupts.wake o later h ≡ interrupts.wake o past h
  pub deadline : (h : ℕ) → interrupts.deadline o later h ≡ interrupts.deadline o past h
  pub satp : (h : ℕ) → memory.satp o later h ≡ memory.satp o past h
  pub word : (at : ℕ) → memory.memory o later at ≡ memory.memory o past at
  pub tlb : (h : ℕ) → (memory.caches_of o later h).tlb.live ≡ (memory.caches_of o past h).tlb.live
  pub fetched : (h : ℕ) → (memory.caches_of o later h).words.live ≡ (memory.caches_of o past h).words.live
  pub waiting : (h : ℕ) → fences.waiting o later h ≡ fences.waiting o past h
  pub outstanding : (h : ℕ) → fences.outstanding o later h ≡ fences.outstanding o past h
  -- the waiting fences and the open call, with the places at which they were asked
  pub asked : (h : ℕ) → queues.waiting o.fences (fences.turns o later) h ≡ queues.waiting o.fences (fences.turns o past) h
  pub call : (h : ℕ) → calls.open_call o.fences (fences.turns o later) h ≡ calls.open_call o.fences (fences.turns o past) h
  pub need : (h t : ℕ) → need o later h t ≡ need o past h t
  pub last_reset : resets.last_reset o later ≡ resets.last_reset o past
  pub time : interrupts.time o later ≡ interrupts.time o past
  pub totals : counts.totals o later ≡ counts.totals o past
