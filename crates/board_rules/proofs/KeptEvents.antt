-- An event that is kept says what it was made of.
use Rattle.std.proofs.Common.{◌≡◌, ℕ, Option, refl, sym, ap, ◌∙◌}
use Rattle.std.proofs.lemmas.Bool.{lt-ltb}
use Rattle.amo.specs.declared.amo.Amo.{Amo}
use Rattle.amo.specs.declared.amo.Amo.TheVariants as amos
use Rattle.amo.specs.Names.{amo_first, made_of, amo_name, amo_second}
use Rattle.tlb_model.specs.Entries.{Entry}
use Rattle.board_terms.specs.declared.op.Actor.{Actor}
use Rattle.board_terms.specs.declared.op.Actor.TheVariants.{Hart, Clock}
use Rattle.board_terms.specs.declared.op.Op.{Op}
use Rattle.board_terms.specs.declared.op.Op.TheVariants as ops
use Rattle.board_terms.specs.declared.reply.Reply.{Reply}
use Rattle.board_terms.specs.declared.reply.Reply.TheVariants as replies
use Rattle.board_rules.specs.declared.keeping.Head.{Head}
use Rattle.board_rules.specs.declared.keeping.What.{What}
use Rattle.board_rules.specs.History.{access_of, entry_of}
use Rattle.board_rules.specs.Inside.Keeping.{IsKeptWell, actor_in, actor_of, first_in, head_in, head_of, op_in, opaque_in, opaque_of, reply_in, reply_of, said_of, used_in, what_of, what_of_event}
use Rattle.board_rules.specs.Room.{FitsBeside, IsByte, IsShort, by_of, first_of}

actor_again : (a : Actor) → IsByte a → actor_of (by_of a) ≡ a
actor_again (Hart h) short = rw (lt-ltb h 255 short) refl
actor_again Clock short = refl

-- an operation by its name and its numbers
amo_again : (amo : Amo) → made_of (amo_name amo) (amo_first amo) (amo_second amo) ≡ amo
amo_again (amos.Double function operand) = refl
amo_again (amos.Half function operand) = refl
amo_again (amos.Cas expected value) = refl
amo_again (amos.Store1 value) = refl
amo_again (amos.Store2 value) = refl
amo_again (amos.Store4 value) = refl

module _ (head : Head) (used : Option Entry) (first opaque : ℕ) where
  head_again : (op : Op) → head_in (what_of head op used first opaque) ≡ head
  head_again (ops.Ecall regs) = refl
  head_again (ops.Load va) = refl
  head_again (ops.Store va value) = refl
  head_again (ops.Fetch va) = refl
  head_again (ops.Amo at amo) = refl
  head_again (ops.WriteSatp value) = refl
  head_again (ops.WriteSie value) = refl
  head_again (ops.WriteSstatusSie value) = refl
  head_again ops.ReadSip = refl
  head_again ops.ClearSsip = refl
  head_again ops.Wfi = refl
  head_again (ops.Sfence va asid) = refl
  head_again ops.FenceI = refl
  head_again ops.Poll = refl
  head_again ops.Serve = refl
  head_again ops.Advance = refl
  head_again (ops.Tick n) = refl

  op_again : (op : Op) → op_in (what_of head op used first opaque) ≡ op
  op_again (ops.Ecall regs) = refl
  op_again (ops.Load va) = refl
  op_again (ops.Store va value) = refl
  op_again (ops.Fetch va) = refl
  op_again (ops.Amo at amo) = ap (λ (made : Amo). ops.Amo at made) (amo_again amo)
  op_again (ops.WriteSatp value) = refl
  op_again (ops.WriteSie value) = refl
  op_again (ops.WriteSstatusSie value) = refl
  op_again ops.ReadSip = refl
  op_again ops.ClearSsip = refl
  op_again ops.Wfi = refl
  op_again (ops.Sfence va asid) = refl
  op_again ops.FenceI = refl
  op_again ops.Poll = refl
  op_again ops.Serve = refl
  op_again ops.Advance = refl
  op_again (ops.Tick n) = refl

  used_again : (op : Op) → used_in (what_of head op used first opaque) ≡ entry_of (access_of op) used
  used_again (ops.Ecall regs) = refl
  used_again (ops.Load va) = refl
  used_again (ops.Store va value) = refl
  used_again (ops.Fetch va) = refl
  used_again (ops.Amo at amo) = refl
  used_again (ops.WriteSatp value) = refl
  used_again (ops.WriteSie value) = refl
  used_again (ops.WriteSstatusSie value) = refl
  used_again ops.ReadSip = refl
  used_again ops.ClearSsip = refl
  used_again ops.Wfi = refl
  used_again (ops.Sfence va asid) = refl
  used_again ops.FenceI = refl
  used_again ops.Poll = refl
  used_again ops.Serve = refl
  used_again ops.Advance = refl
  used_again (ops.Tick n) = refl

  -- an entry that isn't kept makes no difference
  entry_again : (op : Op) → what_of head op (entry_of (access_of op) used) first opaque ≡ what_of head op used first opaque
  entry_again (ops.Ecall regs) = refl
  entry_again (ops.Load va) = refl
  entry_again (ops.Store va value) = refl
  entry_again (ops.Fetch va) = refl
  entry_again (ops.Amo at amo) = refl
  entry_again (ops.WriteSatp value) = refl
  entry_again (ops.WriteSie value) = refl
  entry_again (ops.WriteSstatusSie value) = refl
  entry_again ops.ReadSip = refl
  entry_again ops.ClearSsip = refl
  entry_again ops.Wfi = refl
  entry_again (ops.Sfence va asid) = refl
  entry_again ops.FenceI = refl
  entry_again ops.Poll = refl
  entry_again ops.Serve = refl
  entry_again ops.Advance = refl
  entry_again (ops.Tick n) = refl

  first_again : (op : Op) → FitsBeside op first → first_in (what_of head op used first opaque) ≡ first
  first_again (ops.Ecall regs) fits = refl
  first_again (ops.Load va) fits = refl
  first_again (ops.Store va value) fits = sym fits
  first_again (ops.Fetch va) fits = refl
  first_again (ops.Amo at amo) fits = refl
  first_again (ops.WriteSatp value) fits = sym fits
  first_again (ops.WriteSie value) fits = sym fits
  first_again (ops.WriteSstatusSie value) fits = sym fits
  first_again ops.ReadSip fits = refl
  first_again ops.ClearSsip fits = sym fits
  first_again ops.Wfi fits = sym fits
  first_again (ops.Sfence va asid) fits = sym fits
  first_again ops.FenceI fits = sym fits
  first_again ops.Poll fits = sym fits
  first_again ops.Serve fits = sym fits
  first_again ops.Advance fits = refl
  first_again (ops.Tick n) fits = sym fits

-- an operation with its answer, as it is kept
module _ (a : Actor) (op : Op) (used : Option Entry) where
  abbrev kept : Reply → What
  kept r = what_of_event a op r used

  pub actor_kept : (r : Reply) → IsByte a → actor_in (kept r) ≡ a
  actor_kept r short = ap (λ (head : Head). actor_of head.by) (head_again (head_of a r) used (first_of r) (opaque_of r) op) ∙ actor_again a short

  -- the reply by its head and its first number, which is all of it where it is no entry
  by_head : (r : Reply) → FitsBeside op (first_of r) → reply_in (kept r) ≡ reply_of (said_of r) (by_of a) (first_of r) (opaque_in (kept r))
  by_head r fits = rw (head_again (head_of a r) used (first_of r) (opaque_of r) op, first_again (head_of a r) used (first_of r) (opaque_of r) op fits) refl

  pub reply_kept : (r : Reply) → IsShort a op r → reply_in (kept r) ≡ r
  reply_kept (replies.Entry addr hart opaque) short = rw short.entry.0 (rw short.entry.1 refl)
  reply_kept (replies.Ret ret) short = by_head (replies.Ret ret) short.first
  reply_kept replies.Waiting short = by_head replies.Waiting short.first
  reply_kept replies.Gone short = by_head replies.Gone short.first
  reply_kept (replies.Value value) short = by_head (replies.Value value) short.first
  reply_kept (replies.Fault cause) short = by_head (replies.Fault cause) short.first
  reply_kept replies.Served short = by_head replies.Served short.first
  reply_kept (replies.Moved state) short = by_head (replies.Moved state) short.first
  reply_kept replies.Done short = by_head replies.Done short.first

  pub used_kept : (r : Reply) → used_in (kept r) ≡ entry_of (access_of op) used
  used_kept r = used_again (head_of a r) used (first_of r) (opaque_of r) op

  pub op_kept : (r : Reply) → op_in (kept r) ≡ op
  op_kept r = op_again (head_of a r) used (first_of r) (opaque_of r) op

  pub kept_well : (r : Reply) → IsShort a op r → IsKeptWell (kept r)
  kept_well r short = rw (actor_kept r short.hart, reply_kept r short, op_kept r, used_kept r) (entry_again (head_of a r) used (first_of r) (opaque_of r) op)
