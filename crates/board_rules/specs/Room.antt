-- The limits of what an event can store: it packs its actor and reply into less room than they take side by side
-- (profile).
use Rattle.std.specs.Prelude.{◌≡◌, ◌<◌, ◌^◌, FitsSigned, ℕ}
use Rattle.std.specs.Int.{w8}
use Rattle.board_terms.specs.declared.op.Actor.{Actor}
use Rattle.board_terms.specs.declared.op.Actor.TheVariants.{Hart, Clock}
use Rattle.board_terms.specs.declared.op.Op.{Op}
use Rattle.board_terms.specs.declared.op.Op.TheVariants as ops
use Rattle.board_terms.specs.declared.reply.Reply.{Reply}
use Rattle.board_terms.specs.declared.reply.Reply.TheVariants as replies

-- an actor fits into a byte: a hart's number is below the clock's
abbrev pub IsByte : Actor → Type 0
IsByte (Hart h) = h < 255
IsByte Clock = Unit {0}

-- an actor as a byte
abbrev pub by_of : Actor → ℕ
by_of (Hart h) = h
by_of Clock = 255

-- a reply's error code fits into a byte
abbrev pub IsByteError : Reply → Type 0
IsByteError (replies.Ret ret) = FitsSigned w8 ret.error
IsByteError reply = Unit {0}

-- an entry is the reply to an advance, and names the hart that made it
abbrev pub IsOwnEntry : Actor → Op → Reply → Type 0
IsOwnEntry actor op (replies.Entry addr hart opaque) = (op ≡ ops.Advance) × (hart ≡ by_of actor)
IsOwnEntry actor op reply = Unit {0}

-- the first 64-bit number of a reply, or 0 if it has none
abbrev pub first_of : Reply → ℕ
first_of (replies.Ret ret) = ret.value
first_of (replies.Entry addr hart opaque) = addr
first_of (replies.Value value) = value
first_of reply = 0

-- the first number of a reply fits beside its operation: 32 bits beside a call, and any number beside an operation
-- whose reply has a value or an entry
abbrev pub FitsBeside : Op → (first : ℕ) → Type 0
FitsBeside (ops.Ecall regs) first = first < 2 ^ 32
FitsBeside (ops.Load va) first = Unit {0}
FitsBeside (ops.Fetch va) first = Unit {0}
FitsBeside (ops.Amo at amo) first = Unit {0}
FitsBeside ops.ReadSip first = Unit {0}
FitsBeside ops.Advance first = Unit {0}
FitsBeside op first = first ≡ 0

-- an event has room for these
pub record IsShort (actor : Actor) (op : Op) (reply : Reply) : Type 0 where
  pub hart : IsByte actor
  pub error : IsByteError reply
  pub entry : IsOwnEntry actor op reply
  pub first : FitsBeside op (first_of reply)
