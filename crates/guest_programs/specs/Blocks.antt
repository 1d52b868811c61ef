-- Guests whose programs are blocks: lists of operations at the addresses of entries (profile).
use Rattle.std.specs.Prelude.{ℕ, zero, suc, ◌+◌, ◌==◌, if◌then◌else◌, List, [], ◌∷◌, ◌++◌, length, slice_get, Option, Some, None}
use Rattle.board_terms.specs.declared.op.Op.{Op}
use Rattle.board_core.specs.History.{Event}
use Rattle.guest_script.specs.Grammar.{Guest}
use Rattle.guest_programs.specs.declared.block_guests.BlockPlace.{BlockPlace}
use Rattle.guest_programs.specs.declared.block_guests.BlockPlace.TheVariants.{At, Idle}
use Rattle.guest_programs.specs.Guests.{Did, Entered, Next, Rest, did}

-- the operations of the block at an address; empty if there is no such block
abbrev pub block_at : List Guest → ℕ → List Op
block_at [] addr = []
block_at (block ∷ blocks) addr = if block.addr == addr then block.ops else block_at blocks addr

-- What such guests do: the next operation is the one in the entry's block that follows as many as were done since the
-- entry.
abbrev pub in_blocks : List Guest → Next
in_blocks blocks = λ entry before. slice_get (block_at blocks entry.addr) (length before)

-- ---- the same in terms of whole blocks

-- The whole block of an entry's address; empty without an entry or such a block.
abbrev pub block_of : List Guest → Option Entered → List Op
block_of blocks None = []
block_of blocks (Some entry) = block_at blocks entry.addr

-- these operations, oldest first
abbrev pub ops_in : Did → List Op
ops_in [] = []
ops_in (one ∷ before) = ops_in before ++ one.0 ∷ []

-- The operations of the guest of hart h since its last entry, in order.
abbrev pub done : List Event → ℕ → List Op
done past h = ops_in (did past h)

-- ---- how far a guest is

-- the operations of the block of this index; empty if there is none
abbrev pub ops_at : List Guest → ℕ → List Op
ops_at [] k = []
ops_at (block ∷ blocks) zero = block.ops
ops_at (block ∷ blocks) (suc k) = ops_at blocks k

abbrev pub ops_found : List Guest → Option ℕ → List Op
ops_found blocks None = []
ops_found blocks (Some k) = ops_at blocks k

-- What a guest of blocks does from a place on: the rest of its block.
abbrev pub rest_in : List Guest → BlockPlace → Rest
rest_in blocks Idle = λ more. None
rest_in blocks (At block op) = λ more. slice_get (ops_at blocks block) (op + length more)

-- The words of a place: 0 if it is in no block, else 1 and the indices of the block and the operation.
abbrev pub place_words : BlockPlace → List ℕ
place_words Idle = 0 ∷ []
place_words (At block op) = 1 ∷ block ∷ op ∷ []
