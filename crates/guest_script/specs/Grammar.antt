-- Scripts as text: which bytes are which script (profile).
use Rattle.std.specs.Prelude.{◌≡◌, ◌⊎◌, ℕ, ◌+◌, ◌≤◌, Bool, true, false, ◌==◌, List, [], ◌∷◌, ◌++◌, length, map, codes, Option, Some, None, unwrap_or}
use Rattle.std.specs.List.{list_any}
use Rattle.std.specs.Str.Lines.{lines}
use Rattle.board_terms.specs.declared.config.Config.{Config}
use Rattle.board_terms.specs.Limits.{first_numbers, numbers_of, usual_asid_len, usual_width}
use Rattle.board_terms.specs.declared.op.Actor.{Actor}
use Rattle.board_terms.specs.declared.op.Actor.TheVariants.{Hart, Clock}
use Rattle.board_terms.specs.declared.op.Op.{Op}
use Rattle.guest_script.specs.declared.reader.TheConstants.{MOST_BYTES}
use Rattle.script_lines.specs.declared.op_name.OpName.TheVariants.{Tick}
use Rattle.script_lines.specs.declared.said.Said.{Said}
use Rattle.script_lines.specs.declared.script.Doing.{Doing}
use Rattle.script_lines.specs.declared.script.Doing.TheVariants as doings
use Rattle.script_lines.specs.declared.script.Block.{Block}
use Rattle.script_lines.specs.declared.script.Body.{Body}
use Rattle.script_lines.specs.declared.script.Body.TheVariants as bodies
use Rattle.script_lines.specs.declared.script.Line.{Line}
use Rattle.script_lines.specs.declared.script.Script.{Script}
use Rattle.script_lines.specs.Names.{op_word}
use Rattle.guest_script.specs.Words.{AreNumbers, IsLine, IsNumber, last_hart, last_number}
use Rattle.guest_script.specs.Forms.{form_of, guest_form_of, IsNamed, IsSaid}

-- ---- what a script says, without where it lies in memory

-- a guest's operations from an address on
pub record Guest : Type 0 where
  pub addr : ℕ
  pub ops : List Op

-- what a script's lines say: nothing, a program's blocks and the clock's ticks, a schedule's lines, or a trace's
pub data Content : Type 0 where
  Empty : Content
  Program : (blocks : List Guest) → (clock : List ℕ) → Content
  Schedule : List Line → Content
  Trace : List Line → Content

-- a board, and what its script's lines say
pub record Written : Type 0 where
  pub config : Config
  -- What a script's lines say.
  pub content : Content

-- A block as the grammar sees it: its address, and its operations in order.
abbrev pub guest : Block → Guest
guest block = record { addr = block.addr; ops = block.ops.items }

abbrev pub content : Body → Content
content bodies.Empty = Empty
content (bodies.Program blocks clock) = Program (map guest blocks.items) clock.items
content (bodies.Schedule lines) = Schedule lines
content (bodies.Trace lines) = Trace lines

-- what a `Script` says
abbrev pub written : Script → Written
written script = record { config = script.config; content = content script.body }

-- ---- one line

-- a hart by its number, or `c` for the clock
abbrev pub IsActor : List ℕ → Actor → Type 0
IsActor word (Hart h) = IsNumber last_hart word h
IsActor word Clock = word ≡ codes "c"

-- an actor, and then what it does
pub record IsStep (words : List (List ℕ)) (actor : Actor) (op : Op) : Type 0 where
  pub first : List ℕ
  pub others : List (List ℕ)
  pub parts : words ≡ first ∷ others
  pub is_actor : IsActor first actor
  pub is_op : IsNamed form_of others op

-- What a line does: the word `cut` alone, or a step by an actor.
abbrev pub IsDoing : List (List ℕ) → Doing → Type 0
IsDoing words (doings.Step actor op) = IsStep words actor op
IsDoing words doings.Cut = words ≡ codes "cut" ∷ []

-- Line n: a step or a cut, and in a trace what it gave, behind the first arrow.
abbrev pub IsStepLine : (n : ℕ) → (in_trace : Bool) → List (List ℕ) → Line → Type 0
IsStepLine n false words line = (line.number ≡ n) × (line.said ≡ None) × IsDoing words line.doing
IsStepLine n true words line =
    (before after : List (List ℕ)) × (said : Said)
    × (line.number ≡ n) × (line.said ≡ Some said) × (words ≡ before ++ codes "->" ∷ after) × IsDoing before line.doing
    × IsSaid after said

-- a name, and one number behind it
abbrev pub IsNumbered : (name : List ℕ) → List (List ℕ) → ℕ → Type 0
IsNumbered name words n = (word : List ℕ) × (words ≡ name ∷ word ∷ []) × IsNumber last_number word n

-- ---- lines one after another

-- the block that is open: a guest's, or the clock's with its ticks
pub data Open : Type 0 where
  OfGuest : Guest → Open
  OfClock : (ticks : List ℕ) → Open

-- A program so far: the blocks before the open one, the clock's ticks where its block was closed, and the open block.
pub record Blocks : Type 0 where
  pub before : List Guest
  pub clock : Option (List ℕ)
  pub current : Open

-- what lines so far say
pub data Draft : Type 0 where
  Nothing : Draft
  Blocked : Blocks → Draft
  Stepped : List Line → Draft
  Traced : List Line → Draft

-- the guests' blocks in their order, with the open one
abbrev pub guests_with : Open → List Guest → List Guest
guests_with (OfGuest guest) before = before ++ guest ∷ []
guests_with (OfClock ticks) before = before

-- the clock's ticks, if it has a block
abbrev pub clock_with : Open → Option (List ℕ) → Option (List ℕ)
clock_with (OfGuest guest) closed = closed
clock_with (OfClock ticks) closed = Some ticks

abbrev pub guests_of : Blocks → List Guest
guests_of p = guests_with p.current p.before

abbrev pub clock_of : Blocks → Option (List ℕ)
clock_of p = clock_with p.current p.clock

-- whether a block begins at an address
abbrev pub has_block : List Guest → (addr : ℕ) → Bool
has_block guests addr = list_any (λ guest. guest.addr == addr) guests

-- a block opened after these
abbrev pub opened : List Guest → Option (List ℕ) → Open → Blocks
opened guests clock current = record { before = guests; clock = clock; current = current }

-- a block without operations
abbrev pub guest_at : (addr : ℕ) → Open
guest_at addr = OfGuest (record { addr = addr; ops = [] })

-- an operation more, or a tick more, in the open block
abbrev pub with_op : Guest → Op → Open
with_op guest op = OfGuest (record { addr = guest.addr; ops = guest.ops ++ op ∷ [] })

abbrev pub with_tick : (ticks : List ℕ) → (n : ℕ) → Open
with_tick ticks n = OfClock (ticks ++ n ∷ [])

-- A block's head: `at` and an address that no block has, or `clock` where the clock has no block.
abbrev pub IsHead : List Guest → Option (List ℕ) → List (List ℕ) → Blocks → Type 0
IsHead guests clock words next =
    ((addr : ℕ) × IsNumbered (codes "at") words addr × (has_block guests addr ≡ false)
    × (next ≡ opened guests clock (guest_at addr)))
    ⊎ ((words ≡ codes "clock" ∷ []) × (clock ≡ None) × (next ≡ opened guests clock (OfClock [])))

-- An operation of the open block: a guest's, or the clock's tick.
abbrev pub IsInBlock : Open → List (List ℕ) → Open → Type 0
IsInBlock (OfGuest guest) words next = (op : Op) × IsNamed guest_form_of words op × (next ≡ with_op guest op)
IsInBlock (OfClock ticks) words next = (n : ℕ) × IsNumbered (op_word Tick) words n × (next ≡ with_tick ticks n)

-- Line n, and what the lines say with it. The first line with words sets the kind: a block's head, a step, or a step with what it gave.
abbrev pub IsNext : (n : ℕ) → Draft → List (List ℕ) → Draft → Type 0
IsNext n Nothing words (Blocked next) = IsHead [] None words next
IsNext n Nothing words (Stepped lines) = (line : Line) × IsStepLine n false words line × (lines ≡ line ∷ [])
IsNext n Nothing words (Traced lines) = (line : Line) × IsStepLine n true words line × (lines ≡ line ∷ [])
IsNext n (Blocked p) words (Blocked next) =
    IsHead (guests_of p) (clock_of p) words next
    ⊎ ((current : Open) × IsInBlock p.current words current × (next ≡ record p { current = current }))
IsNext n (Stepped before) words (Stepped lines) = (line : Line) × IsStepLine n false words line
    × (lines ≡ before ++ line ∷ [])
IsNext n (Traced before) words (Traced lines) = (line : Line) × IsStepLine n true words line
    × (lines ≡ before ++ line ∷ [])
IsNext n draft words next = ⊥

-- The lines from line n on. One without words is passed over.
abbrev pub AreLines : (n : ℕ) → Draft → List (List ℕ) → Draft → Type 0
AreLines n draft [] last = last ≡ draft
AreLines n draft (text ∷ texts) last =
    (IsLine text [] × AreLines (n + 1) draft texts last)
    ⊎ ((words : List (List ℕ)) × (next : Draft) × IsLine text words × IsNext n draft words next
    × AreLines (n + 1) next texts last)

-- what all lines say
abbrev pub content_of : Draft → Content
content_of Nothing = Empty
content_of (Blocked p) = Program (guests_of p) (unwrap_or (clock_of p) [])
content_of (Stepped lines) = Schedule lines
content_of (Traced lines) = Trace lines

-- ---- the script

-- the last two numbers of a board are those that its line may leave out
pub record HasUsualSpaces (c : Config) : Type 0 where
  pub asid_len : c.asid_len ≡ usual_asid_len
  pub width : c.width ≡ usual_width

-- the word `board`, and all eight numbers, or the first six where the last two are the usual ones
pub record IsBoard (words : List (List ℕ)) (config : Config) : Type 0 where
  pub arguments : List (List ℕ)
  pub parts : words ≡ codes "board" ∷ arguments
  pub are_numbers : AreNumbers last_number arguments (numbers_of config)
      ⊎ (AreNumbers last_number arguments (first_numbers config) × HasUsualSpaces config)

-- the first line with words is the board's, and those after it are of one kind
abbrev pub AreScript : (n : ℕ) → List (List ℕ) → Written → Type 0
AreScript n [] s = ⊥
AreScript n (text ∷ texts) s =
    (IsLine text [] × AreScript (n + 1) texts s)
    ⊎ ((words : List (List ℕ)) × (last : Draft) × IsLine text words × IsBoard words s.config
    × AreLines (n + 1) Nothing texts last × (s.content ≡ content_of last))

-- the size of the largest script
abbrev pub most_bytes : ℕ
most_bytes = MOST_BYTES

-- The bytes are this script.
abbrev pub Reads : List ℕ → Written → Type 0
Reads bytes s = (length bytes ≤ most_bytes) × AreScript 1 (lines bytes) s
