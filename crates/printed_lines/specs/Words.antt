-- The printed lines as words, separated by one blank (profile).
use Rattle.std.specs.Prelude.{ℕ, List, [], ◌∷◌, ◌++◌, map, codes, decimal, Bool, false, if◌then◌else◌, Option, Some, None, Result}
use Rattle.std.specs.Fmt.{digits, signed_decimal}
use Rattle.std.specs.List.{join_with_byte}
use Rattle.amo.specs.Amos.{numbers}
use Rattle.board_terms.specs.declared.config.Config.{Config}
use Rattle.board_terms.specs.declared.op.Actor.{Actor}
use Rattle.board_terms.specs.declared.op.Actor.TheVariants.{Hart, Clock}
use Rattle.board_terms.specs.declared.op.Op.{Op}
use Rattle.board_terms.specs.declared.op.Op.TheVariants.{Ecall, Load, Store, Fetch, WriteSatp, WriteSie, WriteSstatusSie, ReadSip, ClearSsip, Sfence, FenceI, Wfi, Amo, Poll, Serve, Advance, Tick}
use Rattle.board_terms.specs.declared.reply.Refusal.{Refusal}
use Rattle.board_terms.specs.declared.reply.Reply.{Reply}
use Rattle.board_terms.specs.Limits.{has_usual_spaces}
use Rattle.script_lines.specs.declared.said.Said.{Said}
use Rattle.script_lines.specs.declared.said.Said.TheVariants as says
use Rattle.script_lines.specs.declared.script.Doing.{Doing}
use Rattle.script_lines.specs.declared.script.Doing.TheVariants.{Step, Cut}
use Rattle.script_lines.specs.Agreeing.{said_of}
use Rattle.script_lines.specs.Names.{name_of, name_of_said, op_word, said_word}

-- `0x` and lower case hexadecimal digits with no leading zero
abbrev pub hex : ℕ → List ℕ
hex n = codes "0x" ++ digits 16 false n

-- a bit: 1 for true
abbrev pub bit_of : Bool → ℕ
bit_of value = if value then 1 else 0

abbrev pub actor_word : Actor → List ℕ
actor_word (Hart h) = decimal h
actor_word Clock = codes "c"

-- a number, or a dash if it is absent
abbrev pub hex_or_dash : Option ℕ → List ℕ
hex_or_dash (Some n) = hex n
hex_or_dash None = codes "-"

-- the words after an operation's name
abbrev pub argument_words : Op → List (List ℕ)
argument_words (Ecall regs) = hex regs.eid ∷ hex regs.fid ∷ map hex regs.a
argument_words (Load va) = hex va ∷ []
argument_words (Store va value) = hex va ∷ hex value ∷ []
argument_words (Fetch va) = hex va ∷ []
argument_words (Amo at amo) = hex at ∷ map hex (numbers amo)
argument_words (WriteSatp value) = hex value ∷ []
argument_words (WriteSie value) = hex value ∷ []
argument_words (WriteSstatusSie value) = decimal (bit_of value) ∷ []
argument_words ReadSip = []
argument_words ClearSsip = []
argument_words (Sfence va asid) = hex_or_dash va ∷ hex_or_dash asid ∷ []
argument_words FenceI = []
argument_words Wfi = []
argument_words Poll = []
argument_words Serve = []
argument_words Advance = []
argument_words (Tick n) = hex n ∷ []

-- an operation's name, and the words after it
abbrev pub op_words : Op → List (List ℕ)
op_words op = op_word (name_of op) ∷ argument_words op

-- the words after the name of a reply or refusal
abbrev pub said_argument_words : Said → List (List ℕ)
said_argument_words (says.Ret error value) = signed_decimal error ∷ hex value ∷ []
said_argument_words says.Waiting = []
said_argument_words says.Gone = []
said_argument_words (says.Entry addr hart opaque) = hex addr ∷ decimal hart ∷ hex opaque ∷ []
said_argument_words (says.Value value) = hex value ∷ []
said_argument_words (says.Fault cause) = decimal cause ∷ []
said_argument_words says.Served = []
said_argument_words (says.Moved state) = decimal state ∷ []
said_argument_words says.Done = []
said_argument_words (says.Refused n) = decimal n ∷ []

-- the name of a reply or refusal, and the words after it
abbrev pub said_words : Said → List (List ℕ)
said_words said = said_word (name_of_said said) ∷ said_argument_words said

-- The words of a reply or a refusal, after the arrow.
abbrev pub reply_words : Result Reply Refusal → List (List ℕ)
reply_words answer = said_words (said_of answer)

-- the last two numbers of a board, which its line leaves out if they have their defaults
abbrev pub spaces_words : Config → List (List ℕ)
spaces_words c = if has_usual_spaces c then [] else decimal c.asid_len ∷ decimal c.width ∷ []

-- The words of a board line.
abbrev pub board_line_words : Config → List (List ℕ)
board_line_words c =
    codes "board"
    ∷ decimal c.harts
    ∷ decimal c.pages
    ∷ decimal c.limit
    ∷ decimal c.boot_hart
    ∷ hex c.boot_addr
    ∷ hex c.boot_opaque
    ∷ spaces_words c

-- the words of a step, up to the arrow
abbrev pub step_words : Actor → Op → List (List ℕ)
step_words actor op = actor_word actor ∷ op_words op

-- the words of a line up to the arrow: a step, or a cut of the history
abbrev pub doing_words : Doing → List (List ℕ)
doing_words (Step actor op) = step_words actor op
doing_words Cut = codes "cut" ∷ []

-- The words of a step or a cut, with its answer.
abbrev pub line_words : Doing → Result Reply Refusal → List (List ℕ)
line_words doing result = doing_words doing ++ codes "->" ∷ reply_words result

-- The words of an accepted or refused step.
abbrev pub event_words : Actor → Op → Result Reply Refusal → List (List ℕ)
event_words actor op result = line_words (Step actor op) result

-- words as a line: one blank between each two, and a line feed at the end
abbrev pub as_line : List (List ℕ) → List ℕ
as_line words = join_with_byte 32 words ++ 10 ∷ []
