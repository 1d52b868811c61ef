-- A word names one thing at most.
use Rattle.std.proofs.Common.{◌≡◌, ℕ, List, Option, Some, None, codes, refl, sym, ap, ◌∙◌}
use Rattle.amo.specs.declared.function.AmoFunction.TheVariants as functions
use Rattle.amo.specs.declared.name.AmoName.TheVariants as amos
use Rattle.script_lines.specs.declared.op_name.OpName.{OpName}
use Rattle.script_lines.specs.declared.op_name.OpName.TheVariants as ops
use Rattle.script_lines.specs.declared.said_name.SaidName.{SaidName}
use Rattle.script_lines.specs.declared.said_name.SaidName.TheVariants as saids
use Rattle.script_lines.specs.Names.{op_named, op_word, said_named, said_word}
use Rattle.line_words.specs.Values.{is_number, number_in, signed_in}
use Rattle.condition_script.specs.declared.keywords.Keyword.{Keyword}
use Rattle.condition_script.specs.declared.keywords.Keyword.TheVariants as keywords
use Rattle.condition_script.specs.declared.marks.Mark.{Mark}
use Rattle.condition_script.specs.declared.marks.Mark.TheVariants.{Missed, Stale, Unfirm, Unlenient, Unsteady}
use Rattle.condition_script.specs.declared.rules.Ending.{Ending}
use Rattle.condition_script.specs.declared.rules.Ending.TheVariants as endings
use Rattle.condition_script.specs.Grammar.{ending_named, ending_word, keyword_named, keyword_word, mark_name, mark_named, number_item}

-- two things that a word names are one
pub one_named : {A : Type 0} (named : List ℕ → Option A) (word_of : A → List ℕ) → ((a : A) → named (word_of a) ≡ Some a) → (a b : A) → word_of a ≡ word_of b → a ≡ b
one_named named word_of own a b same = let e = sym (own a) ∙ ap named same ∙ own b in cc

-- a word that names nothing is nothing's
pub none_named : {A : Type 0} (named : List ℕ → Option A) (word_of : A → List ℕ) → ((a : A) → named (word_of a) ≡ Some a) → (word : List ℕ) (a : A) → named word ≡ None → word ≡ word_of a → ⊥
none_named named word_of own word a none is = let e = sym none ∙ ap named is ∙ own a in absurd cc

pub op_own : (name : OpName) → op_named (op_word name) ≡ Some name
unfolding op_named
op_own ops.Ecall = refl
op_own ops.Load = refl
op_own ops.Store = refl
op_own ops.Fetch = refl
op_own ops.Satp = refl
op_own ops.Sie = refl
op_own ops.Sstatus = refl
op_own ops.Sip = refl
op_own ops.Clearssip = refl
op_own ops.Sfence = refl
op_own ops.Fencei = refl
op_own ops.Wfi = refl
op_own (ops.Amo (amos.Double functions.Swap)) = refl
op_own (ops.Amo (amos.Double functions.Add)) = refl
op_own (ops.Amo (amos.Double functions.And)) = refl
op_own (ops.Amo (amos.Double functions.Or)) = refl
op_own (ops.Amo (amos.Double functions.Xor)) = refl
op_own (ops.Amo (amos.Double functions.Min)) = refl
op_own (ops.Amo (amos.Double functions.Max)) = refl
op_own (ops.Amo (amos.Double functions.Minu)) = refl
op_own (ops.Amo (amos.Double functions.Maxu)) = refl
op_own (ops.Amo (amos.Half functions.Swap)) = refl
op_own (ops.Amo (amos.Half functions.Add)) = refl
op_own (ops.Amo (amos.Half functions.And)) = refl
op_own (ops.Amo (amos.Half functions.Or)) = refl
op_own (ops.Amo (amos.Half functions.Xor)) = refl
op_own (ops.Amo (amos.Half functions.Min)) = refl
op_own (ops.Amo (amos.Half functions.Max)) = refl
op_own (ops.Amo (amos.Half functions.Minu)) = refl
op_own (ops.Amo (amos.Half functions.Maxu)) = refl
op_own (ops.Amo amos.Cas) = refl
op_own (ops.Amo amos.Store1) = refl
op_own (ops.Amo amos.Store2) = refl
op_own (ops.Amo amos.Store4) = refl
op_own ops.Poll = refl
op_own ops.Serve = refl
op_own ops.Advance = refl
op_own ops.Tick = refl

pub any_is_no_op : op_named (codes "_") ≡ None
unfolding op_named
any_is_no_op = refl

pub said_own : (name : SaidName) → said_named (said_word name) ≡ Some name
unfolding said_named
said_own saids.Ret = refl
said_own saids.Waiting = refl
said_own saids.Gone = refl
said_own saids.Entry = refl
said_own saids.Value = refl
said_own saids.Fault = refl
said_own saids.Served = refl
said_own saids.Moved = refl
said_own saids.Done = refl
said_own saids.Refused = refl

pub any_is_no_said : said_named (codes "_") ≡ None
unfolding said_named
any_is_no_said = refl

pub keyword_own : (keyword : Keyword) → keyword_named (keyword_word keyword) ≡ Some keyword
unfolding keyword_named
keyword_own keywords.Never = refl
keyword_own keywords.Some = refl
keyword_own keywords.Each = refl
keyword_own keywords.End = refl
keyword_own keywords.Before = refl
keyword_own keywords.Can = refl
keyword_own keywords.Steady = refl
keyword_own keywords.Firm = refl
keyword_own keywords.Lenient = refl

pub maybe_is_no_keyword : keyword_named (codes "maybe") ≡ None
unfolding keyword_named
maybe_is_no_keyword = refl

pub ending_own : (ending : Ending) → ending_named (ending_word ending) ≡ Some ending
unfolding ending_named
ending_own endings.Off = refl
ending_own endings.HistoryFull = refl
ending_own endings.Quiet = refl
ending_own endings.Stuck = refl

-- ---- marks

pub mark_own : (mark : Mark) → mark_named (mark_name mark) ≡ Some mark
unfolding mark_named
mark_own Stale = refl
mark_own Missed = refl
mark_own Unsteady = refl
mark_own Unfirm = refl
mark_own Unlenient = refl

pub any_is_no_mark : mark_named (codes "_") ≡ None
unfolding mark_named
any_is_no_mark = refl

pub clock_is_no_mark : mark_named (codes "c") ≡ None
unfolding mark_named
clock_is_no_mark = refl

pub mark_is_no_said : (mark : Mark) → said_named (mark_name mark) ≡ None
unfolding said_named
mark_is_no_said Stale = refl
mark_is_no_said Missed = refl
mark_is_no_said Unsteady = refl
mark_is_no_said Unfirm = refl
mark_is_no_said Unlenient = refl

pub mark_is_no_hart : (limit : ℕ) (mark : Mark) → number_in limit (mark_name mark) ≡ None
unfolding number_in is_number
mark_is_no_hart limit Stale = refl
mark_is_no_hart limit Missed = refl
mark_is_no_hart limit Unsteady = refl
mark_is_no_hart limit Unfirm = refl
mark_is_no_hart limit Unlenient = refl

-- ---- numbers

pub any_is_no_hart : (limit : ℕ) → number_in limit (codes "_") ≡ None
unfolding number_in is_number
any_is_no_hart limit = refl

pub clock_is_no_hart : (limit : ℕ) → number_in limit (codes "c") ≡ None
unfolding number_in is_number
clock_is_no_hart limit = refl

pub any_is_no_number : number_item (codes "_") ≡ None
unfolding number_in is_number signed_in
any_is_no_number = refl

pub dash_is_no_number : number_item (codes "-") ≡ None
unfolding number_in is_number signed_in
dash_is_no_number = refl
