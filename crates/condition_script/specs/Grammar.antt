-- Conditions as text: which bytes have which conditions (profile).
use Rattle.std.specs.Prelude.{◌≡◌, ◌≢◌, ◌⊎◌, ℕ, suc, ◌+◌, ◌-◌, ◌≤◌, ℤ, pos, negsuc, Bool, true, false, ◌&&◌, nat_le, if◌then◌else◌, List, [], ◌∷◌, ◌++◌, length, take, drop, codes, Option, Some, None}
use Rattle.std.specs.List.{AllZip, flat_map, list_any}
use Rattle.std.specs.Option.{option_map}
use Rattle.std.specs.Str.{bytes_eq}
use Rattle.std.specs.Str.Lines.{lines}
use Rattle.script_lines.specs.declared.op_shape.TheConstants.{OP_NUMBERS}
use Rattle.script_lines.specs.declared.said_shape.TheConstants.{SAID_NUMBERS}
use Rattle.script_lines.specs.declared.op_name.OpName.{OpName}
use Rattle.script_lines.specs.declared.said_name.SaidName.{SaidName}
use Rattle.script_lines.specs.declared.said_name.SaidName.TheVariants.{Refused}
use Rattle.script_lines.specs.Names.{by_word, last_hart, last_number, op_places, op_word, said_places, said_word}
use Rattle.line_words.specs.Words.{is_blank, is_hash}
use Rattle.line_words.specs.Values.{number_in, signed_in, words_in}
use Rattle.condition_script.specs.declared.items.Item.{Item}
use Rattle.condition_script.specs.declared.items.Item.TheVariants.{Word, Number, Below, Absent}
use Rattle.condition_script.specs.declared.keywords.Keyword.{Keyword}
use Rattle.condition_script.specs.declared.keywords.Keyword.TheVariants as keywords
use Rattle.condition_script.specs.declared.marks.Mark.{Mark}
use Rattle.condition_script.specs.declared.marks.Mark.TheVariants.{Missed, Stale, Unfirm, Unlenient, Unsteady}
use Rattle.condition_script.specs.declared.names.Name.TheVariants.{Clock, Op, Said}
use Rattle.condition_script.specs.declared.names.Name.TheVariants as names
use Rattle.condition_script.specs.declared.patterns.Pattern.{Pattern}
use Rattle.condition_script.specs.declared.reading.Condition.{Condition}
use Rattle.condition_script.specs.declared.rules.Ending.{Ending}
use Rattle.condition_script.specs.declared.rules.Ending.TheVariants as endings
use Rattle.condition_script.specs.declared.rules.Rule.{Rule}
use Rattle.condition_script.specs.declared.rules.Rule.TheVariants as rules

-- ---- what conditions say, as values

-- a pattern: the words of a step, and those of its reply
pub record Wanted : Type 0 where
  pub step : List (Option Item)
  pub reply : List (Option Item)

-- what a condition asks
pub data RuleValue : Type 0 where
  Never : Wanted → RuleValue
  NeverAfter : Wanted → Wanted → RuleValue
  OfSome : Wanted → RuleValue
  Each : Wanted → RuleValue
  End : List Ending → RuleValue
  Before : Wanted → Wanted → RuleValue
  CanEnd : List Ending → RuleValue

-- a condition: its line, whether it begins with `maybe`, and what it asks
pub record ConditionValue : Type 0 where
  pub line : ℕ
  pub is_maybe : Bool
  pub asked : RuleValue

abbrev pub wanted : Pattern → Wanted
wanted p = record { step = p.step.items; reply = p.reply.items }

abbrev pub rule_value : Rule → RuleValue
rule_value (rules.Never p) = Never (wanted p)
rule_value (rules.NeverAfter p q) = NeverAfter (wanted p) (wanted q)
rule_value (rules.OfSome p) = OfSome (wanted p)
rule_value (rules.Each p) = Each (wanted p)
rule_value (rules.End ends) = End ends.items
rule_value (rules.Before p q) = Before (wanted p) (wanted q)
rule_value (rules.CanEnd ends) = CanEnd ends.items

-- what a `Condition` says
abbrev pub condition_value : Condition → ConditionValue
condition_value c = record { line = c.line; is_maybe = c.is_maybe; asked = rule_value c.rule }

-- ---- the words of a pattern

-- `_`, which matches any word
abbrev pub IsAny : List ℕ → Type 0
IsAny word = word ≡ codes "_"

-- An actor: `_`, the clock, or the number of a hart.
abbrev pub AsksActor : List ℕ → Option Item → Type 0
AsksActor word item =
    (IsAny word × (item ≡ None))
    ⊎ ((word ≡ codes "c") × (item ≡ Some (Word Clock)))
    ⊎ ((hart : ℕ) × (number_in last_hart word ≡ Some hart) × (item ≡ Some (Number hart)))

-- how many numbers any operation may have, and any reply
abbrev pub most_numbers : (is_reply : Bool) → ℕ
most_numbers false = OP_NUMBERS
most_numbers true = SAID_NUMBERS

-- the words of marks
abbrev pub mark_name : Mark → List ℕ
mark_name Stale = codes "stale"
mark_name Missed = codes "missed"
mark_name Unsteady = codes "unsteady"
mark_name Unfirm = codes "unfirm"
mark_name Unlenient = codes "unlenient"

abbrev pub mark_names : List Mark
mark_names = Stale ∷ Missed ∷ Unsteady ∷ Unfirm ∷ Unlenient ∷ []

-- the mark that a word names
unfoldable pub mark_named : List ℕ → Option Mark
mark_named word = by_word mark_name mark_names word

-- The name of a reply, and how many numbers may follow it. No reply of an accepted step is `refused`.
abbrev pub IsSaidName : List ℕ → Item → (most : ℕ) → Type 0
IsSaidName word item most =
    (name : SaidName) × (name ≢ Refused) × (word ≡ said_word name) × (item ≡ Word (Said name))
    × (most ≡ (said_places name).most)

-- A mark, which stands in a reply's place. No number follows it.
abbrev pub IsMarkName : List ℕ → Item → (most : ℕ) → Type 0
IsMarkName word item most =
    (mark : Mark) × (word ≡ mark_name mark) × (item ≡ Word (names.Mark mark)) × (most ≡ 0)

-- A name of the one table, or a mark, and how many numbers may follow it.
abbrev pub IsNameOf : (is_reply : Bool) → List ℕ → Item → (most : ℕ) → Type 0
IsNameOf false word item most =
    (name : OpName) × (word ≡ op_word name) × (item ≡ Word (Op name)) × (most ≡ (op_places name).most)
IsNameOf true word item most = IsSaidName word item most ⊎ IsMarkName word item most

-- The name of an operation or of a reply, or `_`.
abbrev pub AsksName : (is_reply : Bool) → List ℕ → Option Item → (most : ℕ) → Type 0
AsksName is_reply word item most =
    (IsAny word × (item ≡ None) × (most ≡ most_numbers is_reply))
    ⊎ ((name : Item) × IsNameOf is_reply word name most × (item ≡ Some name))

-- the word of a signed number, as errors have it
abbrev pub signed_item : ℤ → Item
signed_item (pos n) = Number n
signed_item (negsuc n) = Below (suc n)

-- the number that a word spells: without a sign, or else with one, as errors have it
abbrev pub number_or_signed : Option ℕ → Option ℤ → Option Item
number_or_signed (Some n) signed = Some (Number n)
number_or_signed None signed = option_map signed_item signed

abbrev pub number_item : List ℕ → Option Item
number_item word = number_or_signed (number_in last_number word) (signed_in word)

-- A number, which may be below 0; `_`; or the dash for none.
abbrev pub AsksNumber : List ℕ → Option Item → Type 0
AsksNumber word item =
    (IsAny word × (item ≡ None))
    ⊎ ((word ≡ codes "-") × (item ≡ Some Absent))
    ⊎ ((number : Item) × (number_item word ≡ Some number) × (item ≡ Some number))

-- words of numbers, at most so many
abbrev pub AreNumberWords : (most : ℕ) → List (List ℕ) → List (Option Item) → Type 0
AreNumberWords most words items = (length words ≤ most) × AllZip AsksNumber words items

-- A name, then at most as many numbers as it may have.
abbrev pub IsNameAndNumbers : (is_reply : Bool) → List (List ℕ) → List (Option Item) → Type 0
IsNameAndNumbers is_reply [] items = ⊥
IsNameAndNumbers is_reply (name ∷ words) items =
    (item : Option Item) × (others : List (Option Item)) × (most : ℕ)
    × (items ≡ item ∷ others) × AsksName is_reply name item most × AreNumberWords most words others

-- An operation, which may be missing.
abbrev pub IsOperation : List (List ℕ) → List (Option Item) → Type 0
IsOperation [] items = items ≡ []
IsOperation (name ∷ words) items = IsNameAndNumbers false (name ∷ words) items

-- An actor, and its operation.
abbrev pub IsStepPattern : List (List ℕ) → List (Option Item) → Type 0
IsStepPattern [] items = ⊥
IsStepPattern (actor ∷ words) items =
    (item : Option Item) × (others : List (Option Item)) × (items ≡ item ∷ others) × AsksActor actor item
    × IsOperation words others

-- An actor, and its operation. Without words it is any step.
abbrev pub IsStepOrAny : List (List ℕ) → List (Option Item) → Type 0
IsStepOrAny [] items = items ≡ None ∷ []
IsStepOrAny (actor ∷ words) items = IsStepPattern (actor ∷ words) items

-- the pattern of a step with a mark in its reply's place
abbrev pub marked : Mark → List (Option Item) → Wanted
marked mark step = record { step = step; reply = Some (Word (names.Mark mark)) ∷ [] }

-- whether one of the words is the mark, the words before the first mark, and those after it
abbrev pub is_mark : (mark word : List ℕ) → Bool
is_mark mark word = bytes_eq word mark

abbrev pub has_mark : (mark : List ℕ) → List (List ℕ) → Bool
has_mark mark words = list_any (is_mark mark) words

abbrev pub up_to : (mark : List ℕ) → List (List ℕ) → List (List ℕ)
up_to mark [] = []
up_to mark (word ∷ words) = if is_mark mark word then [] else word ∷ up_to mark words

abbrev pub behind : (mark : List ℕ) → List (List ℕ) → List (List ℕ)
behind mark [] = []
behind mark (word ∷ words) = if is_mark mark word then words else behind mark words

-- A pattern: a step, and after an arrow its reply, if there is an arrow.
abbrev pub IsPattern : List (List ℕ) → Wanted → Type 0
IsPattern words p =
    ((has_mark (codes "->") words ≡ false) × IsStepPattern words p.step × (p.reply ≡ []))
    ⊎ ((has_mark (codes "->") words ≡ true) × IsStepPattern (up_to (codes "->") words) p.step
    × IsNameAndNumbers true (behind (codes "->") words) p.reply)

-- Two patterns, with this word between them.
abbrev pub ArePatterns : (mark : List ℕ) → List (List ℕ) → Wanted → Wanted → Type 0
ArePatterns mark words p q = (has_mark mark words ≡ true) × IsPattern (up_to mark words) p × IsPattern (behind mark words) q

-- ---- conditions

-- the words that conditions begin with
abbrev pub keyword_word : Keyword → List ℕ
keyword_word keywords.Never = codes "never"
keyword_word keywords.Some = codes "some"
keyword_word keywords.Each = codes "each"
keyword_word keywords.End = codes "end"
keyword_word keywords.Before = codes "before"
keyword_word keywords.Can = codes "can"
keyword_word keywords.Steady = codes "steady"
keyword_word keywords.Firm = codes "firm"
keyword_word keywords.Lenient = codes "lenient"

abbrev pub keyword_names : List Keyword
keyword_names =
    keywords.Never ∷ keywords.Some ∷ keywords.Each ∷ keywords.End ∷ keywords.Before ∷ keywords.Can
    ∷ keywords.Steady ∷ keywords.Firm ∷ keywords.Lenient ∷ []

-- the keyword that a word is
unfoldable pub keyword_named : List ℕ → Option Keyword
keyword_named word = by_word keyword_word keyword_names word

-- the words of ends
abbrev pub ending_word : Ending → List ℕ
ending_word endings.Off = codes "off"
ending_word endings.HistoryFull = codes "history-full"
ending_word endings.Quiet = codes "quiet"
ending_word endings.Stuck = codes "stuck"

abbrev pub ending_names : List Ending
ending_names = endings.Off ∷ endings.HistoryFull ∷ endings.Quiet ∷ endings.Stuck ∷ []

-- the end that a word names
unfoldable pub ending_named : List ℕ → Option Ending
ending_named word = by_word ending_word ending_names word

-- each word names the end in its place
abbrev pub AreEndings : List (List ℕ) → List Ending → Type 0
AreEndings words ends = AllZip (λ word ending. word ≡ ending_word ending) words ends

-- the ends that `can end` means: without any, all in which an order without a limit can end
abbrev pub ends_meant : List Ending → List Ending
ends_meant [] = endings.Off ∷ endings.Quiet ∷ endings.Stuck ∷ []
ends_meant (ending ∷ ends) = ending ∷ ends

-- whether a word is something, and then a comma
abbrev pub has_comma : List ℕ → Bool
has_comma word = nat_le 2 (length word) && bytes_eq (drop (length word - 1) word) (codes ",")

-- the parts of a word: a comma at its end is a word of its own
abbrev pub comma_apart : List ℕ → List (List ℕ)
comma_apart word = if has_comma word then take (length word - 1) word ∷ codes "," ∷ [] else word ∷ []

abbrev pub with_commas : List (List ℕ) → List (List ℕ)
with_commas words = flat_map comma_apart words

-- No step of a pattern has the mark.
abbrev pub IsWithout : Mark → List (List ℕ) → RuleValue → Type 0
IsWithout mark words asked = (step : List (Option Item)) × (asked ≡ Never (marked mark step)) × IsStepOrAny words step

-- What the words after a keyword ask. `never MARK` is `never _ -> MARK`, `steady P` is `never P -> unsteady`, and `firm P` and
-- `lenient P` are so of `unfirm` and `unlenient`.
abbrev pub IsRuleOf : Keyword → List (List ℕ) → RuleValue → Type 0
IsRuleOf keywords.Never words asked =
    ((p : Wanted) × (asked ≡ Never p) × (has_mark (codes "after") words ≡ false) × IsPattern words p)
    ⊎ ((p q : Wanted) × (asked ≡ NeverAfter p q) × ArePatterns (codes "after") words p q)
    ⊎ ((mark : Mark) × (asked ≡ Never (marked mark (None ∷ []))) × (words ≡ mark_name mark ∷ []))
IsRuleOf keywords.Some words asked = (p : Wanted) × (asked ≡ OfSome p) × IsPattern words p
IsRuleOf keywords.Each words asked = (p : Wanted) × (asked ≡ Each p) × IsPattern words p × (p.reply ≢ [])
IsRuleOf keywords.End words asked = (ends : List Ending) × (asked ≡ End ends) × (words ≢ []) × AreEndings words ends
IsRuleOf keywords.Before words asked =
    (p q : Wanted) × (asked ≡ Before p q) × ArePatterns (codes ",") (with_commas words) p q
IsRuleOf keywords.Can words asked =
    (ends : List Ending) × (others : List (List ℕ)) × (asked ≡ CanEnd (ends_meant ends)) × (words ≡ codes "end" ∷ others)
    × (has_mark (codes "history-full") others ≡ false) × AreEndings others ends
IsRuleOf keywords.Steady words asked = IsWithout Unsteady words asked
IsRuleOf keywords.Firm words asked = IsWithout Unfirm words asked
IsRuleOf keywords.Lenient words asked = IsWithout Unlenient words asked

-- The words of a condition.
abbrev pub IsAsked : List (List ℕ) → RuleValue → Type 0
IsAsked [] asked = ⊥
IsAsked (word ∷ words) asked = (keyword : Keyword) × (word ≡ keyword_word keyword) × IsRuleOf keyword words asked

-- The same, after `maybe` or without it.
abbrev pub IsRule : List (List ℕ) → (is_maybe : Bool) → RuleValue → Type 0
IsRule words false asked = IsAsked words asked
IsRule [] true asked = ⊥
IsRule (word ∷ words) true asked = (word ≡ codes "maybe") × IsAsked words asked

-- ---- lines

-- a text from its first byte that isn't blank
abbrev pub behind_blanks : List ℕ → List ℕ
behind_blanks [] = []
behind_blanks (b ∷ text) = if is_blank b then behind_blanks text else b ∷ text

-- a text from its comment on
abbrev pub from_comment : List ℕ → List ℕ
from_comment [] = []
from_comment (b ∷ text) = if is_hash b then b ∷ text else from_comment text

-- whether a text begins with `#!`
abbrev pub is_marked : List ℕ → Bool
is_marked text = bytes_eq (codes "#!") (take 2 text)

-- `#!` at the beginning of a comment, as a word
abbrev pub mark_word : List ℕ → List (List ℕ)
mark_word comment = if is_marked comment then codes "#!" ∷ [] else []

-- The words behind a line's `#!`, up to a comment. A second `#!` is a word, too, which no condition has.
abbrev pub asked_words : List ℕ → List (List ℕ)
asked_words rest = words_in rest ++ mark_word (from_comment rest)

-- The first line of a script may name the program that runs it.
abbrev pub IsShebang : (n : ℕ) → List ℕ → Type 0
IsShebang n text = (n ≡ 1) × ((rest : List ℕ) × (text ≡ codes "#!/" ++ rest))

-- A text begins with `#!`, blanks aside, and the rest is a condition's. Or its comment begins so behind other words; then the rest begins
-- with the comment, and is none.
abbrev pub BeginsAsking : (text rest : List ℕ) → Type 0
BeginsAsking text rest =
    (behind_blanks text ≡ codes "#!" ++ rest)
    ⊎ (((other : List ℕ) → behind_blanks text ≡ codes "#!" ++ other → ⊥) × (is_marked (from_comment text) ≡ true) × (rest ≡ from_comment text))

-- Line n has a `#!`, and the rest is its condition's. A comment such as `# !never` begins otherwise.
pub record IsAsking (n : ℕ) (text rest : List ℕ) : Type 0 where
  pub begins : BeginsAsking text rest
  pub no_shebang : IsShebang n text → ⊥

-- Line n asks nothing: it doesn't begin with `#!`, or names the program that runs the script.
abbrev pub IsSilent : (n : ℕ) → List ℕ → Type 0
IsSilent n text = (rest : List ℕ) → IsAsking n text rest → ⊥

-- Line n has this condition: the words behind its `#!`.
pub record HasCondition (n : ℕ) (text : List ℕ) (c : ConditionValue) : Type 0 where
  pub rest : List ℕ
  pub is_asking : IsAsking n text rest
  pub is_line : c.line ≡ n
  pub is_rule : IsRule (asked_words rest) c.is_maybe c.asked

-- The lines from line n on have these conditions.
abbrev pub HaveConditions : (n : ℕ) → List (List ℕ) → List ConditionValue → Type 0
HaveConditions n [] conditions = conditions ≡ []
HaveConditions n (text ∷ texts) conditions =
    (IsSilent n text × HaveConditions (n + 1) texts conditions)
    ⊎ ((c : ConditionValue) × (others : List ConditionValue) × HasCondition n text c × HaveConditions (n + 1) texts others
    × (conditions ≡ c ∷ others))

-- The bytes have these conditions.
abbrev pub ReadsConditions : List ℕ → List ConditionValue → Type 0
ReadsConditions bytes conditions = HaveConditions 1 (lines bytes) conditions
