-- What a text begins with: blanks, a comment, a token, or something wrong (GNU as, Syntax).
use Rattle.std.specs.Prelude.{ℕ, ◌+◌, ◌<◌, ◌==◌, false, if◌then◌else◌, List, [], ◌∷◌, take, drop, length, Option, Some, None}
use Rattle.asm_tokens.specs.declared.bytes.ByteClass.{ByteClass}
use Rattle.asm_tokens.specs.declared.bytes.ByteClass.TheVariants as classes
use Rattle.asm_tokens.specs.declared.marks.Mark as marks
use Rattle.asm_tokens.specs.declared.marks.Mark.TheVariants.{Slash}
use Rattle.asm_tokens.specs.declared.runs.Run.TheVariants as runs
use Rattle.asm_tokens.specs.declared.tokens.Token.{Token}
use Rattle.asm_tokens.specs.declared.tokens.Token.TheVariants as tokens
use Rattle.asm_tokens.specs.declared.tokens.First.{First}
use Rattle.asm_tokens.specs.declared.tokens.First.TheVariants as firsts
use Rattle.asm_tokens.specs.declared.tokens.BadText as wrongs
use Rattle.asm_tokens.specs.declared.tokens.BadText.TheVariants.{BadByte, OpenString, OpenComment}
use Rattle.asm_tokens.specs.Bytes.{class_of}
use Rattle.asm_tokens.specs.Runs.{behind_comment, closing_quote, drop_run, run_length}

-- ---- tokens, without where they lie in memory

-- a token: a word, a string with its escapes, a mark, or the end of a statement
pub data Lexeme : Type 0 where
  Word : List ℕ → Lexeme
  Text : List ℕ → Lexeme
  Mark : marks.Mark → Lexeme
  End : Lexeme

-- what a text begins with, and the text behind it
pub data Reading : Type 0 where
  Over : Reading
  Gap : List ℕ → Reading
  Begins : Lexeme → List ℕ → Reading
  Faulty : wrongs.BadText → Reading

abbrev pub lexeme_of : Token → Lexeme
lexeme_of (tokens.Word word) = Word word.now
lexeme_of (tokens.Text text) = Text text.now
lexeme_of (tokens.Mark mark) = Mark mark
lexeme_of tokens.End = End

-- what a text begins with, without where it lies in memory
abbrev pub reading_of : First → Reading
reading_of firsts.Over = Over
reading_of (firsts.Gap behind) = Gap behind.now
reading_of (firsts.Begins token behind) = Begins (lexeme_of token) behind.now
reading_of (firsts.Wrong wrong) = Faulty wrong

-- the text behind it is shorter than n
abbrev pub LeavesLess : First → ℕ → Type 0
LeavesLess firsts.Over n = Unit {0}
LeavesLess (firsts.Gap behind) n = length behind.now < n
LeavesLess (firsts.Begins token behind) n = length behind.now < n
LeavesLess (firsts.Wrong wrong) n = Unit {0}

-- ---- what a text begins with, by its first byte; `after` is the text behind that byte

-- the longest word
abbrev pub word_reading : (text after : List ℕ) → Reading
word_reading text after = Begins (Word (take (run_length runs.Word after + 1) text)) (drop_run runs.Word after)

abbrev pub string_by : Option ℕ → List ℕ → Reading
string_by None after = Faulty OpenString
string_by (Some n) after = Begins (Text (take n after)) (drop (n + 1) after)

-- a string up to its closing quote
abbrev pub string_of : (after : List ℕ) → Reading
string_of after = string_by (closing_quote 0 false after) after

abbrev pub comment_by : Option (List ℕ) → Reading
comment_by None = Faulty OpenComment
comment_by (Some behind) = Gap behind

-- a comment up to its `*/`
abbrev pub comment_of : (inside : List ℕ) → Reading
comment_of inside = comment_by (behind_comment false inside)

-- a comment if a `*` follows, else a mark
abbrev pub slash_of : (after : List ℕ) → Reading
slash_of [] = Begins (Mark Slash) []
slash_of (b ∷ inside) = if b == 42 then comment_of inside else Begins (Mark Slash) (b ∷ inside)

abbrev pub reading_by : ByteClass → (text after : List ℕ) → Reading
reading_by classes.Blank text after = Gap (drop_run runs.Blanks after)
reading_by classes.Letter text after = word_reading text after
reading_by classes.End text after = Begins End after
reading_by classes.Hash text after = Gap (drop_run runs.Line after)
reading_by classes.Quote text after = string_of after
reading_by classes.Slash text after = slash_of after
reading_by (classes.Mark mark) text after = Begins (Mark mark) after
reading_by classes.Other text after = Faulty BadByte

-- What a text begins with.
abbrev pub first : List ℕ → Reading
first [] = Over
first (b ∷ after) = reading_by (class_of b) (b ∷ after) after
