-- Bytes as lines of words, and words as numbers (profile).
pub use Rattle.line_words.specs.Words.{is_blank, is_allowed, is_hash, IsGap, IsWord, IsApart, Spaces, IsComment, IsLine, Spells, IsNumber, AreNumbers, last_below, last_above, IsSigned}
pub use Rattle.script_lines.specs.Names.{last_hart, last_number}
