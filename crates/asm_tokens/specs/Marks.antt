-- Marks between words (GNU as, Infix Operators, Prefix Operator, Statements).
use Rattle.std.specs.Prelude.{ℕ, ◌==◌, if◌then◌else◌, Option, Some, None}
use Rattle.asm_tokens.specs.declared.marks.Mark.{Mark}
use Rattle.asm_tokens.specs.declared.marks.Mark.TheVariants.{Comma, Colon, Open, Close, Plus, Minus, Star, Percent, Less, Greater, And, Or, Caret, Tilde, Equals, At}

-- the mark that a byte is: , : ( ) + - * % < > & | ^ ~ = @
abbrev pub mark_of_byte : ℕ → Option Mark
mark_of_byte b =
    if b == 44 then Some Comma
    else (if b == 58 then Some Colon
    else (if b == 40 then Some Open
    else (if b == 41 then Some Close
    else (if b == 43 then Some Plus
    else (if b == 45 then Some Minus
    else (if b == 42 then Some Star
    else (if b == 37 then Some Percent
    else (if b == 60 then Some Less
    else (if b == 62 then Some Greater
    else (if b == 38 then Some And
    else (if b == 124 then Some Or
    else (if b == 94 then Some Caret
    else (if b == 126 then Some Tilde
    else (if b == 61 then Some Equals
    else (if b == 64 then Some At
    else None)))))))))))))))
