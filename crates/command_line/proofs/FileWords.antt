-- What clap finds in the words after a subcommand's name.
use Rattle.std.proofs.Common.{◌≡◌, ◌∙◌, ◌⊎◌, ◌&&◌, ◌||◌, ℕ, Bool, cond, codes, true, false, refl, sym, ap, subst, suc, List, [], ◌∷◌, ◌++◌, Option, Some, None, inl, inr, true≢false, arith}
use Rattle.std.specs.Prelude.{◌==◌, fold, option_map, slice_get}
use Rattle.std.specs.List.{All}
use Rattle.std.specs.Str.{IsUtf8, bytes_eq, chars}
use Rattle.std.proofs.lemmas.Slice.Eq.{bytes_eq-Decides}
use Rattle.std.proofs.lemmas.Bool.{eqb-true}
use Rattle.std.proofs.lemmas.Str.{IsUtf8-past_char, encode_ascii, encodes-chars}
use lib.Utf8.{encodes}
use Rattle.clap.specs.Lexer.{long_of, name_and_value, short_of}
use Rattle.clap.specs.Walk.{Held, Row, Text, Walk, arg_by_long, arg_by_short, finished, idle, nothing_held, settled, walk_from, walked}
use Rattle.clap.specs.Kinds.{Kinds, or_else}
use Rattle.clap.specs.Simple.{Shape}
use Rattle.clap.specs.Faults.{check_fault, defaults_fault, flags_fault, long_fault, settle_fault, short_fault, turn_fault, walk_fault, word_fault}
use Rattle.command_line.specs.CommandLine.{Invocation, asking, file_in, is_dashed, is_dashes, unless_faulty, with_file}
use Rattle.command_line.proofs.Asked.{both_empty, leaf, leaf_rules, no_cons}

-- ---- how words look

-- the word names an option
abbrev pub Flag : Text → Type 0
Flag word = ((p : Text × Option Text) × (long_of word ≡ Some p))
    ⊎ ((long_of word ≡ None) × (b : ℕ) × (bs : Text) × (short_of word ≡ Some (b ∷ bs)) × (x : ℕ) × (slice_get (chars (b ∷ bs)) 0 ≡ Some x))

pub record Plain (word : Text) : Type 0 where
  pub long : long_of word ≡ None
  pub short : short_of word ≡ None
  pub dashes : bytes_eq word (codes "--") ≡ false

pub plain : (word : Text) → is_dashed word ≡ false → Plain word
plain [] e = record { long = refl; short = refl; dashes = refl }
plain (x ∷ []) e = go (x == 45) refl
  where
    go : (b : Bool) → (x == 45) ≡ b → Plain (x ∷ [])
    go false is = record { long = rw is refl; short = rw is refl; dashes = rw is refl }
    go true is = record { long = rw is refl; short = rw is refl; dashes = rw is refl }
plain (x ∷ y ∷ ys) e = record { long = rw e refl; short = rw e refl; dashes = rw e refl }

-- text that is there has a first character
first_char : (b : ℕ) (bs : Text) → IsUtf8 (b ∷ bs) → (x : ℕ) × (slice_get (chars (b ∷ bs)) 0 ≡ Some x)
first_char b bs utf8 = go (chars (b ∷ bs)) (encodes-chars (b ∷ bs) utf8)
  where
    go : (cs : List ℕ) → encodes cs ≡ b ∷ bs → (x : ℕ) × (slice_get cs 0 ≡ Some x)
    go [] e = absurd (no_cons b bs (sym e))
    go (x ∷ xs) e = (x, refl)

flag_after : (y : ℕ) (ys : Text) → IsUtf8 (45 ∷ y ∷ ys) → is_dashes (45 ∷ y ∷ ys) ≡ false → Flag (45 ∷ y ∷ ys)
flag_after y ys utf8 e = go ys utf8 e (y == 45) refl
  where
    go : (ys : Text) → IsUtf8 (45 ∷ y ∷ ys) → is_dashes (45 ∷ y ∷ ys) ≡ false → (b : Bool) → (y == 45) ≡ b → Flag (45 ∷ y ∷ ys)
    go [] utf8 e true is = absurd (true≢false (rw is at e))
    go (z ∷ zs) utf8 e true is = inl (name_and_value (z ∷ zs), rw is refl)
    go ys utf8 e false is =
        let rest = IsUtf8-past_char (45 ∷ y ∷ ys) (y ∷ ys) 45 utf8 (ap (λ l. l ++ y ∷ ys) (sym (encode_ascii 45 (omega arith)))) in
        let first = first_char y ys rest in
        inr (rw is refl, y, ys, rw is refl, first.0, first.1)

pub flag : (word : Text) → IsUtf8 word → is_dashed word ≡ true → is_dashes word ≡ false → Flag word
flag [] utf8 dashed e = absurd (true≢false (sym dashed))
flag (x ∷ []) utf8 dashed e = absurd (true≢false (sym dashed))
flag (x ∷ y ∷ ys) utf8 dashed e =
    subst (λ c. IsUtf8 (c ∷ y ∷ ys) → is_dashes (c ∷ y ∷ ys) ≡ false → Flag (c ∷ y ∷ ys)) (sym (eqb-true x 45 dashed)) (flag_after y ys) utf8 e

-- ---- a word's turn

-- where a walk stands between two words of a subcommand
abbrev at : List Row → Option (Text × List Text) → ℕ → Bool → Walk
at rows pending position is_trailing = record {
  held = record { rows = rows; pending = pending; skip = 0 };
  waiting = idle;
  position = position;
  is_trailing = is_trailing;
  stopped = None;
}

long_fails : (name : Text) (given : Option Text) (h : Held) → long_fault leaf_rules false (arg_by_long leaf_rules name) given h ≡ [] → ⊥
long_fails name given h = go (bytes_eq (codes "help") name) given
  where
    go : (b : Bool) (v : Option Text) → long_fault leaf_rules false (cond (b || false) (arg_by_long leaf_rules (codes "help")) None) v h ≡ [] → ⊥
    go true None e = no_cons _ _ (both_empty (settle_fault leaf_rules false h) _ e).1
    go true (Some v) e = no_cons _ _ e
    go false v e = no_cons _ _ e

short_fails : (x : ℕ) (flags : Text) (h : Held) (next : Held → Kinds) → short_fault leaf_rules false (arg_by_short leaf_rules x) flags h next ≡ [] → ⊥
short_fails x flags h next = go (104 == x)
  where
    go : (b : Bool) → short_fault leaf_rules false (cond (b || false) (arg_by_short leaf_rules 104) None) flags h next ≡ [] → ⊥
    go true e = no_cons _ _ (both_empty (settle_fault leaf_rules false h) _ (both_empty _ _ e).0).1
    go false e = no_cons _ _ e

-- an option asks for help, or isn't known
flag_fails : (name word : Text) (rows : List Row) (pending : Option (Text × List Text)) (position : ℕ) → Flag word → is_dashes word ≡ false
    → turn_fault (leaf name) [] (at rows pending position false) word ≡ [] → ⊥
unfolding flags_fault
flag_fails name word rows pending position looks undashed e = elim looks [
  | inl long ↦ long_fails long.0.0 long.0.1 held (rw (undashed, long.1) at by_word)
  | inr short ↦ short_fails short.4 _ held _ (rw (undashed, short.0, short.3, short.5) at by_word)
]
  where
    held : Held
    held = record { rows = rows; pending = pending; skip = 0 }

    by_word : word_fault (leaf name) [] false idle word held ≡ []
    by_word = (both_empty (word_fault (leaf name) [] false idle word held) _ e).0

-- FILE is met
abbrev pub file_met : Text → Option (Text × List Text)
file_met word = Some (codes "FILE", word ∷ [])

module _ (name word : Text) (undashed : is_dashed word ≡ false) (no_dashes : is_dashes word ≡ false) where
  first_turn : turn_fault (leaf name) [] (at [] None 1 false) word ≡ []
  first_turn =
      let looks = plain word undashed in
      rw (no_dashes, looks.long, looks.short) refl

  first_walked : walked leaf_rules [] (at [] None 1 false) word ≡ at [] (file_met word) 2 false
  unfolding walked
  first_walked =
      let looks = plain word undashed in
      rw (no_dashes, looks.long, looks.short) refl

  -- a second one is too many
  second_fails : (file : Text) → turn_fault (leaf name) [] (at [] (file_met file) 2 false) word ≡ [] → ⊥
  second_fails file e =
      let looks = plain word undashed in
      no_cons _ _ (rw (no_dashes, looks.long, looks.short) at e)

-- ---- the walk from a place to the end

-- what a subcommand's level finds faulty after the walk
abbrev pub after : Shape → Walk → Kinds
after s end = or_else (settle_fault s.rules false end.held) (or_else (defaults_fault (settled s.rules end.held).rows s.rules)
    (check_fault s (finished s.rules end.held) false))

abbrev pub ends : Shape → Kinds → Walk → Option Invocation
ends s kinds end = unless_faulty (or_else kinds (after s end)) (with_file (s.name, finished s.rules end.held))

-- what is found of the words from there on
abbrev pub finds : Shape → Walk → List Text → Option Invocation
finds s w words = ends s (walk_fault s [] w words) (fold (walked s.rules []) w words)

pub next : (s : Shape) (w then : Walk) (word : Text) (words : List Text) → turn_fault s [] w word ≡ [] → walked s.rules [] w word ≡ then
    → finds s w (word ∷ words) ≡ finds s then words
unfolding walk_fault
next s w then word words quiet is =
    let later = walked s.rules [] w word in
    ap (λ kinds. ends s (or_else kinds (walk_fault s [] later words)) (fold (walked s.rules []) later words)) quiet
    ∙ ap (λ v. finds s v words) is

pub none_found : (kinds : Kinds) (found : Option Invocation) → (kinds ≡ [] → ⊥) → unless_faulty kinds found ≡ None
none_found [] found faulty = absurd (faulty refl)
none_found (k ∷ ks) found faulty = refl

pub stops : (s : Shape) (w : Walk) (word : Text) (words : List Text) → (turn_fault s [] w word ≡ [] → ⊥) → finds s w (word ∷ words) ≡ None
unfolding walk_fault
stops s w word words faulty =
    let later = walked s.rules [] w word in
    let turns = or_else (turn_fault s [] w word) (walk_fault s [] later words) in
    let end = after s (fold (walked s.rules []) later words) in
    none_found (or_else turns end) _ (λ e. faulty (both_empty _ (walk_fault s [] later words) (both_empty turns end e).0).0)

-- ---- FILE

abbrev pub told : Text → List Text → Option Invocation
told name words = option_map (λ path. asking name path None) (file_in words)

abbrev Right : Text → List Text → Type 0
Right name words = finds (leaf name) (walk_from nothing_held) words ≡ told name words

no_words : (name : Text) → Right name []
unfolding walk_fault defaults_fault
no_words name = refl

after_dashes : (name : Text) → bytes_eq (codes "run") name ≡ false → (rest : List Text) → Right name (codes "--" ∷ rest)
unfolding walk_fault walked defaults_fault
after_dashes name not_run [] = refl
after_dashes name not_run (file ∷ []) = rw not_run refl
after_dashes name not_run (file ∷ second ∷ rest) = refl

-- FILE alone, or before `--`
file_alone : (name file : Text) → bytes_eq (codes "run") name ≡ false → finds (leaf name) (at [] (file_met file) 2 false) [] ≡ Some (asking name file None)
unfolding walk_fault defaults_fault
file_alone name file not_run = rw not_run refl

file_first : (name file : Text) → bytes_eq (codes "run") name ≡ false → finds (leaf name) (at [] (file_met file) 2 false) (codes "--" ∷ []) ≡ Some (asking name file None)
unfolding walk_fault walked defaults_fault
file_first name file not_run = rw not_run refl

dashes_then : (name file word : Text) (rest : List Text) → finds (leaf name) (at [] (file_met file) 2 false) (codes "--" ∷ word ∷ rest) ≡ None
unfolding walk_fault walked
dashes_then name file word rest = refl

pub eq_dashes : (word : Text) → is_dashes word ≡ true → codes "--" ≡ word
eq_dashes word is = sym ((bytes_eq-Decides word (codes "--")).0 is)

-- FILE, and what may follow it
module _ (name file : Text) (not_run : bytes_eq (codes "run") name ≡ false) (undashed : is_dashed file ≡ false) (no_dashes : is_dashes file ≡ false) where
  abbrev place : Walk
  place = at [] (file_met file) 2 false

  abbrev Goes : List Text → Type 0
  Goes rest = finds (leaf name) place rest ≡ told name (file ∷ rest)

  alone_is : Some (asking name file None) ≡ told name (file ∷ [])
  alone_is = rw undashed refl

  first_is : Some (asking name file None) ≡ told name (file ∷ codes "--" ∷ [])
  first_is = rw (no_dashes, undashed) refl

  none_is : (second : Text) → is_dashes second ≡ false → (rest : List Text) → None ≡ told name (file ∷ second ∷ rest)
  none_is second is [] = rw (no_dashes, is) refl
  none_is second is (word ∷ rest) = refl

  dashes_go : (rest : List Text) → Goes (codes "--" ∷ rest)
  dashes_go [] = file_first name file not_run ∙ first_is
  dashes_go (word ∷ rest) = dashes_then name file word rest

  goes : (rest : List Text) → All IsUtf8 rest → Goes rest
  goes [] utf8 = file_alone name file not_run ∙ alone_is
  goes (second ∷ rest) utf8 = by_dashes (is_dashes second) refl
    where
      by_dashed : is_dashes second ≡ false → (b : Bool) → is_dashed second ≡ b → Goes (second ∷ rest)
      by_dashed is true dashed =
          let first : IsUtf8 second = utf8 0 second (omega arith) in
          stops (leaf name) place second rest (flag_fails name second [] (file_met file) 2 (flag second first dashed is) is) ∙ none_is second is rest
      by_dashed is false dashed = stops (leaf name) place second rest (second_fails name second dashed is file) ∙ none_is second is rest

      by_dashes : (b : Bool) → is_dashes second ≡ b → Goes (second ∷ rest)
      by_dashes true is = subst (λ w. Goes (w ∷ rest)) (eq_dashes second is) (dashes_go rest)
      by_dashes false is = by_dashed is (is_dashed second) refl

  file_goes : (rest : List Text) → All IsUtf8 rest → Right name (file ∷ rest)
  file_goes rest utf8 = next (leaf name) _ place file rest (first_turn name file undashed no_dashes) (first_walked name file undashed no_dashes) ∙ goes rest utf8

-- an option in the place of FILE
pub dashed_is : (name word : Text) → is_dashed word ≡ true → is_dashes word ≡ false → (rest : List Text) → None ≡ told name (word ∷ rest)
dashed_is name word dashed is [] = rw dashed refl
dashed_is name word dashed is (second ∷ []) = rw (is, dashed) (go (is_dashes second))
  where
    named : Option Text → Option Invocation
    named = option_map (λ path. asking name path None)

    go : (b : Bool) → None ≡ named (cond (b && false) (Some word) None)
    go true = refl
    go false = refl
dashed_is name word dashed is (second ∷ third ∷ rest) = refl

pub file_right : (name : Text) → bytes_eq (codes "run") name ≡ false → (words : List Text) → All IsUtf8 words → Right name words
file_right name not_run [] utf8 = no_words name
file_right name not_run (word ∷ rest) utf8 = by_dashes (is_dashes word) refl
  where
    by_dashed : is_dashes word ≡ false → (b : Bool) → is_dashed word ≡ b → Right name (word ∷ rest)
    by_dashed is true dashed =
        let first : IsUtf8 word = utf8 0 word (omega arith) in
        stops (leaf name) _ word rest (flag_fails name word [] None 1 (flag word first dashed is) is) ∙ dashed_is name word dashed is rest
    by_dashed is false dashed = file_goes name word not_run dashed is rest (λ k d lt. utf8 (suc k) d (omega arith))

    by_dashes : (b : Bool) → is_dashes word ≡ b → Right name (word ∷ rest)
    by_dashes true is = subst (λ w. Right name (w ∷ rest)) (eq_dashes word is) (after_dashes name not_run rest)
    by_dashes false is = by_dashed is (is_dashed word) refl
