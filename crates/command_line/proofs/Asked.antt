-- What clap finds in the words of a command line.
use Rattle.std.proofs.Common.{◌≡◌, ◌∙◌, ◌⊎◌, ◌||◌, ℕ, Bool, cond, codes, true, false, refl, sym, ap, subst, List, [], ◌∷◌, Option, Some, None, inl, inr, ⊎_elim, is_some, true≢false}
use Rattle.std.specs.Prelude.{option_map, option_and_then, ◌==◌, fold, find, slice_get}
use Rattle.std.specs.Str.{bytes_eq, chars}
use Rattle.std.specs.Option.{option_map_or}
use Rattle.std.proofs.lemmas.Slice.Eq.{bytes_eq-Decides}
use Rattle.clap.specs.Lexer.{long_of, short_of}
use Rattle.clap.specs.Walk.{finished, settled, Held, Names, Rule, Row, Text, Walk, answers_to, arg_by_long, arg_by_short, idle, nothing_held, rows_after, subcommand_met, walk, walk_from, walked, word_met}
use Rattle.clap.specs.Simple.{App, Shape, rows_at, built, built_leaf, entered, label_of, names_of}
use Rattle.clap.specs.Kinds.{Kinds, or_else}
use Rattle.clap.specs.Faults.{check_fault, entered_fault, fault_of, defaults_fault, level_fault, long_fault, settle_fault, short_fault, step_fault, turn_fault, walk_fault, word_fault}
use Rattle.clap.specs.Words.{HasKind, HasMatchesOf, found_of, is_simple, is_simple_and_free, kind_of, rows_of, subcommand_name_of, subcommand_of, subcommand_rows_of}
use Rattle.clap.specs.declared.parser.matches.ArgMatches.{ArgMatches}
use Rattle.clap.specs.declared.parser.matches.ArgMatches.TheViews.{out-ArgMatches, out-SubCommand}
use Rattle.clap.specs.declared.error.Error.{Error}
use Rattle.clap.specs.declared.error.kind.ErrorKind.TheVariants.{OutOfMemory}
use Rattle.std.specs.Box.{box_value}
use Rattle.clap.specs.Walk.{bundle_met}
use Rattle.clap.specs.Faults.{flags_fault}
use Rattle.clap.proofs.FaultLemmas.{stopped_fault}
use Rattle.clap.proofs.WalkLemmas.{walk_stopped}
use Rattle.command_line.specs.CommandLine.{Invocation, asked, is_task, of_a_run, of_one_file, sbiboard, unless_faulty, with_file}

pub no_cons : {X : Type 0} (x : X) (xs : List X) → x ∷ xs ≡ [] → ⊥
no_cons x xs e = cc

pub both_empty : (a b : Kinds) → or_else a b ≡ [] → (a ≡ []) × (b ≡ [])
both_empty [] b e = (refl, e)
both_empty (k ∷ ks) b e = absurd (no_cons k ks e)

-- the command as clap builds it
abbrev whole : App
whole = built sbiboard

abbrev rules : List Rule
rules = whole.top.rules

abbrev names : Names
names = names_of whole

-- a subcommand as clap builds it
abbrev pub leaf : Text → Shape
leaf name = record (of_one_file name) { rules = (built_leaf (of_one_file name)).rules; disable_help_subcommand = true; is_built = true }

abbrev pub leaf_rules : List Rule
leaf_rules = (leaf []).rules

abbrev pub run_leaf : Shape
run_leaf = record of_a_run { rules = (built_leaf of_a_run).rules; disable_help_subcommand = true; is_built = true }

abbrev start : Walk
start = walk_from nothing_held

-- an option of the command: it asks for help or the version, or isn't known
long_fails : (name : Text) (value : Option Text) → long_fault rules false (arg_by_long rules name) value nothing_held ≡ [] → ⊥
long_fails name value = go (bytes_eq (codes "help") name) (bytes_eq (codes "version") name) value
  where
    go : (a b : Bool) (v : Option Text)
        → long_fault rules false (cond (a || false) (arg_by_long rules (codes "help")) (cond (b || false) (arg_by_long rules (codes "version")) None)) v nothing_held ≡ [] → ⊥
    go true b None e = no_cons _ _ e
    go true b (Some v) e = no_cons _ _ e
    go false true None e = no_cons _ _ e
    go false true (Some v) e = no_cons _ _ e
    go false false v e = no_cons _ _ e

short_fails : (x : ℕ) (flags : Text) (next : Held → Kinds) → short_fault rules false (arg_by_short rules x) flags nothing_held next ≡ [] → ⊥
short_fails x flags next = go (104 == x) (86 == x)
  where
    go : (a b : Bool) → short_fault rules false (cond (a || false) (arg_by_short rules 104) (cond (b || false) (arg_by_short rules 86) None)) flags nothing_held next ≡ [] → ⊥
    go true b e = no_cons _ _ e
    go false true e = no_cons _ _ e
    go false false e = no_cons _ _ e

-- a first word that is no subcommand's name, nor `--`
other_fails : (word : Text) → subcommand_met names idle word ≡ None → bytes_eq word (codes "--") ≡ false → turn_fault whole.top names start word ≡ [] → ⊥
unfolding flags_fault bundle_met
other_fails word none plain e = by_long (long_of word) refl
  where
    parts : (word_fault whole.top names false idle word nothing_held ≡ [])
        × (step_fault whole.top 1 (word_met rules names false idle 1 word nothing_held).0 (word_met rules names false idle 1 word nothing_held).1 ≡ [])
    parts = both_empty _ _ e

    by_char : (b : ℕ) (bs : Text) → long_of word ≡ None → short_of word ≡ Some (b ∷ bs) → (o : Option ℕ) → slice_get (chars (b ∷ bs)) 0 ≡ o → ⊥
    by_char b bs long short (Some x) is = short_fails x _ _ (rw (none, plain, long, short, is) at parts.0)
    by_char b bs long short None is = no_cons _ _ (rw (none, plain, long, short, is) at parts.1)

    by_short : long_of word ≡ None → (o : Option Text) → short_of word ≡ o → ⊥
    by_short long (Some []) is = no_cons _ _ (rw (none, plain, long, is) at parts.1)
    by_short long (Some (b ∷ bs)) is = by_char b bs long is (slice_get (chars (b ∷ bs)) 0) refl
    by_short long None is = no_cons _ _ (rw (none, plain, long, is) at parts.1)

    by_long : (o : Option (Text × Option Text)) → long_of word ≡ o → ⊥
    by_long (Some p) is = long_fails p.0 p.1 (rw (none, plain, is) at parts.0)
    by_long None is = by_short is (short_of word) refl

-- ---- the first word

turn_first : (own word : Text) (rest : List Text) → fault_of sbiboard (own ∷ word ∷ rest) ≡ [] → turn_fault whole.top names start word ≡ []
unfolding walk_fault
turn_first own word rest e = (both_empty _ _ (both_empty _ _ e).0).0

pub none_fails : fault_of sbiboard [] ≡ [] → ⊥
unfolding walk_fault defaults_fault
none_fails e = no_cons _ _ e

pub own_fails : (own : Text) → fault_of sbiboard (own ∷ []) ≡ [] → ⊥
unfolding walk_fault defaults_fault
own_fails own e = no_cons _ _ e

help_fails : (own : Text) (rest : List Text) → fault_of sbiboard (own ∷ codes "help" ∷ rest) ≡ [] → ⊥
help_fails own rest e = no_cons _ _ (turn_first own (codes "help") rest e)

dashes_fail : (own : Text) (rest : List Text) → fault_of sbiboard (own ∷ codes "--" ∷ rest) ≡ [] → ⊥
unfolding walk_fault walked defaults_fault
dashes_fail own [] e = no_cons _ _ e
dashes_fail own (word ∷ rest) e = no_cons _ _ e

or_else_none : (kinds : Kinds) → or_else kinds [] ≡ kinds
or_else_none [] = refl
or_else_none (k ∷ ks) = refl

-- what is found after a subcommand's name
abbrev pub Enters : Shape → Type 0
Enters s = (own : Text) (rest : List Text)
    → (fault_of sbiboard (own ∷ s.name ∷ rest) ≡ level_fault s [] nothing_held rest false [])
    × (subcommand_of sbiboard (own ∷ s.name ∷ rest) ≡ Some (s.name, rows_after s.rules [] rest))

abbrev stopped : Text → List Text → Walk
stopped name rest = record start { stopped = Some (name, rest) }

-- the walk of the words after a subcommand's name
module _ (s : Shape) (met : subcommand_met names idle s.name ≡ Some s.name) where
  walk_is : (rest : List Text) → walk rules names nothing_held (s.name ∷ rest) ≡ stopped s.name rest
  unfolding walked
  walk_is rest = ap (λ w. fold (walked rules names) w rest) (rw met refl) ∙ sym (walk_stopped rules names start s.name [] rest)

  module _ (task : bytes_eq s.name (codes "help") ≡ false) (found : find (λ t. answers_to s.name (label_of t)) whole.subs ≡ Some s) where
    rows_are : (rest : List Text) → entered whole (Some (s.name, rest)) ≡ Some (s.name, rows_after s.rules [] rest)
    rows_are rest = ap (option_map (λ t. rows_at t rest)) found

    -- what the command's own level finds faulty after the walk
    abbrev after : Walk → Kinds
    after w = or_else (entered_fault whole w.stopped) (or_else (settle_fault rules false w.held)
        (or_else (defaults_fault (settled rules w.held).rows rules) (check_fault whole.top (finished rules w.held) (is_some (entered whole w.stopped)))))

    after_is : (rest : List Text) → after (stopped s.name rest) ≡ level_fault s [] nothing_held rest false []
    unfolding defaults_fault
    after_is rest =
        ap (λ o. or_else (option_map_or (λ t. level_fault t [] nothing_held rest false []) o []) (check_fault whole.top [] (is_some (option_map (λ t. rows_at t rest) o)))) found
        ∙ or_else_none (level_fault s [] nothing_held rest false [])

    turn_is : turn_fault whole.top names start s.name ≡ []
    turn_is = rw (met, task) refl

    walk_fault_is : (rest : List Text) → walk_fault whole.top names start (s.name ∷ rest) ≡ []
    unfolding walk_fault walked
    walk_fault_is rest =
        ap (λ k. or_else k (walk_fault whole.top names (walked rules names start s.name) rest)) turn_is
        ∙ ap (λ w. walk_fault whole.top names w rest) (rw met refl)
        ∙ stopped_fault whole.top names start (s.name, []) rest

    enters : Enters s
    enters own rest = (
      ap (λ k. or_else k (after (walk rules names nothing_held (s.name ∷ rest)))) (walk_fault_is rest) ∙ ap after (walk_is rest) ∙ after_is rest,
      ap (λ w. entered whole w.stopped) (walk_is rest) ∙ rows_are rest,
    )

pub enters_run : Enters run_leaf
enters_run = enters run_leaf refl refl refl

-- a subcommand as clap builds it, by its name
abbrev pub leaf_of : Text → Shape
leaf_of name = cond (bytes_eq (codes "run") name) run_leaf (leaf name)

-- a word is a subcommand's name, or it and what follows it has a fault
abbrev pub FirstWord : Text → Type 0
FirstWord word = ((is_task word ≡ true) × ((leaf_of word).name ≡ word) × Enters (leaf_of word))
    ⊎ ((is_task word ≡ false) × ((own : Text) (rest : List Text) → fault_of sbiboard (own ∷ word ∷ rest) ≡ [] → ⊥))

pub first_word : (word : Text) → FirstWord word
first_word word = by_run (bytes_eq (codes "run") word) refl
  where
    same : (name : Text) → bytes_eq name word ≡ true → FirstWord name → FirstWord word
    same name eq h = subst FirstWord ((bytes_eq-Decides name word).0 eq) h

    by_dashes : bytes_eq (codes "run") word ≡ false → bytes_eq (codes "replay") word ≡ false → bytes_eq (codes "check") word ≡ false
        → bytes_eq (codes "help") word ≡ false → (b : Bool) → bytes_eq word (codes "--") ≡ b → FirstWord word
    by_dashes r p c h true is = subst FirstWord (sym ((bytes_eq-Decides word (codes "--")).0 is)) (inr (refl, dashes_fail))
    by_dashes r p c h false is = inr (rw (r, p, c) refl, λ own rest e. other_fails word (rw (r, p, c, h) refl) is (turn_first own word rest e))

    by_help : bytes_eq (codes "run") word ≡ false → bytes_eq (codes "replay") word ≡ false → bytes_eq (codes "check") word ≡ false
        → (b : Bool) → bytes_eq (codes "help") word ≡ b → FirstWord word
    by_help r p c true is = same (codes "help") is (inr (refl, help_fails))
    by_help r p c false is = by_dashes r p c is (bytes_eq word (codes "--")) refl

    by_check : bytes_eq (codes "run") word ≡ false → bytes_eq (codes "replay") word ≡ false → (b : Bool) → bytes_eq (codes "check") word ≡ b → FirstWord word
    by_check r p true is = same (codes "check") is (inl (refl, refl, enters (leaf (codes "check")) refl refl refl))
    by_check r p false is = by_help r p is (bytes_eq (codes "help") word) refl

    by_replay : bytes_eq (codes "run") word ≡ false → (b : Bool) → bytes_eq (codes "replay") word ≡ b → FirstWord word
    by_replay r true is = same (codes "replay") is (inl (refl, refl, enters (leaf (codes "replay")) refl refl refl))
    by_replay r false is = by_check r is (bytes_eq (codes "check") word) refl

    by_run : (b : Bool) → bytes_eq (codes "run") word ≡ b → FirstWord word
    by_run true is = same (codes "run") is (inl (refl, refl, enters_run))
    by_run false is = by_replay is (bytes_eq (codes "replay") word) refl

-- words without a fault begin with the program's own name and a subcommand's
pub record IsNamed (words : List Text) : Type 0 where
  pub name : Text
  pub rows : List Row
  pub task : is_task name ≡ true
  pub found : subcommand_of sbiboard words ≡ Some (name, rows)

named : (words : List Text) → fault_of sbiboard words ≡ [] → IsNamed words
named [] e = absurd (none_fails e)
named (own ∷ []) e = absurd (own_fails own e)
named (own ∷ name ∷ rest) e = elim (first_word name) [
  | inl task ↦ record {
    name = name;
    rows = rows_after (leaf_of name).rules [] rest;
    task = task.0;
    found = subst (λ w. subcommand_of sbiboard (own ∷ w ∷ rest) ≡ Some (w, rows_after (leaf_of name).rules [] rest)) task.1 (task.2 own rest).1;
  }
  | inr other ↦ absurd (other.1 own rest e)
]

or_false : (b : Bool) → (b || false) ≡ true → b ≡ true
or_false true e = refl
or_false false e = e

pub some_is : {X : Type 0} (x y : X) → Some x ≡ Some y → x ≡ y
some_is x y e = cc

pub task_named : (words : List Text) (name : Text) (rows : List Row) → fault_of sbiboard words ≡ [] → subcommand_of sbiboard words ≡ Some (name, rows) → is_task name ≡ true
task_named words name rows none found =
    let n = named words none in
    subst (λ w. is_task w ≡ true) (ap (λ (p : Text × List Row). p.0) (some_is _ _ (sym n.found ∙ found))) n.task

-- a subcommand's name that is neither of the others
pub the_third : (word : Text) → is_task word ≡ true → (word ≡ codes "run" → ⊥) → (word ≡ codes "check" → ⊥) → codes "replay" ≡ word
the_third word task not_run not_check = by_run (bytes_eq (codes "run") word) refl
  where
    by_check : bytes_eq (codes "run") word ≡ false → (b : Bool) → bytes_eq (codes "check") word ≡ b → bytes_eq (codes "replay") word ≡ true
    by_check run true is = absurd (not_check (sym ((bytes_eq-Decides (codes "check") word).0 is)))
    by_check run false is = or_false _ (rw (run, is) at task)

    by_run : (b : Bool) → bytes_eq (codes "run") word ≡ b → codes "replay" ≡ word
    by_run true is = absurd (not_run (sym ((bytes_eq-Decides (codes "run") word).0 is)))
    by_run false is = (bytes_eq-Decides (codes "replay") word).0 (by_check is (bytes_eq (codes "check") word) refl)

-- ---- what a parse finds

pub no_fault : (kinds : Kinds) (found : Option Invocation) → is_some (unless_faulty kinds found) ≡ true → kinds ≡ []
no_fault [] found e = refl
no_fault (k ∷ ks) found e = absurd (true≢false (sym e))

pub asked_is : (words : List Text) → fault_of sbiboard words ≡ [] → asked words ≡ option_and_then with_file (subcommand_of sbiboard words)
asked_is words none = ap (λ k. unless_faulty k (option_and_then with_file (subcommand_of sbiboard words))) none

-- the name and the rows of the subcommand that was met
pub met_is : (m : ArgMatches) (name : Text) (rows : List Row) → Some name ≡ subcommand_name_of m → Some rows ≡ option_map (λ (p : Text × List Row). p.1) (subcommand_rows_of m)
    → subcommand_rows_of m ≡ Some (name, rows)
met_is m name rows = go (out-ArgMatches m).subcommand (λ b. (out-SubCommand (box_value b)).name.now) (λ b. rows_of (found_of (out-SubCommand (box_value b)).matches))
  where
    go : {X : Type 0} (o : Option X) (f : X → Text) (g : X → List Row) → Some name ≡ option_map f o
        → Some rows ≡ option_map (λ (p : Text × List Row). p.1) (option_map {U = Text × List Row} (λ b. (f b, g b)) o) → option_map {U = Text × List Row} (λ b. (f b, g b)) o ≡ Some (name, rows)
    go None f g first second = cc
    go (Some b) f g first second = λ i. Some (sym (some_is _ _ first) i, sym (some_is _ _ second) i)

pub none_met : (m : ArgMatches) → None ≡ subcommand_name_of m → subcommand_rows_of m ≡ None
none_met m = go (out-ArgMatches m).subcommand (λ b. (out-SubCommand (box_value b)).name.now) (λ b. rows_of (found_of (out-SubCommand (box_value b)).matches))
  where
    go : {X : Type 0} (o : Option X) (f : X → Text) (g : X → List Row) → None ≡ option_map f o → option_map {U = Text × List Row} (λ b. (f b, g b)) o ≡ None
    go None f g e = refl
    go (Some b) f g e = cc

-- ---- what the clauses of a parse say of this command

pub sound : (a : App) (words : List Text) → a ≡ sbiboard → (is_simple_and_free a ≡ true → fault_of a words ≡ []) → fault_of sbiboard words ≡ []
sound a words is h = subst (λ b. fault_of b words ≡ []) is (h (ap is_simple_and_free is))

pub has_found : (a : App) (words : List Text) (m : ArgMatches) → a ≡ sbiboard → HasMatchesOf a words m → subcommand_rows_of m ≡ subcommand_of sbiboard words
has_found a words m is h = (h (ap is_simple is)).1 ∙ ap (λ b. subcommand_of b words) is

pub memory_alone : (a : App) (words : List Text) (e : Error) → a ≡ sbiboard → (is_simple_and_free a ≡ true → HasKind (fault_of a words) e)
    → is_some (asked words) ≡ true → kind_of e ≡ OutOfMemory
memory_alone a words e is h some =
    ⊎_elim (λ memory. memory) (λ none. absurd none)
    (subst (λ kinds. HasKind kinds e) (ap (λ b. fault_of b words) is ∙ no_fault _ _ some) (h (ap is_simple_and_free is)))

-- no subcommand, or none with a FILE
pub none_asked : (words : List Text) → fault_of sbiboard words ≡ [] → option_and_then with_file (subcommand_of sbiboard words) ≡ None → is_some (asked words) ≡ true → ⊥
none_asked words sound none some = true≢false (sym some ∙ ap is_some (asked_is words sound ∙ none))
