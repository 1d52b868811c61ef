-- What clap finds in the words after `run`, and in a whole line.
use Rattle.std.proofs.Common.{◌≡◌, ◌∙◌, ◌⊎◌, ◌&&◌, ◌||◌, ℕ, Bool, cond, codes, true, false, refl, sym, ap, ap₂, subst, suc, List, [], ◌∷◌, Option, Some, None, inl, inr, arith}
use Rattle.std.specs.Prelude.{◌==◌, option_and_then, option_map, slice_get}
use Rattle.std.specs.List.{All}
use Rattle.std.specs.Str.{IsUtf8, bytes_eq, chars}
use Rattle.std.proofs.lemmas.Slice.Eq.{bytes_eq-Decides}
use Rattle.clap.specs.Lexer.{long_of, short_of}
use Rattle.clap.specs.Walk.{Held, Row, Rule, Text, Waiting, Walk, arg_by_long, arg_by_short, finished, has_row, idle, is_pending, nothing_held, option, positional, pushed, settled, settled_rows, subcommand_met, used, walked}
use Rattle.clap.specs.Kinds.{Kinds, or_else}
use Rattle.clap.specs.Simple.{filled, with_index}
use Rattle.clap.specs.Faults.{check_fault, defaults_fault, flags_fault, long_fault, settle_fault, short_fault, turn_fault, walk_fault, word_fault}
use Rattle.command_line.specs.CommandLine.{Invocation, are_over, asked, asking, file, file_in, is_dashed, is_dashes, is_task, keep, keep_at_head, name_in, run_before, run_behind, run_in, unless_faulty, value_in, with_file, invocation_of}
use Rattle.command_line.proofs.Asked.{Enters, both_empty, enters_run, first_word, leaf, leaf_of, no_cons, none_fails, own_fails, run_leaf, some_is}
use Rattle.command_line.proofs.FileWords.{Flag, Plain, after, eq_dashes, file_met, file_right, finds, flag, next, none_found, plain, stops, told}

abbrev run_rules : List Rule
run_rules = run_leaf.rules

abbrev holding : List Row → Option (Text × List Text) → Held
holding rows pending = record { rows = rows; pending = pending; skip = 0 }

-- where a walk stands between two words
abbrev spot : Held → Waiting → ℕ → Bool → Walk
spot h waiting position is_trailing = record { held = h; waiting = waiting; position = position; is_trailing = is_trailing; stopped = None }

-- the first position is FILE's, where it isn't met yet
abbrev position_of : (met : Bool) → ℕ
position_of met = cond met 2 1

no_subcommand : (waiting : Waiting) (word : Text) → subcommand_met [] waiting word ≡ None
no_subcommand idle word = refl
no_subcommand (option id) word = refl
no_subcommand positional word = refl

-- `--` is passed over, and all words behind it are values
dashes_quiet : (h : Held) (waiting : Waiting) (position : ℕ) → turn_fault run_leaf [] (spot h waiting position false) (codes "--") ≡ []
dashes_quiet h waiting position = rw (no_subcommand waiting (codes "--")) refl

dashes_walked : (h : Held) (waiting : Waiting) (position : ℕ) → walked run_rules [] (spot h waiting position false) (codes "--") ≡ spot h waiting position true
unfolding walked
dashes_walked h waiting position = rw (no_subcommand waiting (codes "--")) refl

-- a positional that is one word settles what is pending
abbrev file_rule : Rule
file_rule = with_index 1 (filled file)

one_word : {X : Type 0} (b : Bool) (x y : X) → cond (b && false) x y ≡ y
one_word true x y = refl
one_word false x y = refl

ends_bad : (w : Walk) → (settle_fault run_rules false w.held ≡ [] → ⊥) → finds run_leaf w [] ≡ None
unfolding walk_fault
ends_bad w bad = none_found (after run_leaf w) (with_file (run_leaf.name, finished run_rules w.held))
    (λ e. bad (both_empty (settle_fault run_rules false w.held) (or_else (defaults_fault (settled run_rules w.held).rows run_rules) (check_fault run_leaf (finished run_rules w.held) false)) e).0)

-- ---- where what is pending can't be used

module _ (rows : List Row) (pending : Option (Text × List Text)) (bad : settle_fault run_rules false (holding rows pending) ≡ [] → ⊥) where
  abbrev kept_back : Held
  kept_back = holding rows pending

  long_bad : (name : Text) (given : Option Text) → long_fault run_rules false (arg_by_long run_rules name) given kept_back ≡ [] → ⊥
  long_bad name given = go (bytes_eq (codes "keep") name) (bytes_eq (codes "help") name) given
    where
      go : (a b : Bool) (v : Option Text)
          → long_fault run_rules false (cond (a || false) (arg_by_long run_rules (codes "keep")) (cond (b || false) (arg_by_long run_rules (codes "help")) None)) v kept_back ≡ [] → ⊥
      go true b None e = bad e
      go true b (Some v) e = bad (both_empty (settle_fault run_rules false kept_back) _ e).0
      go false true None e = bad (both_empty (settle_fault run_rules false kept_back) _ e).0
      go false true (Some v) e = no_cons _ _ e
      go false false v e = no_cons _ _ e

  short_bad : (x : ℕ) (flags : Text) (then : Held → Kinds) → short_fault run_rules false (arg_by_short run_rules x) flags kept_back then ≡ [] → ⊥
  short_bad x flags then = go (104 == x)
    where
      go : (b : Bool) → short_fault run_rules false (cond (b || false) (arg_by_short run_rules 104) None) flags kept_back then ≡ [] → ⊥
      go true e = bad (both_empty (settle_fault run_rules false kept_back) _ (both_empty _ _ e).0).0
      go false e = no_cons _ _ e

  flag_bad : (waiting : Waiting) (position : ℕ) (word : Text) → Flag word → is_dashes word ≡ false
      → turn_fault run_leaf [] (spot kept_back waiting position false) word ≡ [] → ⊥
  unfolding flags_fault
  flag_bad waiting position word looks undashed e = elim looks [
    | inl long ↦ long_bad long.0.0 long.0.1 (rw (no_subcommand waiting word, undashed, long.1) at by_word)
    | inr short ↦ short_bad short.4 _ _ (rw (no_subcommand waiting word, undashed, short.0, short.3, short.5) at by_word)
  ]
    where
      by_word : word_fault run_leaf [] false waiting word kept_back ≡ []
      by_word = (both_empty (word_fault run_leaf [] false waiting word kept_back) _ e).0

  value_bad : (waiting : Waiting) (met : Bool) (word : Text) → turn_fault run_leaf [] (spot kept_back waiting (position_of met) true) word ≡ [] → ⊥
  value_bad waiting true word e = no_cons _ _ e
  value_bad waiting false word e = bad (sym (one_word (is_pending file_rule pending) [] (settle_fault run_rules false kept_back)) ∙ e)

  plain_bad : (met : Bool) (word : Text) → Plain word → turn_fault run_leaf [] (spot kept_back idle (position_of met) false) word ≡ [] → ⊥
  plain_bad true word looks e = no_cons _ _ (rw (looks.dashes, looks.long, looks.short) at e)
  plain_bad false word looks e = bad (sym (one_word (is_pending file_rule pending) [] (settle_fault run_rules false kept_back)) ∙ (rw (looks.dashes, looks.long, looks.short) at e))

  -- so all that follows is in vain
  doomed_trailing : (waiting : Waiting) (met : Bool) (words : List Text) → finds run_leaf (spot kept_back waiting (position_of met) true) words ≡ None
  doomed_trailing waiting met [] = ends_bad (spot kept_back waiting (position_of met) true) bad
  doomed_trailing waiting met (word ∷ rest) = stops run_leaf (spot kept_back waiting (position_of met) true) word rest (value_bad waiting met word)

  doomed : (met : Bool) (words : List Text) → All IsUtf8 words → finds run_leaf (spot kept_back idle (position_of met) false) words ≡ None
  doomed met [] utf8 = ends_bad (spot kept_back idle (position_of met) false) bad
  doomed met (word ∷ rest) utf8 = by_dashes (is_dashes word) refl
    where
      by_dashed : is_dashes word ≡ false → (b : Bool) → is_dashed word ≡ b → finds run_leaf (spot kept_back idle (position_of met) false) (word ∷ rest) ≡ None
      by_dashed is true dashed =
          let first : IsUtf8 word = utf8 0 word (omega arith) in
          stops run_leaf (spot kept_back idle (position_of met) false) word rest (flag_bad idle (position_of met) word (flag word first dashed is) is)
      by_dashed is false dashed = stops run_leaf (spot kept_back idle (position_of met) false) word rest (plain_bad met word (plain word dashed))

      by_dashes : (b : Bool) → is_dashes word ≡ b → finds run_leaf (spot kept_back idle (position_of met) false) (word ∷ rest) ≡ None
      by_dashes true is = subst (λ w. finds run_leaf (spot kept_back idle (position_of met) false) (w ∷ rest) ≡ None) (eq_dashes word is)
          (next run_leaf (spot kept_back idle (position_of met) false) (spot kept_back idle (position_of met) true) (codes "--") rest
          (dashes_quiet kept_back idle (position_of met)) (dashes_walked kept_back idle (position_of met)) ∙ doomed_trailing idle met rest)
      by_dashes false is = by_dashed is (is_dashed word) refl

-- ---- words that name an option

record Kept (word : Text) : Type 0 where
  name : Text
  given : Option Text
  long : long_of word ≡ Some (name, given)
  keep : bytes_eq (codes "keep") name ≡ true

-- another option
abbrev Other : Text → Type 0
Other word = ((p : Text × Option Text) × (long_of word ≡ Some p) × (bytes_eq (codes "keep") p.0 ≡ false))
    ⊎ ((long_of word ≡ None) × (b : ℕ) × (bs : Text) × (short_of word ≡ Some (b ∷ bs)) × (x : ℕ) × (slice_get (chars (b ∷ bs)) 0 ≡ Some x))

sorted : (word : Text) → Flag word → Kept word ⊎ Other word
sorted word (inr short) = inr (inr short)
sorted word (inl long) = go (bytes_eq (codes "keep") long.0.0) refl
  where
    go : (b : Bool) → bytes_eq (codes "keep") long.0.0 ≡ b → Kept word ⊎ Other word
    go true is = inl (record { name = long.0.0; given = long.0.1; long = long.1; keep = is })
    go false is = inr (inl (long.0, long.1, is))

other_unkept : (word : Text) (rest : List Text) → Other word → keep_at_head (word ∷ rest) ≡ None
other_unkept word rest (inl long) = rw (long.1, long.2) refl
other_unkept word rest (inr short) = rw short.0 refl

module _ (rows : List Row) (pending : Option (Text × List Text)) where
  long_other : (name : Text) (given : Option Text) → bytes_eq (codes "keep") name ≡ false
      → long_fault run_rules false (arg_by_long run_rules name) given (holding rows pending) ≡ [] → ⊥
  long_other name given other e = go (bytes_eq (codes "help") name) given (rw other at e)
    where
      go : (b : Bool) (v : Option Text) → long_fault run_rules false (cond (b || false) (arg_by_long run_rules (codes "help")) None) v (holding rows pending) ≡ [] → ⊥
      go true None e = no_cons _ _ (both_empty (settle_fault run_rules false (holding rows pending)) _ e).1
      go true (Some v) e = no_cons _ _ e
      go false v e = no_cons _ _ e

  short_other : (x : ℕ) (flags : Text) (then : Held → Kinds) → short_fault run_rules false (arg_by_short run_rules x) flags (holding rows pending) then ≡ [] → ⊥
  short_other x flags then = go (104 == x)
    where
      go : (b : Bool) → short_fault run_rules false (cond (b || false) (arg_by_short run_rules 104) None) flags (holding rows pending) then ≡ [] → ⊥
      go true e = no_cons _ _ (both_empty (settle_fault run_rules false (holding rows pending)) _ (both_empty _ _ e).0).1
      go false e = no_cons _ _ e

  other_fails : (position : ℕ) (word : Text) → Other word → is_dashes word ≡ false → turn_fault run_leaf [] (spot (holding rows pending) idle position false) word ≡ [] → ⊥
  unfolding flags_fault
  other_fails position word looks undashed e = elim looks [
    | inl long ↦ long_other long.0.0 long.0.1 long.2 (rw (undashed, long.1) at by_word)
    | inr short ↦ short_other short.4 _ _ (rw (undashed, short.0, short.3, short.5) at by_word)
  ]
    where
      by_word : word_fault run_leaf [] false idle word (holding rows pending) ≡ []
      by_word = (both_empty (word_fault run_leaf [] false idle word (holding rows pending)) _ e).0

  -- a second FILE is too many
  stray : (word : Text) → Plain word → turn_fault run_leaf [] (spot (holding rows pending) idle 2 false) word ≡ [] → ⊥
  stray word looks e = no_cons _ _ (rw (looks.dashes, looks.long, looks.short) at e)

  stray_behind : (word : Text) (rest : List Text) → finds run_leaf (spot (holding rows pending) idle 2 true) (word ∷ rest) ≡ None
  stray_behind word rest = stops run_leaf (spot (holding rows pending) idle 2 true) word rest (λ e. no_cons _ _ e)

-- ---- `--keep` that waits for its value

abbrev keep_met : Text → Option (Text × List Text)
keep_met name = Some (codes "keep", name ∷ [])

abbrev waiting_at : List Row → Bool → Walk
waiting_at rows met = spot (holding rows (Some (codes "keep", []))) (option (codes "keep")) (position_of met) false

empty_bad : (rows : List Row) → settle_fault run_rules false (holding rows (Some (codes "keep", []))) ≡ [] → ⊥
empty_bad rows e = no_cons _ _ e

-- its value is there
abbrev valued : List Row → Bool → Option (Text × List Text) → Option Invocation
valued rows met None = None
valued rows met (Some p) = finds run_leaf (spot (holding rows (keep_met p.0)) idle (position_of met) false) p.1

value_quiet : (rows : List Row) (met : Bool) (word : Text) → Plain word → turn_fault run_leaf [] (waiting_at rows met) word ≡ []
value_quiet rows met word looks = rw (looks.dashes, looks.long, looks.short) refl

value_walked : (rows : List Row) (met : Bool) (word : Text) → Plain word
    → walked run_rules [] (waiting_at rows met) word ≡ spot (holding rows (keep_met word)) idle (position_of met) false
unfolding walked
value_walked rows met word looks = rw (looks.dashes, looks.long, looks.short) refl

waits : (rows : List Row) (met : Bool) (words : List Text) → All IsUtf8 words → finds run_leaf (waiting_at rows met) words ≡ valued rows met (name_in words)
waits rows met [] utf8 = ends_bad (waiting_at rows met) (empty_bad rows)
waits rows met (word ∷ rest) utf8 = by_dashes (is_dashes word) refl
  where
    Waits : Text → Type 0
    Waits w = finds run_leaf (waiting_at rows met) (w ∷ rest) ≡ valued rows met (name_in (w ∷ rest))

    h : Held
    h = holding rows (Some (codes "keep", []))

    by_dashed : is_dashes word ≡ false → (b : Bool) → is_dashed word ≡ b → Waits word
    by_dashed is true dashed =
        let first : IsUtf8 word = utf8 0 word (omega arith) in
        stops run_leaf (waiting_at rows met) word rest (flag_bad rows (Some (codes "keep", [])) (empty_bad rows) (option (codes "keep")) (position_of met) word (flag word first dashed is) is)
        ∙ (rw dashed refl)
    by_dashed is false dashed =
        next run_leaf (waiting_at rows met) (spot (holding rows (keep_met word)) idle (position_of met) false) word rest (value_quiet rows met word (plain word dashed))
        (value_walked rows met word (plain word dashed)) ∙ (rw dashed refl)

    by_dashes : (b : Bool) → is_dashes word ≡ b → Waits word
    by_dashes true is = subst Waits (eq_dashes word is)
        (next run_leaf (waiting_at rows met) (spot h (option (codes "keep")) (position_of met) true) (codes "--") rest (dashes_quiet h (option (codes "keep")) (position_of met))
        (dashes_walked h (option (codes "keep")) (position_of met))
        ∙ doomed_trailing rows (Some (codes "keep", [])) (empty_bad rows) (option (codes "keep")) met rest)
    by_dashes false is = by_dashed is (is_dashed word) refl

name_utf8 : (words : List Text) (p : Text × List Text) → All IsUtf8 words → name_in words ≡ Some p → All IsUtf8 p.1
name_utf8 [] p utf8 e = cc
name_utf8 (word ∷ rest) p utf8 e = go (is_dashed word) e
  where
    go : (b : Bool) → cond b None (Some (word, rest)) ≡ Some p → All IsUtf8 p.1
    go true e = cc
    go false e = subst (λ (q : Text × List Text). All IsUtf8 q.1) (some_is _ _ e) (λ k d lt. utf8 (suc k) d (omega arith))

-- ---- where FILE and `--keep` are met

abbrev keep_rule : Rule
keep_rule = filled keep

abbrev keep_rows : Text → List Row → List Row
keep_rows name rows = used keep_rule (name ∷ []) rows

abbrev file_rows : Text → List Row
file_rows file = settled_rows run_rules (file_met file) []

-- what a run asks for
abbrev run_asks : Text → Option Text → Option Invocation
run_asks file kept = Some (asking (codes "run") file kept)

-- a word behind a name of `--keep` that is used already
twice_bad : (rows : List Row) (name : Text) → has_row (codes "keep") rows ≡ true → settle_fault run_rules false (holding rows (keep_met name)) ≡ [] → ⊥
twice_bad rows name again e = no_cons _ _ (rw again at e)

module _ (rows : List Row) (pending : Option (Text × List Text)) (ok : settle_fault run_rules false (holding rows pending) ≡ []) where
  -- `--keep=NAME`, and `--keep`
  given_quiet : (met : Bool) (word : Text) (k : Kept word) (value : Text) → k.given ≡ Some value → has_row (codes "keep") (settled_rows run_rules pending rows) ≡ false → is_dashes word ≡ false
      → turn_fault run_leaf [] (spot (holding rows pending) idle (position_of met) false) word ≡ []
  given_quiet met word k value given none undashed = rw (undashed, k.long, k.keep, given, ok, none) refl

  given_walked : (met : Bool) (word : Text) (k : Kept word) (value : Text) → k.given ≡ Some value → is_dashes word ≡ false
      → walked run_rules [] (spot (holding rows pending) idle (position_of met) false) word
      ≡ spot (holding (keep_rows value (settled_rows run_rules pending rows)) None) idle (position_of met) false
  unfolding walked
  given_walked met word k value given undashed = rw (undashed, k.long, k.keep, given) refl

  asked_quiet : (met : Bool) (word : Text) (k : Kept word) → k.given ≡ None → is_dashes word ≡ false
      → turn_fault run_leaf [] (spot (holding rows pending) idle (position_of met) false) word ≡ []
  asked_quiet met word k given undashed = rw (undashed, k.long, k.keep, given, ok) refl

  asked_walked : (met : Bool) (word : Text) (k : Kept word) → k.given ≡ None → is_dashes word ≡ false
      → walked run_rules [] (spot (holding rows pending) idle (position_of met) false) word ≡ waiting_at (settled_rows run_rules pending rows) met
  unfolding walked
  asked_walked met word k given undashed = rw (undashed, k.long, k.keep, given) refl

  -- a second `--keep`
  given_again : (met : Bool) (word : Text) (k : Kept word) (value : Text) → k.given ≡ Some value → has_row (codes "keep") (settled_rows run_rules pending rows) ≡ true → is_dashes word ≡ false
      → turn_fault run_leaf [] (spot (holding rows pending) idle (position_of met) false) word ≡ [] → ⊥
  given_again met word k value given again undashed e = no_cons _ _ (rw (undashed, k.long, k.keep, given, ok, again) at e)

  kept_again : (met : Bool) (word : Text) (rest : List Text) → All IsUtf8 rest → Kept word → has_row (codes "keep") (settled_rows run_rules pending rows) ≡ true → is_dashes word ≡ false
      → finds run_leaf (spot (holding rows pending) idle (position_of met) false) (word ∷ rest) ≡ None
  kept_again met word rest utf8 k again undashed = go k.given refl
    where
      valued_none : (o : Option (Text × List Text)) → name_in rest ≡ o → valued (settled_rows run_rules pending rows) met o ≡ None
      valued_none None is = refl
      valued_none (Some p) is = doomed (settled_rows run_rules pending rows) (keep_met p.0) (twice_bad (settled_rows run_rules pending rows) p.0 again) met p.1 (name_utf8 rest p utf8 is)

      go : (v : Option Text) → k.given ≡ v → finds run_leaf (spot (holding rows pending) idle (position_of met) false) (word ∷ rest) ≡ None
      go (Some value) given = stops run_leaf (spot (holding rows pending) idle (position_of met) false) word rest (given_again met word k value given again undashed)
      go None given =
          next run_leaf (spot (holding rows pending) idle (position_of met) false) (waiting_at (settled_rows run_rules pending rows) met) word rest (asked_quiet met word k given undashed)
          (asked_walked met word k given undashed)
          ∙ waits (settled_rows run_rules pending rows) met rest utf8 ∙ valued_none (name_in rest) refl

  -- FILE
  file_quiet : (word : Text) → Plain word → turn_fault run_leaf [] (spot (holding rows pending) idle 1 false) word ≡ []
  file_quiet word looks = rw (looks.dashes, looks.long, looks.short) (one_word (is_pending file_rule pending) [] (settle_fault run_rules false (holding rows pending)) ∙ ok)

  file_walked : (word : Text) → Plain word
      → walked run_rules [] (spot (holding rows pending) idle 1 false) word ≡ spot (holding (settled_rows run_rules pending rows) (file_met word)) idle 2 false
  unfolding walked
  file_walked word looks = rw (looks.dashes, looks.long, looks.short)
      (ap (λ h. spot (pushed (codes "FILE") word h) idle 2 false) (one_word (is_pending file_rule pending) (holding rows pending) (settled run_rules (holding rows pending))))

  -- behind `--`
  last_quiet : (waiting : Waiting) (word : Text) → turn_fault run_leaf [] (spot (holding rows pending) waiting 1 true) word ≡ []
  last_quiet waiting word = one_word (is_pending file_rule pending) [] (settle_fault run_rules false (holding rows pending)) ∙ ok

  last_walked : (word : Text)
      → walked run_rules [] (spot (holding rows pending) idle 1 true) word ≡ spot (holding (settled_rows run_rules pending rows) (file_met word)) idle 2 true
  unfolding walked
  last_walked word =
      ap (λ h. spot (pushed (codes "FILE") word h) idle 2 true) (one_word (is_pending file_rule pending) (holding rows pending) (settled run_rules (holding rows pending)))

-- FILE and `--keep` are both met: no more than `--` may follow
module _ (rows : List Row) (pending : Option (Text × List Text)) (ok : settle_fault run_rules false (holding rows pending) ≡ [])
    (again : has_row (codes "keep") (settled_rows run_rules pending rows) ≡ true) (file name : Text)
    (over : (is_trailing : Bool) → finds run_leaf (spot (holding rows pending) idle 2 is_trailing) [] ≡ run_asks file (Some name)) where
  abbrev Full : List Text → Type 0
  Full words = finds run_leaf (spot (holding rows pending) idle 2 false) words ≡ cond (are_over words) (run_asks file (Some name)) None

  full_behind : (rest : List Text) → Full (codes "--" ∷ rest)
  full_behind [] = next run_leaf (spot (holding rows pending) idle 2 false) (spot (holding rows pending) idle 2 true) (codes "--") [] (dashes_quiet (holding rows pending) idle 2)
      (dashes_walked (holding rows pending) idle 2) ∙ over true
  full_behind (word ∷ rest) =
      next run_leaf (spot (holding rows pending) idle 2 false) (spot (holding rows pending) idle 2 true) (codes "--") (word ∷ rest) (dashes_quiet (holding rows pending) idle 2)
      (dashes_walked (holding rows pending) idle 2) ∙ stray_behind rows pending word rest

  not_over : (word : Text) (rest : List Text) → is_dashes word ≡ false → None ≡ cond (are_over (word ∷ rest)) (run_asks file (Some name)) None
  not_over word [] is = rw is refl
  not_over word (second ∷ rest) is = refl

  full : (words : List Text) → All IsUtf8 words → Full words
  full [] utf8 = over false
  full (word ∷ rest) utf8 = by_dashes (is_dashes word) refl
    where
      by_looks : is_dashes word ≡ false → Kept word ⊎ Other word → Full (word ∷ rest)
      by_looks is (inl k) = kept_again rows pending ok true word rest (λ j d lt. utf8 (suc j) d (omega arith)) k again is ∙ not_over word rest is
      by_looks is (inr other) = stops run_leaf (spot (holding rows pending) idle 2 false) word rest (other_fails rows pending 2 word other is) ∙ not_over word rest is

      by_dashed : is_dashes word ≡ false → (b : Bool) → is_dashed word ≡ b → Full (word ∷ rest)
      by_dashed is true dashed =
          let first : IsUtf8 word = utf8 0 word (omega arith) in
          by_looks is (sorted word (flag word first dashed is))
      by_dashed is false dashed = stops run_leaf (spot (holding rows pending) idle 2 false) word rest (stray rows pending word (plain word dashed)) ∙ not_over word rest is

      by_dashes : (b : Bool) → is_dashes word ≡ b → Full (word ∷ rest)
      by_dashes true is = subst (λ w. Full (w ∷ rest)) (eq_dashes word is) (full_behind rest)
      by_dashes false is = by_dashed is (is_dashed word) refl

file_none : (word : Text) (rest : List Text) → is_dashed word ≡ true → is_dashes word ≡ false → file_in (word ∷ rest) ≡ None
file_none word [] dashed is = rw dashed refl
file_none word (second ∷ []) dashed is = rw (is, dashed) (go (is_dashes second))
  where
    go : (b : Bool) → cond (b && false) (Some word) None ≡ None
    go true = refl
    go false = refl
file_none word (second ∷ third ∷ rest) dashed is = refl

-- FILE, and then no more than `--`
file_over : (word : Text) (rest : List Text) → is_dashed word ≡ false → is_dashes word ≡ false → file_in (word ∷ rest) ≡ cond (are_over rest) (Some word) None
file_over word [] undashed is = rw undashed refl
file_over word (second ∷ []) undashed is = rw (is, undashed) (go (is_dashes second))
  where
    go : (b : Bool) → cond (b && true) (Some word) None ≡ cond b (Some word) None
    go true = refl
    go false = refl
file_over word (second ∷ third ∷ rest) undashed is = refl

abbrev with_name : Text → Option Text → Option Invocation
with_name name = option_map (λ path. asking (codes "run") path (Some name))

full_name : (b : Bool) (path name : Text) → cond b (run_asks path (Some name)) None ≡ with_name name (cond b (Some path) None)
full_name true path name = refl
full_name false path name = refl

-- FILE behind `--keep`, whose value is settled
full_behind_keep : (file name : Text) (words : List Text) → All IsUtf8 words
    → finds run_leaf (spot (holding (keep_rows name []) (file_met file)) idle 2 false) words ≡ cond (are_over words) (run_asks file (Some name)) None
unfolding walk_fault defaults_fault
full_behind_keep file name = full (keep_rows name []) (file_met file) refl refl file name over
  where
    over : (is_trailing : Bool) → finds run_leaf (spot (holding (keep_rows name []) (file_met file)) idle 2 is_trailing) [] ≡ run_asks file (Some name)
    over is_trailing = refl

-- `--keep` is met, and FILE isn't
module _ (rows : List Row) (pending : Option (Text × List Text)) (ok : settle_fault run_rules false (holding rows pending) ≡ [])
    (name : Text) (rows_are : settled_rows run_rules pending rows ≡ keep_rows name [])
    (none : (is_trailing : Bool) → finds run_leaf (spot (holding rows pending) idle 1 is_trailing) [] ≡ None) where
  abbrev Named : List Text → Type 0
  Named words = finds run_leaf (spot (holding rows pending) idle 1 false) words ≡ with_name name (file_in words)

  again : has_row (codes "keep") (settled_rows run_rules pending rows) ≡ true
  again = rw rows_are refl

  placed : (word : Text) (is_trailing : Bool)
      → spot (holding (settled_rows run_rules pending rows) (file_met word)) idle 2 is_trailing ≡ spot (holding (keep_rows name []) (file_met word)) idle 2 is_trailing
  placed word is_trailing = ap (λ r. spot (holding r (file_met word)) idle 2 is_trailing) rows_are

  last_one : (word : Text) (rest : List Text)
      → finds run_leaf (spot (holding rows pending) idle 1 true) (word ∷ rest) ≡ finds run_leaf (spot (holding (keep_rows name []) (file_met word)) idle 2 true) rest
  last_one word rest = next run_leaf (spot (holding rows pending) idle 1 true) (spot (holding (keep_rows name []) (file_met word)) idle 2 true) word rest
      (last_quiet rows pending ok idle word) (last_walked rows pending ok word ∙ placed word true)

  alone : (word : Text) → finds run_leaf (spot (holding (keep_rows name []) (file_met word)) idle 2 true) [] ≡ run_asks word (Some name)
  unfolding walk_fault defaults_fault
  alone word = refl

  last : (rest : List Text) → finds run_leaf (spot (holding rows pending) idle 1 true) rest ≡ with_name name (file_in (codes "--" ∷ rest))
  last [] = none true
  last (word ∷ []) = last_one word [] ∙ alone word
  last (word ∷ second ∷ rest) = last_one word (second ∷ rest) ∙ stray_behind (keep_rows name []) (file_met word) second rest

  named_behind : (rest : List Text) → Named (codes "--" ∷ rest)
  named_behind rest = next run_leaf (spot (holding rows pending) idle 1 false) (spot (holding rows pending) idle 1 true) (codes "--") rest
      (dashes_quiet (holding rows pending) idle 1) (dashes_walked (holding rows pending) idle 1) ∙ last rest

  named : (words : List Text) → All IsUtf8 words → Named words
  named [] utf8 = none false
  named (word ∷ rest) utf8 = by_dashes (is_dashes word) refl
    where
      later : All IsUtf8 rest
      later = λ j d lt. utf8 (suc j) d (omega arith)

      no_name : is_dashed word ≡ true → is_dashes word ≡ false → None ≡ with_name name (file_in (word ∷ rest))
      no_name dashed is = ap (with_name name) (sym (file_none word rest dashed is))

      by_looks : is_dashed word ≡ true → is_dashes word ≡ false → Kept word ⊎ Other word → Named (word ∷ rest)
      by_looks dashed is (inl k) = kept_again rows pending ok false word rest later k again is ∙ no_name dashed is
      by_looks dashed is (inr other) =
          stops run_leaf (spot (holding rows pending) idle 1 false) word rest (other_fails rows pending 1 word other is) ∙ no_name dashed is

      by_dashed : is_dashes word ≡ false → (b : Bool) → is_dashed word ≡ b → Named (word ∷ rest)
      by_dashed is true dashed =
          let first : IsUtf8 word = utf8 0 word (omega arith) in
          by_looks dashed is (sorted word (flag word first dashed is))
      by_dashed is false dashed =
          next run_leaf (spot (holding rows pending) idle 1 false) (spot (holding (keep_rows name []) (file_met word)) idle 2 false) word rest
          (file_quiet rows pending ok word (plain word dashed)) (file_walked rows pending ok word (plain word dashed) ∙ placed word false)
          ∙ full_behind_keep word name rest later ∙ full_name (are_over rest) word name ∙ ap (with_name name) (sym (file_over word rest dashed is))

      by_dashes : (b : Bool) → is_dashes word ≡ b → Named (word ∷ rest)
      by_dashes true is = subst (λ w. Named (w ∷ rest)) (eq_dashes word is) (named_behind rest)
      by_dashes false is = by_dashed is (is_dashed word) refl

-- the two ways in which `--keep` is met before FILE
named_apart : (name : Text) (words : List Text) → All IsUtf8 words
    → finds run_leaf (spot (holding [] (keep_met name)) idle 1 false) words ≡ with_name name (file_in words)
unfolding walk_fault defaults_fault
named_apart name = named [] (keep_met name) refl name refl none
  where
    none : (is_trailing : Bool) → finds run_leaf (spot (holding [] (keep_met name)) idle 1 is_trailing) [] ≡ None
    none is_trailing = refl

named_at_once : (name : Text) (words : List Text) → All IsUtf8 words
    → finds run_leaf (spot (holding (keep_rows name []) None) idle 1 false) words ≡ with_name name (file_in words)
unfolding walk_fault defaults_fault
named_at_once name = named (keep_rows name []) None refl name refl none
  where
    none : (is_trailing : Bool) → finds run_leaf (spot (holding (keep_rows name []) None) idle 1 is_trailing) [] ≡ None
    none is_trailing = refl

-- the two ways in which it is met behind FILE
full_apart : (file name : Text) (words : List Text) → All IsUtf8 words
    → finds run_leaf (spot (holding (file_rows file) (keep_met name)) idle 2 false) words ≡ cond (are_over words) (run_asks file (Some name)) None
unfolding walk_fault defaults_fault
full_apart file name = full (file_rows file) (keep_met name) refl refl file name over
  where
    over : (is_trailing : Bool) → finds run_leaf (spot (holding (file_rows file) (keep_met name)) idle 2 is_trailing) [] ≡ run_asks file (Some name)
    over is_trailing = refl

full_at_once : (file name : Text) (words : List Text) → All IsUtf8 words
    → finds run_leaf (spot (holding (keep_rows name (file_rows file)) None) idle 2 false) words ≡ cond (are_over words) (run_asks file (Some name)) None
unfolding walk_fault defaults_fault
full_at_once file name = full (keep_rows name (file_rows file)) None refl refl file name over
  where
    over : (is_trailing : Bool) → finds run_leaf (spot (holding (keep_rows name (file_rows file)) None) idle 2 is_trailing) [] ≡ run_asks file (Some name)
    over is_trailing = refl

-- ---- all words of a run

abbrev run_told : Option (Text × Option Text) → Option Invocation
run_told = option_map (λ found. asking (codes "run") found.0 found.1)

abbrev unkept : List Text → Option (Text × Option Text)
unkept words = option_map (λ path. (path, None)) (file_in words)

told_full : (b : Bool) (path name : Text) → cond b (run_asks path (Some name)) None ≡ run_told (cond b (Some (path, Some name)) None)
told_full true path name = refl
told_full false path name = refl

told_name : (o : Option Text) (name : Text) → with_name name o ≡ run_told (option_map (λ path. (path, Some name)) o)
told_name None name = refl
told_name (Some path) name = refl

told_file : (b : Bool) (path : Text) → cond b (run_asks path None) None ≡ run_told (option_map (λ p. (p, None)) (cond b (Some path) None))
told_file true path = refl
told_file false path = refl

-- FILE is met
module _ (file : Text) (undashed : is_dashed file ≡ false) (no_dashes : is_dashes file ≡ false) where
  abbrev met : Bool → Walk
  met is_trailing = spot (holding [] (file_met file)) idle 2 is_trailing

  abbrev Goes : List Text → Type 0
  Goes rest = finds run_leaf (met false) rest ≡ run_told (run_behind file (keep_at_head rest) (unkept (file ∷ rest)))

  over : (is_trailing : Bool) → finds run_leaf (met is_trailing) [] ≡ run_asks file None
  unfolding walk_fault defaults_fault
  over is_trailing = refl

  -- with no `--keep` behind it
  bare : (rest : List Text) → keep_at_head rest ≡ None → cond (are_over rest) (run_asks file None) None ≡ run_told (run_behind file (keep_at_head rest) (unkept (file ∷ rest)))
  bare rest none =
      told_file (are_over rest) file ∙ ap (λ o. run_told (option_map (λ path. (path, None)) o)) (sym (file_over file rest undashed no_dashes))
      ∙ ap (λ k. run_told (run_behind file k (unkept (file ∷ rest)))) (sym none)

  goes_behind : (rest : List Text) → Goes (codes "--" ∷ rest)
  goes_behind [] = next run_leaf (met false) (met true) (codes "--") [] (dashes_quiet (holding [] (file_met file)) idle 2) (dashes_walked (holding [] (file_met file)) idle 2)
      ∙ over true ∙ bare (codes "--" ∷ []) refl
  goes_behind (word ∷ rest) =
      next run_leaf (met false) (met true) (codes "--") (word ∷ rest) (dashes_quiet (holding [] (file_met file)) idle 2) (dashes_walked (holding [] (file_met file)) idle 2)
      ∙ stray_behind [] (file_met file) word rest ∙ bare (codes "--" ∷ word ∷ rest) refl

  no_more : (word : Text) (rest : List Text) → is_dashes word ≡ false → None ≡ cond (are_over (word ∷ rest)) (run_asks file None) None
  no_more word [] is = rw is refl
  no_more word (second ∷ rest) is = refl

  goes : (rest : List Text) → All IsUtf8 rest → Goes rest
  goes [] utf8 = over false ∙ bare [] refl
  goes (word ∷ rest) utf8 = by_dashes (is_dashes word) refl
    where
      later : All IsUtf8 rest
      later = λ j d lt. utf8 (suc j) d (omega arith)

      -- `--keep` with its value
      valued_is : is_dashes word ≡ false → (k : Kept word) → k.given ≡ None → (o : Option (Text × List Text)) → name_in rest ≡ o
          → valued (file_rows file) true o ≡ run_told (run_behind file o (unkept (file ∷ word ∷ rest)))
      valued_is is k given None none = no_more word rest is ∙ told_file (are_over (word ∷ rest)) file
          ∙ ap (λ o. run_told (option_map (λ path. (path, None)) o)) (sym (file_over file (word ∷ rest) undashed no_dashes))
      valued_is is k given (Some p) some = full_apart file p.0 p.1 (name_utf8 rest p later some) ∙ told_full (are_over p.1) file p.0 ∙ (rw undashed refl)

      kept_is : (k : Kept word) (v : Option Text) → k.given ≡ v → keep_at_head (word ∷ rest) ≡ value_in v rest
      kept_is k v given = rw (k.long, k.keep, given) refl

      by_given : is_dashes word ≡ false → (k : Kept word) (v : Option Text) → k.given ≡ v → Goes (word ∷ rest)
      by_given is k (Some value) given =
          next run_leaf (met false) (spot (holding (keep_rows value (file_rows file)) None) idle 2 false) word rest
          (given_quiet [] (file_met file) refl true word k value given refl is) (given_walked [] (file_met file) refl true word k value given is)
          ∙ full_at_once file value rest later ∙ told_full (are_over rest) file value
          ∙ (rw undashed refl) ∙ ap (λ o. run_told (run_behind file o (unkept (file ∷ word ∷ rest)))) (sym (kept_is k (Some value) given))
      by_given is k None given =
          next run_leaf (met false) (waiting_at (file_rows file) true) word rest
          (asked_quiet [] (file_met file) refl true word k given is) (asked_walked [] (file_met file) refl true word k given is)
          ∙ waits (file_rows file) true rest later ∙ valued_is is k given (name_in rest) refl
          ∙ ap (λ o. run_told (run_behind file o (unkept (file ∷ word ∷ rest)))) (sym (kept_is k None given))

      by_looks : is_dashes word ≡ false → Kept word ⊎ Other word → Goes (word ∷ rest)
      by_looks is (inl k) = by_given is k k.given refl
      by_looks is (inr other) = stops run_leaf (met false) word rest (other_fails [] (file_met file) 2 word other is)
          ∙ no_more word rest is ∙ bare (word ∷ rest) (other_unkept word rest other)

      by_dashed : is_dashes word ≡ false → (b : Bool) → is_dashed word ≡ b → Goes (word ∷ rest)
      by_dashed is true dashed =
          let first : IsUtf8 word = utf8 0 word (omega arith) in
          by_looks is (sorted word (flag word first dashed is))
      by_dashed is false dashed =
          let looks = plain word dashed in
          stops run_leaf (met false) word rest (stray [] (file_met file) word looks) ∙ no_more word rest is ∙ bare (word ∷ rest) (rw looks.long refl)

      by_dashes : (b : Bool) → is_dashes word ≡ b → Goes (word ∷ rest)
      by_dashes true is = subst (λ w. Goes (w ∷ rest)) (eq_dashes word is) (goes_behind rest)
      by_dashes false is = by_dashed is (is_dashed word) refl

abbrev begins : Bool → Walk
begins is_trailing = spot nothing_held idle 1 is_trailing

abbrev RunRight : List Text → Type 0
RunRight words = finds run_leaf (begins false) words ≡ run_told (run_in words)

-- a word that begins with `-` is no FILE
behind_dashed : (word : Text) (kept : Option (Text × List Text)) (other : Option (Text × Option Text)) → is_dashed word ≡ true → run_behind word kept other ≡ other
behind_dashed word None other dashed = refl
behind_dashed word (Some p) other dashed = rw dashed refl

begin_none : (is_trailing : Bool) → finds run_leaf (begins is_trailing) [] ≡ None
unfolding walk_fault defaults_fault
begin_none is_trailing = refl

begin_last : (rest : List Text) → finds run_leaf (begins true) rest ≡ run_told (unkept (codes "--" ∷ rest))
unfolding walk_fault walked defaults_fault
begin_last [] = refl
begin_last (path ∷ []) = refl
begin_last (path ∷ second ∷ rest) = refl

run_right_behind : (rest : List Text) → RunRight (codes "--" ∷ rest)
run_right_behind rest =
    next run_leaf (begins false) (begins true) (codes "--") rest (dashes_quiet nothing_held idle 1) (dashes_walked nothing_held idle 1)
    ∙ begin_last rest ∙ ap run_told (sym (behind_dashed (codes "--") (keep_at_head rest) (unkept (codes "--" ∷ rest)) refl))

run_right : (words : List Text) → All IsUtf8 words → RunRight words
run_right [] utf8 = begin_none false
run_right (word ∷ rest) utf8 = by_dashes (is_dashes word) refl
  where
    later : All IsUtf8 rest
    later = λ j d lt. utf8 (suc j) d (omega arith)

    without : Option (Text × Option Text)
    without = run_behind word (keep_at_head rest) (unkept (word ∷ rest))

    told_by : Option (Text × List Text) → Option Invocation
    told_by kept = run_told (run_before kept without)

    none_told : is_dashed word ≡ true → is_dashes word ≡ false → None ≡ run_told without
    none_told dashed is =
        ap (λ o. run_told (option_map (λ path. (path, None)) o)) (sym (file_none word rest dashed is))
        ∙ ap run_told (sym (behind_dashed word (keep_at_head rest) (unkept (word ∷ rest)) dashed))

    valued_is : is_dashed word ≡ true → is_dashes word ≡ false → (o : Option (Text × List Text)) → name_in rest ≡ o → valued [] false o ≡ told_by o
    valued_is dashed is None none = none_told dashed is
    valued_is dashed is (Some p) some = named_apart p.0 p.1 (name_utf8 rest p later some) ∙ told_name (file_in p.1) p.0

    kept_is : (k : Kept word) (v : Option Text) → k.given ≡ v → keep_at_head (word ∷ rest) ≡ value_in v rest
    kept_is k v given = rw (k.long, k.keep, given) refl

    by_given : is_dashed word ≡ true → is_dashes word ≡ false → (k : Kept word) (v : Option Text) → k.given ≡ v → RunRight (word ∷ rest)
    by_given dashed is k (Some value) given =
        next run_leaf (begins false) (spot (holding (keep_rows value []) None) idle 1 false) word rest
        (given_quiet [] None refl false word k value given refl is) (given_walked [] None refl false word k value given is)
        ∙ named_at_once value rest later ∙ told_name (file_in rest) value ∙ ap told_by (sym (kept_is k (Some value) given))
    by_given dashed is k None given =
        next run_leaf (begins false) (waiting_at [] false) word rest
        (asked_quiet [] None refl false word k given is) (asked_walked [] None refl false word k given is)
        ∙ waits [] false rest later ∙ valued_is dashed is (name_in rest) refl ∙ ap told_by (sym (kept_is k None given))

    by_looks : is_dashed word ≡ true → is_dashes word ≡ false → Kept word ⊎ Other word → RunRight (word ∷ rest)
    by_looks dashed is (inl k) = by_given dashed is k k.given refl
    by_looks dashed is (inr other) = stops run_leaf (begins false) word rest (other_fails [] None 1 word other is)
        ∙ none_told dashed is ∙ ap told_by (sym (other_unkept word rest other))

    by_dashed : is_dashes word ≡ false → (b : Bool) → is_dashed word ≡ b → RunRight (word ∷ rest)
    by_dashed is true dashed =
        let first : IsUtf8 word = utf8 0 word (omega arith) in
        by_looks dashed is (sorted word (flag word first dashed is))
    by_dashed is false dashed =
        let looks = plain word dashed in
        next run_leaf (begins false) (spot (holding [] (file_met word)) idle 2 false) word rest (file_quiet [] None refl word looks) (file_walked [] None refl word looks)
        ∙ goes word dashed is rest later ∙ ap told_by (sym (plain_unkept looks))
      where
        plain_unkept : Plain word → keep_at_head (word ∷ rest) ≡ None
        plain_unkept looks = rw looks.long refl

    by_dashes : (b : Bool) → is_dashes word ≡ b → RunRight (word ∷ rest)
    by_dashes true is = subst (λ w. RunRight (w ∷ rest)) (eq_dashes word is) (run_right_behind rest)
    by_dashes false is = by_dashed is (is_dashed word) refl

-- ---- the whole line

abbrev Plainly : Text → Text → List Text → Type 0
Plainly own name rest = asked (own ∷ name ∷ rest) ≡ invocation_of (own ∷ name ∷ rest)

run_plainly : (own : Text) (rest : List Text) → All IsUtf8 rest → Plainly own (codes "run") rest
run_plainly own rest utf8 =
    let found = enters_run own rest in
    ap₂ (λ kinds sub. unless_faulty kinds (option_and_then with_file sub)) found.0 found.1 ∙ run_right rest utf8

pub plainly : (words : List Text) → All IsUtf8 words → asked words ≡ invocation_of words
plainly [] utf8 = none_found _ _ none_fails
plainly (own ∷ []) utf8 = none_found _ _ (own_fails own)
plainly (own ∷ name ∷ rest) utf8 = elim (first_word name) [
  | inl task ↦ by_run task (bytes_eq (codes "run") name) refl
  | inr other ↦
      let none : None ≡ invocation_of (own ∷ name ∷ rest) = rw other.0 refl in
      none_found _ _ (other.1 own rest) ∙ none
]
  where
    later : All IsUtf8 rest
    later = λ k d lt. utf8 (suc (suc k)) d (omega arith)

    by_run : (is_task name ≡ true) × ((leaf_of name).name ≡ name) × Enters (leaf_of name) → (b : Bool) → bytes_eq (codes "run") name ≡ b → Plainly own name rest
    by_run task true is = subst (λ n. Plainly own n rest) ((bytes_eq-Decides (codes "run") name).0 is) (run_plainly own rest later)
    by_run task false is =
        let found : Enters (leaf name) = rw is at task.2 in
        let right : told name rest ≡ invocation_of (own ∷ name ∷ rest) = rw (task.0, is) refl in
        ap₂ (λ kinds sub. unless_faulty kinds (option_and_then with_file sub)) (found own rest).0 (found own rest).1 ∙ file_right name is rest later ∙ right
