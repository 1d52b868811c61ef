-- Conditions that don't ask of marks mean the same with them.
use Rattle.std.proofs.Common.{◌≡◌, ◌↔◌, ℕ, ◌<◌, List, Bool, true, false, length, get_or, refl, sym, subst, arith}
use Rattle.std.specs.Prelude.{◌||◌, Option, Some, None, is_some, slice_get}
use Rattle.std.proofs.lemmas.Option.{slice_get-get_or, slice_get_within}
use Rattle.access_marks.specs.declared.marks.Marks.{Marks}
use Rattle.access_marks.specs.Marks.{unmarked}
use Rattle.board_core.specs.History.{Event}
use Rattle.condition_script.specs.declared.marks.Mark.{Mark}
use Rattle.condition_script.specs.declared.patterns.Pattern.{Pattern}
use Rattle.condition_script.specs.declared.rules.Ending.{Ending}
use Rattle.condition_script.specs.declared.rules.Rule.{Rule}
use Rattle.condition_script.specs.declared.rules.Rule.TheVariants.{Never, NeverAfter, OfSome, Each, End, Before, CanEnd}
use Rattle.conditions.specs.Patterns.{FitsReply}
use Rattle.conditions.specs.Rules.{Holds, IsAt, IsFirst}
use Rattle.marked_conditions.specs.Marked.{FitsMark, HoldsWith, IsAtWith, IsFirstPlace, asks, asks_of_marks, mark_of}

none-of : (mark : Option Mark) → is_some mark ≡ false → mark ≡ None
none-of None is = refl
none-of (Some mark) is = cc

or-first : (a b : Bool) → (a || b) ≡ false → a ≡ false
or-first true b is = cc
or-first false b is = refl

or-second : (a b : Bool) → (a || b) ≡ false → b ≡ false
or-second true b is = cc
or-second false b is = is

module _ (events : List Event) (marks : List Marks) (same : length events ≡ length marks) where
  module _ (p : Pattern) (bare : asks p ≡ false) where
    to-reply : (e : Event) (m : Marks) → FitsMark (mark_of p) p e m → FitsReply p e
    to-reply e m fits = subst (λ (mark : Option Mark). FitsMark mark p e m) (none-of (mark_of p) bare) fits

    of-reply : (e : Event) (m : Marks) → FitsReply p e → FitsMark (mark_of p) p e m
    of-reply e m fits = subst (λ (mark : Option Mark). FitsMark mark p e m) (sym (none-of (mark_of p) bare)) fits

    -- each step has marks
    of-step : (k : ℕ) (e : Event) → slice_get events k ≡ Some e → slice_get marks k ≡ Some (get_or marks k unmarked)
    of-step k e at =
        let within : k < length events = slice_get_within events k e at in
        slice_get-get_or marks k unmarked (omega arith)

    without : (k : ℕ) → IsAtWith p events marks k → IsAt p events k
    without k at = (at.event, at.happened, (at.matches.0, to-reply at.event at.of at.matches.1))

    with : (k : ℕ) → IsAt p events k → IsAtWith p events marks k
    with k at = record {
      event = at.0;
      of = get_or marks k unmarked;
      happened = at.1;
      marked = of-step k at.0 at.1;
      matches = (at.2.0, of-reply at.0 (get_or marks k unmarked) at.2.1);
    }

    first-without : (k : ℕ) → IsFirstPlace (IsAtWith p events marks) 0 k → IsFirst p events k
    first-without k first = record { behind = first.behind; here = without k first.here; none_before = λ j below behind at. first.none_before j below behind (with j at) }

    first-with : (k : ℕ) → IsFirst p events k → IsFirstPlace (IsAtWith p events marks) 0 k
    first-with k first = record { behind = first.behind; here = with k first.here; none_before = λ j below behind at. first.none_before j below behind (without j at) }

  pub bare-same : (rule : Rule) (end : Option Ending) → asks_of_marks rule ≡ false → HoldsWith rule events marks end ↔ Holds rule events end
  bare-same (Never p) end bare = (λ holds k at. holds k (with p bare k at), λ holds k at. holds k (without p bare k at))
  bare-same (NeverAfter p q) end bare =
      let of_p = or-first (asks p) (asks q) bare in
      let of_q = or-second (asks p) (asks q) bare in (
        λ holds j k below at_q at_p. holds j k below (with q of_q j at_q) (with p of_p k at_p),
        λ holds j k below at_q at_p. holds j k below (without q of_q j at_q) (without p of_p k at_p),
      )
  bare-same (OfSome p) end bare = (λ there. (there.0, without p bare there.0 there.1), λ there. (there.0, with p bare there.0 there.1))
  bare-same (Each p) end bare = (
    λ fit k e at step. to-reply p bare e (get_or marks k unmarked) (fit k e (get_or marks k unmarked) at (of-step p bare k e at) step),
    λ fit k e m at_e at_m step. of-reply p bare e m (fit k e at_e step),
  )
  bare-same (End ends) end bare = (λ named. named, λ named. named)
  bare-same (Before p q) end bare =
      let of_p = or-first (asks p) (asks q) bare in
      let of_q = or-second (asks p) (asks q) bare in (
        λ holds j k first second. holds j k (first-with p of_p j first) (first-with q of_q k second),
        λ holds j k first second. holds j k (first-without p of_p j first) (first-without q of_q k second),
      )
  bare-same (CanEnd ends) end bare = (λ never. never, λ never. never)

pub marks_are_not_asked : (rule : Rule) (events : List Event) (marks : List Marks) (end : Option Ending) → asks_of_marks rule ≡ false → length events ≡ length marks
    → HoldsWith rule events marks end ↔ Holds rule events end
marks_are_not_asked rule events marks end bare same = bare-same events marks same rule end bare
