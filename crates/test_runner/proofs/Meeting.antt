-- From verdicts that hold to conditions that are met.
use Rattle.std.proofs.Common.{◌≡◌, ◌≢◌, inl, inr, ℕ, zero, suc, ◌+◌, ◌<◌, List, [], ◌∷◌, ◌++◌, length, refl, sym, ap, ◌∙◌, subst, arith}
use Rattle.std.specs.Prelude.{◌==◌, if◌then◌else◌, Bool, map, slice_get, Option, Some, None}
use Rattle.std.specs.Global.{Vec}
use Rattle.std.proofs.lemmas.List.{append-nil, length-append}
use Rattle.conditions.specs.Condition.{Condition}
use Rattle.guest_programs.specs.Steps.{task_of}
use Rattle.guest_script.specs.Grammar.{content, written}
use Rattle.outcome_statistics.specs.Records.{Tried}
use Rattle.test_report.specs.Statuses.{extents, verdicts}
use Rattle.test_report.specs.declared.point.Point.{Point}
use Rattle.test_report.specs.declared.report.FileReport.{FileReport}
use Rattle.test_report.specs.declared.report.Mode.{Mode}
use Rattle.test_report.specs.declared.report.Mode.TheVariants.{Test, Explore}
use Rattle.test_report.specs.declared.verdict.Extent.{Extent}
use Rattle.test_report.specs.declared.verdict.Verdict.{Verdict}
use Rattle.test_report.specs.declared.verdict.Verdict.TheVariants.{Holds, Fails}
use Rattle.test_terms.specs.declared.options.Options.{Options}
use Rattle.all_orders.specs.Verdicts.{IsFound as IsFoundBy, points_of, widest}
use Rattle.tried_orders.specs.Verdicts.{AddsPoints, AreRunsOf, AreTriedOf, TellsOrders, TellsRuns}
use Rattle.tried_orders.specs.Verdicts.{IsFoundBy as IsFoundByTried}
use Rattle.test_runner.specs.Findings.{IsExplored, IsFoundOfScript, IsFoundOf, IsFoundOfFile, AreTried}
use Rattle.test_runner.specs.Meeting.{AreAllMet, AreMetBy, AreMetByAll, AreMetByTried}
use Rattle.test_runner.proofs.Lists.{EachIsHolds, back-holds, front-holds, holds-in, none-fails}

by-all : (options : Options) (bytes : List ℕ) (file : FileReport) (it : IsFoundOfScript options bytes file) (seconds states : Option ℕ)
    → IsExplored options it.script it.conditions seconds states (verdicts it.judged) → EachIsHolds (verdicts it.judged)
    → AreMetByAll bytes (verdicts it.judged)
by-all options bytes file it seconds states explored each = record {
  script = written it.script;
  conditions = it.conditions;
  are = record { reads = it.reads; program = explored.program; have = it.have };
  each = (λ place below.
      holds-in (λ place verdict. IsFoundBy (widest it.script.config) (task_of (content it.script.body)) seconds states (slice_get it.conditions place) verdict)
      (verdicts it.judged) each explored.are.each place (let many = explored.are.many in omega arith));
  many = explored.are.many;
}

module _ (Tries : List Tried → Type 0) (Tells : List Tried → Extent → Type 0) (harts : ℕ) (is_cut : Bool) (conditions : List Condition)
    (before after : FileReport) (adds : AddsPoints Tries Tells harts is_cut conditions before after) where
  met-by : EachIsHolds (verdicts after) → AreMetBy harts Tries Tells conditions adds.told
  met-by each =
      let all : EachIsHolds (verdicts before ++ adds.more) = subst EachIsHolds adds.added each in
      let mine : EachIsHolds adds.more = back-holds (verdicts before) adds.more all in
      let found : (place : ℕ) → place < points_of conditions → IsFoundByTried harts is_cut (slice_get conditions place) adds.tried Holds =
      λ place below. holds-in (λ place verdict. IsFoundByTried harts is_cut (slice_get conditions place) adds.tried verdict) adds.more mine adds.each place
      (let many = adds.many in omega arith) in record {
        tried = adds.tried;
        are = adds.are;
        each = (λ place below. (found place below).1);
        fit = (λ place below. (found place below).0);
        tells = adds.tells;
      }

  long : length (verdicts after) ≡ length (verdicts before) + points_of conditions
  long =
      ap (λ (xs : List Verdict). length xs) adds.added ∙ length-append (verdicts before) adds.more
      ∙ ap (λ (n : ℕ). length (verdicts before) + n) adds.many

many-verdicts : (runs points first all : ℕ) → first ≡ points → (runs ≡ 0 → all ≡ first) → (runs ≢ 0 → all ≡ first + points)
    → all ≡ points + (if runs == 0 then 0 else points)
many-verdicts zero points first all one none some = let t = none refl in grind arith
many-verdicts (suc n) points first all one none some = let t = some (λ e. absurd (let u = e in cc)) in grind arith

same-verdicts : (one other : FileReport) → one.points ≡ other.points → verdicts one ≡ verdicts other
same-verdicts one other same = ap (λ (points : Vec Point). map (λ (point : Point). point.verdict) points.items) same

same-extents : (one other : FileReport) → one.points ≡ other.points → extents one ≡ extents other
same-extents one other same = ap (λ (points : Vec Point). map (λ (point : Point). point.reach) points.items) same

module _ (Tries : List Tried → Type 0) (harts : ℕ) (is_cut : Bool) (conditions : List Condition) (first all : FileReport) where
  first-holds : (runs : ℕ) → (runs ≡ 0 → all.points ≡ first.points)
      → (runs ≢ 0 → AddsPoints Tries TellsRuns harts is_cut conditions first all)
      → EachIsHolds (verdicts all) → EachIsHolds (verdicts first)
  first-holds zero none some each = subst EachIsHolds (same-verdicts all first (none refl)) each
  first-holds (suc n) none some each =
      let adds = some (λ e. absurd (let u = e in cc)) in
      front-holds (verdicts first) adds.more (subst EachIsHolds adds.added each)

  -- what is told of runs, if there were some
  runs-told : (runs : ℕ) → (runs ≡ 0 → all.points ≡ first.points) → (runs ≢ 0 → AddsPoints Tries TellsRuns harts is_cut conditions first all)
      → EachIsHolds (verdicts all)
      → (told : List Extent) × (extents all ≡ extents first ++ told) × (runs ≡ 0 → told ≡ [])
      × (runs ≢ 0 → AreMetBy harts Tries TellsRuns conditions told)
  runs-told zero none some each =
      ([], same-extents all first (none refl) ∙ sym (append-nil (extents first)), (λ is. refl), (λ some. absurd (some refl)))
  runs-told (suc n) none some each =
      let adds = some (λ e. absurd (let u = e in cc)) in
      (adds.told, adds.reached, (λ is. absurd (let u = is in cc)), (λ more. met-by Tries TellsRuns harts is_cut conditions first all adds each))

no-points : (begun : FileReport) → begun.points.items ≡ [] → (verdicts begun ≡ []) × (extents begun ≡ [])
no-points begun none = (ap (map (λ (point : Point). point.verdict)) none, ap (map (λ (point : Point). point.reach)) none)

by-tried : (options : Options) (bytes : List ℕ) (file : FileReport) (it : IsFoundOfScript options bytes file)
    → AreTried options it.script it.conditions it.judged → EachIsHolds (verdicts it.judged) → AreMetByTried options bytes it.judged
by-tried options bytes file it tried each =
    let harts : ℕ = it.script.config.harts in
    let is_cut : Bool = it.judged.is_cut in
    let Orders : List Tried → Type 0 = AreTriedOf it.script.config (content it.script.body) it.conditions options.seed options.orders is_cut in
    let Runs : List Tried → Type 0 = AreRunsOf it.script.config (content it.script.body) it.conditions options.runs is_cut in
    let fresh = no-points tried.begun tried.none in
    let first : EachIsHolds (verdicts tried.first) =
    first-holds Runs harts is_cut it.conditions tried.first it.judged options.runs tried.no_runs tried.runs each in
    let runs = runs-told Runs harts is_cut it.conditions tried.first it.judged options.runs tried.no_runs tried.runs each in record {
      script = written it.script;
      conditions = it.conditions;
      are = record { reads = it.reads; program = tried.program; have = it.have };
      orders_told = tried.orders.told;
      runs_told = runs.0;
      orders = met-by Orders (TellsOrders options.seed) harts is_cut it.conditions tried.begun tried.first tried.orders first;
      runs = runs.3;
      no_runs = runs.2;
      told = runs.1 ∙ ap (λ (told : List Extent). told ++ runs.0)
          (tried.orders.reached ∙ ap (λ (told : List Extent). told ++ tried.orders.told) fresh.1);
      many = many-verdicts options.runs (points_of it.conditions) (length (verdicts tried.first)) (length (verdicts it.judged))
          (let before : length (verdicts tried.begun) ≡ 0 = ap (λ (found : List Verdict). length found) fresh.0 in
          let t = long Orders (TellsOrders options.seed) harts is_cut it.conditions tried.begun tried.first tried.orders in omega arith)
          (λ none. ap (λ (xs : List Verdict). length xs) (same-verdicts it.judged tried.first (tried.no_runs none)))
          (λ some. long Runs TellsRuns harts is_cut it.conditions tried.first it.judged (tried.runs some));
      time = tried.time;
    }

one-fails : (found : List Verdict) → found ≡ Fails ∷ [] → EachIsHolds found → ⊥
one-fails found is each =
    let same : Fails ≡ Holds = subst EachIsHolds is each 0 Fails refl in absurd (let t = same in cc)

met-as : (options : Options) (bytes : List ℕ) (file : FileReport) (it : IsFoundOfScript options bytes file) (mode : Mode)
    → IsFoundOf options it.script it.conditions mode it.judged → EachIsHolds (verdicts it.judged)
    → AreAllMet options mode bytes it.judged
met-as options bytes file it Explore (inl explored) each = by-all options bytes file it options.limit.seconds (Some options.states) explored each
met-as options bytes file it Explore (inr other) each = absurd (one-fails (verdicts it.judged) other.1 each)
met-as options bytes file it Test (inl explored) each = inl (by-all options bytes file it None None explored each)
met-as options bytes file it Test (inr (inl tried)) each = inr (inl (by-tried options bytes file it tried each))
met-as options bytes file it Test (inr (inr lines)) each = inr (inr (written it.script, it.reads, lines))

-- the same of a file with the same findings
by-same : (options : Options) (bytes : List ℕ) (one other : FileReport) → verdicts one ≡ verdicts other → extents one ≡ extents other
    → one.is_cut ≡ other.is_cut → AreMetByTried options bytes other → AreMetByTried options bytes one
by-same options bytes one other found reach cut is = record {
  script = is.script;
  conditions = is.conditions;
  are = is.are;
  orders_told = is.orders_told;
  runs_told = is.runs_told;
  orders = subst (λ (is_cut : Bool). AreMetBy is.script.config.harts (AreTriedOf is.script.config is.script.content is.conditions options.seed options.orders is_cut) (TellsOrders options.seed) is.conditions is.orders_told)
      (sym cut) is.orders;
  runs = (λ some.
      subst (λ (is_cut : Bool). AreMetBy is.script.config.harts (AreRunsOf is.script.config is.script.content is.conditions options.runs is_cut) TellsRuns is.conditions is.runs_told)
      (sym cut) (is.runs some));
  no_runs = is.no_runs;
  told = reach ∙ is.told;
  many = ap (λ (xs : List Verdict). length xs) found ∙ is.many;
  time = (λ short. is.time (sym cut ∙ short));
}

all-same : (options : Options) (bytes : List ℕ) (one other : FileReport) → verdicts one ≡ verdicts other → extents one ≡ extents other
    → one.is_cut ≡ other.is_cut → (mode : Mode) → AreAllMet options mode bytes other → AreAllMet options mode bytes one
all-same options bytes one other found reach cut Explore is = subst (λ (found : List Verdict). AreMetByAll bytes found) (sym found) is
all-same options bytes one other found reach cut Test (inl is) = inl (subst (λ (found : List Verdict). AreMetByAll bytes found) (sym found) is)
all-same options bytes one other found reach cut Test (inr (inl is)) = inr (inl (by-same options bytes one other found reach cut is))
all-same options bytes one other found reach cut Test (inr (inr is)) = inr (inr is)

-- points have as many verdicts as extents
as-many : (points : List Point) → length (map (λ (point : Point). point.reach) points) ≡ length (map (λ (point : Point). point.verdict) points)
as-many [] = refl
as-many (point ∷ points) = ap suc (as-many points)

no-more : (xs more ys : List Extent) → xs ≡ ys ++ more → length xs ≡ length ys → more ≡ []
no-more xs [] ys is long = refl
no-more xs (x ∷ more) ys is long =
    absurd (let many = ap (λ (all : List Extent). length all) is ∙ length-append ys (x ∷ more) in omega arith)

-- what is so of bytes if each verdict holds that was found of them
pub met : (options : Options) (bytes : List ℕ) (file : FileReport) → IsFoundOfFile options bytes file → EachIsHolds (verdicts file)
    → AreAllMet options options.mode bytes file
met options bytes file (inl it) each =
    let judged : List Verdict = verdicts it.judged in
    let all : EachIsHolds (judged ++ it.odd) = subst EachIsHolds it.parts each in
    let none : it.odd ≡ [] = none-fails it.odd it.fail (back-holds judged it.odd all) in
    let same : verdicts file ≡ judged = it.parts ∙ ap (λ (odd : List Verdict). judged ++ odd) none ∙ append-nil judged in
    let long : length (extents file) ≡ length (extents it.judged) =
    as-many file.points.items ∙ ap (λ (xs : List Verdict). length xs) same ∙ sym (as-many it.judged.points.items) in
    let told : extents file ≡ extents it.judged =
    it.reached ∙ ap (λ (told : List Extent). extents it.judged ++ told) (no-more (extents file) it.told (extents it.judged) it.reached long)
    ∙ append-nil (extents it.judged) in
    all-same options bytes file it.judged same told it.is_cut options.mode
    (met-as options bytes file it options.mode it.is (front-holds judged it.odd all))
met options bytes file (inr bad) each = absurd (one-fails (verdicts file) bad each)
