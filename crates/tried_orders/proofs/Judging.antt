-- From findings to verdicts.
use Rattle.std.proofs.Common.{◌≡◌, ℕ, ◌-◌, ◌^◌, List, [], ◌∷◌, length, inl, inr, ◌⊎◌, refl, sym, ap, ◌∙◌, subst, arith}
use Rattle.std.specs.Prelude.{◌≢◌, Bool, true, false, if◌then◌else◌, min, Option, Some, None}
use Rattle.conditions.specs.Condition.{Condition}
use Rattle.conditions.specs.declared.vacuity.NeedsMet.{NeedsMet}
use Rattle.outcome_statistics.specs.declared.ends.Ends.{Ends}
use Rattle.outcome_statistics.specs.declared.findings.Judged.{Judged}
use Rattle.outcome_statistics.specs.declared.judgement.Judgement.{Judgement}
use Rattle.outcome_statistics.specs.declared.judgement.Judgement.TheVariants as says
use Rattle.outcome_statistics.specs.Findings.{AreEnded}
use Rattle.outcome_statistics.specs.Judgements.{AreMet, IsFirstLacking, IsJudged, IsMaybe, IsSecondLacking}
use Rattle.outcome_statistics.specs.Records.{Tried}
use Rattle.test_report.specs.declared.verdict.Unjudged.TheVariants.{NoTime, NoOrder}
use Rattle.test_report.specs.declared.verdict.Verdict.{Verdict}
use Rattle.test_report.specs.declared.verdict.Verdict.TheVariants.{Holds, Fails, Vacuous, NoEnd, Misfit, NotJudged}
use Rattle.tried_orders.specs.Inside.Judging.{AreSo, Judges, Lacks, TellsLack}
use Rattle.tried_orders.specs.Verdicts.{AreItsNeeds, HasNoMisfit, IsFoundBy, Say, SayVacuous, lacking}

-- ---- whether something was tried

up-none : (n m : ℕ) → n ≡ min m (2 ^ 64 - 1) → n ≡ 0 → m ≡ 0
up-none n m is none = grind arith

down-none : (n m : ℕ) → n ≡ min m (2 ^ 64 - 1) → m ≡ 0 → n ≡ 0
down-none n m is none = grind arith

pub none-tried : (tried : List Tried) (n : ℕ) → n ≡ min (length tried) (2 ^ 64 - 1) → n ≡ 0 → tried ≡ []
none-tried [] n many none = refl
none-tried (x ∷ tried) n many none = absurd (let is = up-none n (length (x ∷ tried)) many none in omega arith)

pub some-tried : (tried : List Tried) (n : ℕ) → n ≡ min (length tried) (2 ^ 64 - 1) → n ≢ 0 → tried ≢ []
some-tried tried n many some none = some (down-none n (length tried) many (ap (λ (all : List Tried). length all) none))

pub untried-by : (harts : ℕ) (is_cut : Bool) (asked : Option Condition) (tried : List Tried) → HasNoMisfit harts asked → tried ≡ []
    → IsFoundBy harts is_cut asked tried (if is_cut then NotJudged NoTime else NotJudged NoOrder)
untried-by harts true asked tried fits none = (fits, (none, refl))
untried-by harts false asked tried fits none = (fits, none)

-- ---- what the records say, where each step that is needed counts as met

abbrev pub all_met : NeedsMet
all_met = record { first = true; second = true }

none-lacks : (asked : Option Condition) → IsFirstLacking asked all_met ⊎ IsSecondLacking asked all_met → ⊥
none-lacks None (inl lacks) = lacks
none-lacks None (inr lacks) = lacks
none-lacks (Some condition) (inl lacks) = absurd (let t = lacks.1 in cc)
none-lacks (Some condition) (inr lacks) = absurd (let t = lacks.1 in cc)

pub met-by : (asked : Option Condition) (tried : List Tried) (ends : Ends) (judgement : Judgement) → tried ≢ []
    → (judgement ≡ says.Holds) ⊎ ((judgement ≡ says.NotTried) ⊎ ((judgement ≡ says.LacksFirst) ⊎ (judgement ≡ says.LacksSecond)))
    → IsJudged asked tried all_met ends judgement → AreMet asked tried
met-by asked tried ends judgement some is said =
    let Says : Judgement → Type 0 = λ judgement. IsJudged asked tried all_met ends judgement in
    elim is [
      | inl holds ↦ (subst Says holds said).1
      | inr (inl none) ↦ absurd (some (subst Says none said))
      | inr (inr (inl first)) ↦ absurd (none-lacks asked (inl (subst Says first said)))
      | inr (inr (inr second)) ↦ absurd (none-lacks asked (inr (subst Says second said)))
    ]

-- ---- what is needed

not-both : (b : Bool) → b ≡ true → b ≡ false → ⊥
not-both b one other = let contrary : true ≡ false = sym one ∙ other in cc

unmet : (b : Bool) → (b ≡ true → ⊥) → b ≡ false
unmet false never = refl
unmet true never = absurd (never refl)

-- two findings of the same records say the same of what is needed
same-lack : (asked : Option Condition) (tried : List Tried) (mine other : NeedsMet) → AreItsNeeds asked tried mine → AreItsNeeds asked tried other
    → (is_second : Bool) → Lacks asked other is_second → Lacks asked mine is_second
same-lack None tried mine other are is is_second lacks = lacks
same-lack (Some condition) tried mine other are is false lacks =
    (lacks.0, unmet mine.first (λ yes. not-both other.first (is.first.1 (are.first.0 yes)) lacks.1))
same-lack (Some condition) tried mine other are is true lacks =
    (lacks.0, unmet mine.second (λ yes. not-both other.second (is.second.1 (are.second.0 yes)) lacks.1))

lacks-by : (asked : Option Condition) (tried : List Tried) (met : NeedsMet) (ends : Ends) (is_second : Bool)
    → IsJudged asked tried met ends (lacking is_second) → Lacks asked met is_second
lacks-by None tried met ends false lacks = lacks
lacks-by None tried met ends true lacks = lacks
lacks-by (Some condition) tried met ends false lacks = lacks
lacks-by (Some condition) tried met ends true lacks = lacks

judged-by : (asked : Option Condition) (tried : List Tried) (met : NeedsMet) (ends : Ends) (is_second : Bool) → Lacks asked met is_second
    → IsJudged asked tried met ends (lacking is_second)
judged-by None tried met ends is_second lacks = absurd lacks
judged-by (Some condition) tried met ends false lacks = lacks
judged-by (Some condition) tried met ends true lacks = lacks

first-none : (asked : Option Condition) (met : NeedsMet) → ((is_second : Bool) → ¬ Lacks asked met is_second)
    → (¬ IsFirstLacking asked met) × (¬ IsSecondLacking asked met)
first-none None met none = ((λ lacks. lacks), (λ lacks. lacks))
first-none (Some condition) met none = (none false, none true)

-- a condition that doesn't begin with `maybe`
pub meant-by : (asked : Option Condition) (condition : Condition) → asked ≡ Some condition → condition.is_maybe ≡ false → ¬ IsMaybe asked
meant-by asked condition is meant maybe = not-both condition.is_maybe (subst IsMaybe is maybe) meant

-- ---- verdicts

module _ (harts : ℕ) (is_cut : Bool) (asked : Option Condition) (tried : List Tried) (judged : Judged) (ends : Ends)
    (fits : HasNoMisfit harts asked) (judges : Judges asked tried judged) (ended : AreEnded tried ends) where
  pub say : (judgement : Judgement) → IsJudged asked tried judged.met ends judgement → Say asked tried judgement
  say judgement is = record { met = judged.met; ends = ends; needs = judges.needs; ended = ended; judged = is }

  not-vacuous : ((is_second : Bool) → ¬ Lacks asked judged.met is_second) → ¬ SayVacuous asked tried
  not-vacuous none vacuous =
      let said = vacuous.1 in
      none vacuous.0 (same-lack asked tried judged.met said.met judges.needs said.needs vacuous.0 (lacks-by asked tried said.met said.ends vacuous.0 said.judged))

  pub found-of : (holds : Bool) (verdict : Verdict) → verdict ≡ (if holds then Holds else Fails) → AreSo asked holds tried
      → IsMaybe asked ⊎ ((is_second : Bool) → ¬ Lacks asked judged.met is_second) → IsFoundBy harts is_cut asked tried verdict
  found-of true verdict is so needed = subst (IsFoundBy harts is_cut asked tried) (sym is) (
    fits,
    say says.Holds (so.some, so.met refl, elim needed [ inl maybe ↦ inl maybe | inr none ↦ inr (first-none asked judged.met none) ]),
  )
  found-of false verdict is so needed = subst (IsFoundBy harts is_cut asked tried) (sym is) (
    fits,
    record {
      some = so.some;
      fails = say says.Fails (so.unmet refl);
      needed = elim needed [ inl maybe ↦ inl maybe | inr none ↦ inr (not-vacuous none) ];
    },
  )

  pub vacuous-of : (is_second : Bool) (verdict : Verdict) → TellsLack is_second verdict → tried ≢ [] → ¬ IsMaybe asked → Lacks asked judged.met is_second
      → IsFoundBy harts is_cut asked tried verdict
  vacuous-of is_second Holds by some meant lacks = absurd by
  vacuous-of is_second Fails by some meant lacks = absurd by
  vacuous-of is_second (Vacuous missing) by some meant lacks = (
    fits,
    record {
      some = some;
      lacks = subst (λ (second : Bool). Say asked tried (lacking second)) (sym by)
          (say (lacking is_second) (judged-by asked tried judged.met ends is_second lacks));
      meant = meant;
    },
  )
  vacuous-of is_second NoEnd by some meant lacks = absurd by
  vacuous-of is_second (Misfit word) by some meant lacks = absurd by
  vacuous-of is_second (NotJudged why) by some meant lacks = absurd by
