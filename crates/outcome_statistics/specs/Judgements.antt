-- What orders that were tried say of a condition (profile).
use Rattle.std.specs.Prelude.{◌≡◌, ◌≢◌, ◌⊎◌, List, [], Option, Some, None, true, false}
use Rattle.std.specs.Option.{option_map}
use Rattle.conditions.specs.Condition.{Condition}
use Rattle.conditions.specs.Rule.{Rule}
use Rattle.conditions.specs.declared.vacuity.NeedsMet.{NeedsMet}
use Rattle.conditions.specs.Vacuity.{NeedsFirst, NeedsSecond}
use Rattle.outcome_statistics.specs.declared.ends.Ends.{Ends}
use Rattle.outcome_statistics.specs.declared.judgement.Judgement.{Judgement}
use Rattle.outcome_statistics.specs.declared.judgement.Judgement.TheVariants as says
use Rattle.outcome_statistics.specs.Records.{AllMeet, EachIs, IsSo, Tried}

-- the rule of a condition, if there is one
abbrev pub asked_rule : Option Condition → Option Rule
asked_rule asked = option_map (λ condition. condition.rule) asked

-- The orders together are as is asked.
abbrev pub AreMet : Option Condition → List Tried → Type 0
AreMet None tried = EachIs (IsSo None) tried
AreMet (Some condition) tried = AllMeet condition.rule tried

-- No order ended with the power off, quiet or stuck: the limit cut off each that ended.
pub record NoneEnded (ends : Ends) : Type 0 where
  pub off : ends.off ≡ 0
  pub quiet : ends.quiet ≡ 0
  pub stuck : ends.stuck ≡ 0

-- no order has the step that a condition's first pattern needs, or the one of its second
abbrev pub IsFirstLacking : Option Condition → NeedsMet → Type 0
IsFirstLacking None met = ⊥
IsFirstLacking (Some condition) met = NeedsFirst condition.rule × (met.first ≡ false)

abbrev pub IsSecondLacking : Option Condition → NeedsMet → Type 0
IsSecondLacking None met = ⊥
IsSecondLacking (Some condition) met = NeedsSecond condition.rule × (met.second ≡ false)

abbrev pub IsMaybe : Option Condition → Type 0
IsMaybe None = ⊥
IsMaybe (Some condition) = condition.is_maybe ≡ true

module _ (asked : Option Condition) (tried : List Tried) (met : NeedsMet) (ends : Ends) where
  -- The judgement is right, by which needed steps were met and how the orders ended. It is about a condition or,
  -- without one, about whether some order ended stuck.
  abbrev pub IsJudged : Judgement → Type 0
  IsJudged says.NotTried = tried ≡ []
  IsJudged says.Fails = ¬ AreMet asked tried
  IsJudged says.NoEnd = (¬ IsMaybe asked) × NoneEnded ends
  IsJudged says.LacksFirst = IsFirstLacking asked met
  IsJudged says.LacksSecond = IsSecondLacking asked met
  IsJudged says.Holds = (tried ≢ []) × AreMet asked tried
      × (IsMaybe asked ⊎ ((¬ IsFirstLacking asked met) × (¬ IsSecondLacking asked met)))
