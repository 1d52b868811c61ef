-- Orders that were tried first, and runs behind them: what is cut short by then stays so.
use Rattle.std.proofs.Common.{◌≡◌, ◌≢◌, inl, inr, ℕ, Bool, true, false, List, refl, subst}
use Rattle.std.specs.Prelude.{Option, None}
use Rattle.conditions.specs.Condition.{Condition}
use Rattle.guest_script.specs.Grammar.{content}
use Rattle.outcome_statistics.specs.Records.{Tried}
use Rattle.script_lines.specs.declared.script.Script.{Script}
use Rattle.test_report.specs.declared.report.FileReport.{FileReport}
use Rattle.test_report.specs.declared.verdict.Unjudged.TheVariants.{NoTime, NoOrder, NotAllOrders, NoMarks, TooMany, Missed, Fetches}
use Rattle.test_report.specs.declared.verdict.Verdict.{Verdict}
use Rattle.test_report.specs.declared.verdict.Verdict.TheVariants.{Holds, Fails, Vacuous, NoEnd, Misfit, NotJudged}
use Rattle.test_terms.specs.declared.options.Options.{Options}
use Rattle.tried_orders.specs.Verdicts.{AddsOrders, IsCutByTime, IsFoundBy}

found-if-cut : (harts : ℕ) (is_cut : Bool) (asked : Option Condition) (tried : List Tried) (verdict : Verdict)
    → IsFoundBy harts is_cut asked tried verdict → IsFoundBy harts true asked tried verdict
found-if-cut harts is_cut asked tried Holds is = is
found-if-cut harts is_cut asked tried Fails is = is
found-if-cut harts is_cut asked tried (Vacuous missing) is = is
found-if-cut harts is_cut asked tried NoEnd is = is
found-if-cut harts is_cut asked tried (Misfit word) is = is
found-if-cut harts is_cut asked tried (NotJudged NoTime) is = (is.0, (is.1.0, refl))
found-if-cut harts is_cut asked tried (NotJudged NoOrder) is = is
found-if-cut harts is_cut asked tried (NotJudged NotAllOrders) is = is
found-if-cut harts is_cut asked tried (NotJudged NoMarks) is = is
found-if-cut harts is_cut asked tried (NotJudged Missed) is = is
found-if-cut harts is_cut asked tried (NotJudged Fetches) is = is
found-if-cut harts is_cut asked tried (NotJudged (TooMany states)) is = is

module _ (options : Options) (script : Script) (conditions : List Condition) (before after : FileReport) where
  -- what was found of orders, once runs were made too
  pub still-tried : (early late : Bool) → (late ≡ false → early ≡ false)
      → AddsOrders options script.config (content script.body) conditions early before after
      → AddsOrders options script.config (content script.body) conditions late before after
  still-tried early true stays adds = record {
    tried = adds.tried;
    are = record {
      to = adds.are.to;
      are = adds.are.are;
      most = adds.are.most;
      whole = (λ all. absurd (let t = all in cc));
    };
    more = adds.more;
    added = adds.added;
    many = adds.many;
    each = (λ place verdict at. found-if-cut script.config.harts early _ adds.tried verdict (adds.each place verdict at));
    told = adds.told;
    reached = adds.reached;
    tells = adds.tells;
  }
  still-tried early false stays adds =
      subst (λ (is_cut : Bool). AddsOrders options script.config (content script.body) conditions is_cut before after)
      (stays refl) adds

-- only the end of time cut it short, at the orders or at the runs
pub by-time : (seconds : Option ℕ) (begun early late : Bool) → begun ≡ false → IsCutByTime seconds begun early → IsCutByTime seconds early late
    → late ≡ true → seconds ≢ None
by-time seconds begun early late whole first later cut =
    elim (later cut) [
      | inl before ↦ elim (first before) [ inl short ↦ absurd (let t = short in let u = whole in cc) | inr is ↦ is ]
      | inr is ↦ is
    ]
