use Rattle.std.proofs.Common.{◌≡◌, ◌<◌, ℕ, List, [], ap, subst, sym, ◌∙◌, length, get_or, replicate}
use Rattle.std.specs.Prelude.{None, Some}
use Rattle.std.proofs.lemmas.List.{get_or-replicate, length-replicate}
use Rattle.std.proofs.lemmas.Option.{get_or_from_slice_get, slice_get_within}
use Rattle.outcome_statistics.specs.declared.findings.Judged.{Judged}
use Rattle.outcome_statistics.specs.Findings.{IsFoundFor}
use Rattle.outcome_statistics.proofs.Meeting.{are-met-none}
use Rattle.outcome_statistics.proofs.Visiting.{records-none}
use Rattle.outcome_statistics.proofs.findings.Findings.new.Goals as goal

pub returns : goal.returns
returns c harts asked many =
    let blank : Judged = record { tally = c.new.result; met = c.none.result } in
    let n : ℕ = c.args.conditions in
    let items : c.in_ok-vec.field-0.items ≡ replicate n blank = c.in_ok-vec.ensures.items_if_clones_equal (λ y is. is) in
    let size : length c.in_ok-vec.field-0.items ≡ n = ap (λ (xs : List Judged). length xs) items ∙ length-replicate n blank in
    record {
      many = size ∙ sym many;
      each = λ k condition j is at.
          let within : k < length c.in_ok-vec.field-0.items = slice_get_within c.in_ok-vec.field-0.items k j at in
          let here : blank ≡ j = sym (get_or-replicate n k blank blank (subst (λ (m : ℕ). k < m) size within))
          ∙ sym (ap (λ (xs : List Judged). get_or xs k blank) items) ∙ get_or_from_slice_get c.in_ok-vec.field-0.items k j blank at in
          subst (λ (it : Judged). IsFoundFor condition.rule [] it) here
          (c.new.ensures (Some condition.rule), are-met-none condition.rule c.none.result c.none.ensures.first c.none.ensures.second);
      well = c.new-2.ensures None;
      ends = c.new-3.ensures;
      records = records-none c.new-4.result c.new-4.ensures.empty;
      visits = c.new-5.ensures harts;
    }
