use Rattle.std.proofs.Common.{sym, ◌∙◌, arith, w64}
use Rattle.std.proofs.lemmas.Int.{ints, to_z-of_z}
use Rattle.guest_script.proofs.Named.{ret_bad_value, ret_good}
use Rattle.guest_script.proofs.step.ret_of.Goals as goal

pub returns-in-None-number : goal.returns-in-None-number
returns-in-None-number c =
    sym (ret_bad_value c.args.error.now c.args.value.now c.in-Some.error (sym c.signed_number.ensures ∙ c.in-Some.is) (sym c.number.ensures.value ∙ c.in-None-number.is))

pub returns-in-Some-number : goal.returns-in-Some-number
returns-in-Some-number c = rw (to_z-of_z w64 c.in-Some.error (grind (arith, ints)))
    (sym (ret_good c.args.error.now c.args.value.now c.in-Some.error c.in-Some-number.value (sym c.signed_number.ensures ∙ c.in-Some.is) (sym c.number.ensures.value ∙ c.in-Some-number.is)))
