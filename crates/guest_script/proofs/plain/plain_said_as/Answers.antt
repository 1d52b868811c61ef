use Rattle.std.proofs.Common.{ℕ, List, ◌∷◌, ◌++◌, ap, inr, refl, sym, ◌∙◌}
use Rattle.script_lines.specs.declared.said.Said.TheVariants.{Done}
use Rattle.guest_script.specs.Forms.{said_form_of}
use Rattle.script_lines.specs.Names.{said_word}
use Rattle.guest_script.proofs.PlainParts.{behind_blank, named_begins}
use Rattle.guest_script.proofs.PlainShapes.{said_form_at, said_made_from}
use Rattle.guest_script.proofs.plain.plain_said_as.Goals as goal

pub returns-clause-said : goal.returns-clause-said
returns-clause-said c =
    let name = c.args.name in
    let ns = c.plain_places.new.numbers.items in
    let made = sym (rw (c.shape.ensures, c.deref.ensures.0) at c.said.ensures) ∙ c.in_ok-said.was in
    let begun = said_word name ++ c.in_ok-rest.rest.now in
    let named =
    named_begins said_form_of Done begun
    (said_word name) c.in_ok-rest.rest.now c.places.result ns c.in_ok-rest-2.rest.now c.in_ok-said.said refl (said_form_at name c.places.result c.requires.named c.places.ensures.form)
    c.in_ok-rest-2.ensures.any c.in_ok-rest-2.ensures.numbers c.in_ok-rest-2.ensures.least c.in_ok-rest-2.ensures.most (said_made_from name ns c.in_ok-said.said c.requires.named made) in
    (said_word name ∷ named.0, c.in_ok-rest.ensures.name ∙ ap (λ (b : List ℕ). 32 ∷ (b ++ c.in_ok-rest.rest.now)) c.requires.word ∙ behind_blank begun (said_word name) named.0 c.in_ok-rest-2.rest.now named.1, inr named.2)
