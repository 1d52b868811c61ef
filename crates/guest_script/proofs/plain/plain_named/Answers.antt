use Rattle.std.proofs.Common.{ap, ◌∙◌}
use Rattle.std.specs.Prelude.{ℕ, ◌++◌, List, Option, Some, None, IfSome}
use Rattle.board_terms.specs.declared.op.Op.TheVariants.{Advance}
use Rattle.guest_script.specs.Forms.{form_of}
use Rattle.guest_script.specs.Inside.PlainLines.{BeginsNamed}
use Rattle.script_lines.specs.Names.{op_word}
use Rattle.script_lines.specs.Packing.{named_shape, op_made}
use Rattle.guest_script.proofs.PlainParts.{named_begins, op_behind}
use Rattle.guest_script.proofs.PlainShapes.{op_form_at, op_makes}
use Rattle.guest_script.proofs.plain.plain_named.Goals as goal

pub returns-in_ok-rest-in_default-clause-named : goal.returns-in_ok-rest-in_default-clause-named
returns-in_ok-rest-in_default-clause-named c =
    let name = c.args.name in
    let ns = c.plain_places.new.numbers.items in
    rw c.shape.ensures
    (named_begins form_of Advance c.args.bytes.now (op_word name) c.in_ok-rest.rest.now c.places.result ns c.in_ok-rest-in_default.rest.now
    (op_made (named_shape name) ns) (c.in_ok-rest.ensures.front ∙ ap (λ (b : List ℕ). b ++ c.in_ok-rest.rest.now) c.requires.word)
    (op_form_at name c.places.result c.places.ensures.form)
    c.in_ok-rest-in_default.ensures.any c.in_ok-rest-in_default.ensures.numbers c.in_ok-rest-in_default.ensures.least c.in_ok-rest-in_default.ensures.most
    (op_makes name c.places.result ns c.places.ensures.form c.in_ok-rest-in_default.ensures.any c.in_ok-rest-in_default.ensures.least))

pub returns-in_ok-rest-in_default-clause-op : goal.returns-in_ok-rest-in_default-clause-op
returns-in_ok-rest-in_default-clause-op c =
    let name = c.args.name in
    let ns = c.plain_places.new.numbers.items in
    let named : BeginsNamed name c.args.bytes.now (op_made (named_shape name) ns) c.in_ok-rest-in_default.rest.now =
    named_begins form_of Advance c.args.bytes.now (op_word name) c.in_ok-rest.rest.now c.places.result ns c.in_ok-rest-in_default.rest.now
    (op_made (named_shape name) ns) (c.in_ok-rest.ensures.front ∙ ap (λ (b : List ℕ). b ++ c.in_ok-rest.rest.now) c.requires.word)
    (op_form_at name c.places.result c.places.ensures.form)
    c.in_ok-rest-in_default.ensures.any c.in_ok-rest-in_default.ensures.numbers c.in_ok-rest-in_default.ensures.least c.in_ok-rest-in_default.ensures.most
    (op_makes name c.places.result ns c.places.ensures.form c.in_ok-rest-in_default.ensures.any c.in_ok-rest-in_default.ensures.least) in
    rw c.shape.ensures (op_behind name c.args.bytes.now (op_made (named_shape name) ns) c.in_ok-rest-in_default.rest.now named)

on_some : {A : Type 0} {P Q : A → Type 0} (o : Option A) → ((x : A) → P x → Q x) → IfSome o P → IfSome o Q
on_some None f h = h
on_some (Some x) f h = f x h

pub returns-in-Sfence-clause-named : goal.returns-in-Sfence-clause-named
returns-in-Sfence-clause-named c =
    rw c.in-Sfence.is (on_some c.plain_fence.result (λ found fence. fence c.args.bytes.now (rw c.in-Sfence.is at (c.in_ok-rest.ensures.front ∙ ap (λ (b : List ℕ). b ++ c.in_ok-rest.rest.now) c.requires.word))) c.plain_fence.ensures.named)
