use Rattle.std.proofs.Common.{◌≡◌, ℕ, ◌+◌, ◌-◌, ◌++◌, length, get_or, ap, sym, ◌∙◌, arith}
use mathlib.Core.List.{IsPrefix}
use Rattle.board_lock.specs.Inside.Kept.{count_of}
use Rattle.board_lock.specs.Receipts.{AcceptedCall}
use Rattle.board_lock.proofs.Places.{member, within}
use Rattle.board_lock.proofs.records.find.Goals as goal

pub returns-clause-member : goal.returns-clause-member
returns-clause-member g c =
    let t = c.receipt.invariant in
    let told : c.args.receipt.now
    ≡ record { actor = c.receipt.inside.actor; ordinal = c.receipt.inside.ordinal; place = c.receipt.inside.place; op = c.receipt.inside.op; reply = c.receipt.inside.reply } = sym
    c.receipt.view_is in
    let prefix : IsPrefix c.receipt.inside.seen.list c.args.log.now.list = c.begins_with.ensures in
    let whole : c.receipt.inside.seen.list ++ prefix.0 ≡ c.args.events.now = prefix.1 ∙ c.requires.log.logged in
    let here = within c.args.first c.args.events.now c.receipt.inside.seen.list prefix.0 t.before t.event c.receipt.inside.place whole t.last
    (ap (λ (n : ℕ). n + length t.before) c.requires.first ∙ t.placed) in
    let index : ℕ = c.receipt.inside.place - c.args.first in
    let place : c.receipt.inside.place ≡ c.args.receipt.now.place = ap (λ (r : AcceptedCall). r.place) (sym told) in
    let goes : c.args.receipt.now.place ≡ c.args.first + index = omega (arith, here.0) in
    let at : c.index-events-receipt.result ≡ get_or c.args.events.now index c.index-events-receipt.result = c.index-events-receipt.is in
    (member c.args.first c.args.events.now c.receipt.inside.seen.list prefix.0 t.before t.event c.index-events-receipt.result c.args.receipt.now.actor c.args.receipt.now.ordinal index
    c.args.receipt.now.place
    whole t.last (t.by ∙ ap (λ (r : AcceptedCall). r.actor) (sym told)) (ap (λ (n : ℕ). n + length t.before) c.requires.first ∙ t.placed ∙ place) goes
    (ap (λ (r : AcceptedCall). count_of r.actor t.before) told ∙ t.counted ∙ ap (λ (r : AcceptedCall). r.ordinal) (sym told)) at).2
