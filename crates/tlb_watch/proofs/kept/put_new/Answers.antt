use Rattle.std.proofs.Common.{◌≡◌, ◌+◌, List, [], ◌∷◌, ◌++◌, sym, ap, take, ◌∙◌}
use Rattle.tlb_model.specs.Entries.{Entry}
use Rattle.tlb_watch.specs.Kept.{has_entry, with_entries, with_entry}
use Rattle.tlb_watch.proofs.Keeping.{one-more, when-new, when-there}
use Rattle.tlb_watch.proofs.kept.put_new.Goals as goal
use Rattle.tlb_watch.proofs.kept.put_new.Goals.{then-not-has+in_ok-push, else-not-has}

pub loop-entry-preserved : goal.loop-entry-preserved
loop-entry-preserved c =
    let xs = c.loop-entry.entries.items in
    let old = c.args.entries.now.items in
    let given = c.args.given.now in
    let i = c.loop-entry.entry-index in
    let x = c.entry-item.result in
    let goes : with_entry xs x ≡ with_entries old (take (i + 1) given) =
    ap (λ (l : List Entry). with_entry l x) c.loop-entry.invariant ∙ sym (one-more old given i x c.loop-entry-test.true c.entry-item.is) in
    let tells : c.has.result ≡ has_entry xs x = c.has.ensures ∙ ap (λ (l : List Entry). has_entry l x) c.deref.ensures.value in
    elim c.if-not-has.branch [
      | then-not-has+in_ok-push w ↦
          let items : c.if-not-has.entries.items ≡ xs ++ x ∷ [] = (λ k. (w.entries-is k).items) ∙ w.in_ok-push.ensures.items in
          items ∙ sym (when-new xs x (sym tells ∙ w.if-not-has.true)) ∙ goes
      | else-not-has w ↦
          let items : c.if-not-has.entries.items ≡ xs = (λ k. (w.entries-is k).items) in
          items ∙ sym (when-there xs x (sym tells ∙ w.if-not-has.false)) ∙ goes
    ]
