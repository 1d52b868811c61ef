use Rattle.std.proofs.Common.{◌≡◌, ◌+◌, List, [], ◌∷◌, ◌++◌, sym, ap, take, ◌∙◌}
use Rattle.any_tlb.specs.declared.watcher.Walking.{Walking}
use Rattle.tlb_watch.specs.Kept.{kept_with, said_before, says_more}
use Rattle.tlb_watch.proofs.Logging.{said-more, when-more, when-no-more}
use Rattle.tlb_watch.proofs.kept.said_before.Goals as goal
use Rattle.tlb_watch.proofs.kept.said_before.Goals.{then-says_more+in_ok-push, else-says_more}

pub loop-walking-preserved : goal.loop-walking-preserved
loop-walking-preserved c =
    let xs = c.loop-walking.kept.items in
    let walks = c.args.walks.now in
    let satp = c.args.satp in
    let i = c.loop-walking.walking-index in
    let x = c.walking-item.result in
    let goes : kept_with satp xs x ≡ said_before satp (take (i + 1) walks) =
    ap (λ (l : List Walking). kept_with satp l x) c.loop-walking.invariant ∙ sym (said-more satp walks i x c.loop-walking-test.true c.walking-item.is) in
    let tells : c.says_more.result ≡ says_more satp xs x = c.says_more.ensures ∙ ap (λ (l : List Walking). says_more satp l x) c.deref.ensures.value in
    elim c.if-says_more.branch [
      | then-says_more+in_ok-push w ↦
          let items : c.if-says_more.kept.items ≡ xs ++ x ∷ [] = (λ k. (w.kept-is k).items) ∙ w.in_ok-push.ensures.items in
          items ∙ sym (when-more satp xs x (sym tells ∙ w.if-says_more.true)) ∙ goes
      | else-says_more w ↦
          let items : c.if-says_more.kept.items ≡ xs = (λ k. (w.kept-is k).items) in
          items ∙ sym (when-no-more satp xs x (sym tells ∙ w.if-says_more.false)) ∙ goes
    ]
