use Rattle.std.proofs.Common.{◌≡◌, [], List, ap, ◌∙◌}
use Rattle.sv39.specs.Memory.{word_in}
use Rattle.tlb_model.specs.Entries.{Entry}
use Rattle.any_tlb.specs.declared.watcher.Walking.{Walking}
use Rattle.any_tlb.specs.Watch.{given_by}
use Rattle.tlb_watch.specs.Kept.{with_entries}
use Rattle.tlb_watch.proofs.Giving.{if-ok}
use Rattle.tlb_watch.proofs.kept.renew.Goals as goal

pub returns-clause-entries : goal.returns-clause-entries
returns-clause-entries c =
    let memory = word_in c.args.ram.now in
    let va = c.args.entries.now.va in
    let old = c.args.entries.now.entries.items in
    let kept = c.note.new.walks.items.items in
    let given : c.deref.result.now ≡ given_by memory va [] kept =
    c.deref.ensures.value ∙ c.in_ok-replay.ensures.entries ∙ (λ i. given_by memory (c.new-given.ensures.va i) (c.new-given.ensures.entries i) kept) in
    if-ok c.put_new.result _ _
    (λ done is. is ∙ ap (λ (l : List Entry). with_entries old l) (given ∙ ap (λ (l : List Walking). given_by memory va [] l) c.in_ok-note.ensures))
    c.put_new.ensures
