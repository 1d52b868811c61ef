use Rattle.std.proofs.Common.{refl, sym, ◌∙◌}
use Rattle.tlb_model.specs.declared.fence.Flush.TheVariants.{Words, Entries}
use Rattle.tlb_model.specs.Entries.{covers_entry}
use Rattle.tlb_model.specs.Words.{covers_word}
use Rattle.tlb_model.proofs.Fencing.{all_covered}
use Rattle.tlb_model.proofs.Filters.{fenced-all, fenced-none}
use Rattle.tlb_model.proofs.caches.Caches.apply.Goals as goal

pub returns-in-Words-clause-tlb : goal.returns-in-Words-clause-tlb
returns-in-Words-clause-tlb c = rw c.in-Words.is (fenced-none covers_entry Words c.args.self.now.tlb (λ entry. refl))

pub returns-in-Words-clause-words : goal.returns-in-Words-clause-words
returns-in-Words-clause-words c = c.clear.ensures ∙ rw c.in-Words.is (fenced-all covers_word Words c.args.self.now.words (λ fetched. refl))

pub returns-then-covers_all-clause-tlb : goal.returns-then-covers_all-clause-tlb
returns-then-covers_all-clause-tlb c =
    let whole = sym c.covers_all.ensures ∙ c.if-covers_all.true in
    c.clear-then-covers_all.ensures ∙ rw c.in-Entries.is (fenced-all covers_entry (Entries c.in-Entries.fence) c.args.self.now.tlb (λ entry. all_covered c.in-Entries.fence entry whole))

pub returns-then-covers_all-clause-words : goal.returns-then-covers_all-clause-words
returns-then-covers_all-clause-words c = rw c.in-Entries.is (fenced-none covers_word (Entries c.in-Entries.fence) c.args.self.now.words (λ fetched. refl))

pub returns-else-covers_all-clause-words : goal.returns-else-covers_all-clause-words
returns-else-covers_all-clause-words c = rw c.in-Entries.is (fenced-none covers_word (Entries c.in-Entries.fence) c.args.self.now.words (λ fetched. refl))
