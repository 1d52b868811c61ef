use Rattle.std.proofs.Common.{◌≡◌, ℕ, ◌*◌, List, ap, ◌∙◌, arith}
use Rattle.std.proofs.lemmas.List.{length-replicate}
use Rattle.std.proofs.lemmas.Result.{IfOk-weaker}
use Rattle.sv39.specs.Memory.{pages_of, word_in, zero_memory, zero_words}
use Rattle.sv39.proofs.Words.{word_in-zeros}
use Rattle.sv39.proofs.ram.Ram.new.Goals as goal

pub returns-clause-words : goal.returns-clause-words
returns-clause-words c =
    IfOk-weaker c.blank.result (λ (ram : List ℕ). ram ≡ zero_words c.args.pages) (λ (ram : List ℕ). word_in ram ≡ zero_memory c.args.pages)
    (λ ram is. ap word_in is ∙ word_in-zeros c.args.pages c.requires.limit) c.blank.ensures.words

pub returns-clause-pages : goal.returns-clause-pages
returns-clause-pages c =
    let many : pages_of (zero_words c.args.pages) ≡ c.args.pages = omega (arith, length-replicate {A = ℕ} (512 * c.args.pages) 0) in
    IfOk-weaker c.blank.result (λ (ram : List ℕ). ram ≡ zero_words c.args.pages) (λ (ram : List ℕ). pages_of ram ≡ c.args.pages)
    (λ ram is. ap pages_of is ∙ many) c.blank.ensures.words
