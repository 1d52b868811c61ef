use Rattle.std.proofs.Common.{◌≡◌, ◌++◌, ℕ, List, [], ap, subst, ◌∙◌}
use Rattle.std.specs.Prelude.{Option, Some, None, IfSome, take}
use Rattle.std.specs.Option.{option_map}
use Rattle.test_runner.specs.Reporting.{most_read}
use Rattle.test_runner.proofs.loading.bytes_of.Goals as goal

read-of : (known left inner : Option (List ℕ)) (limit : ℕ) (before text : List ℕ) → IfSome known (λ all. left ≡ Some all) → inner ≡ left
    → limit ≡ most_read → before ≡ [] → IfSome (option_map (take limit) inner) (λ xs. text ≡ before ++ xs)
    → IfSome known (λ all. text ≡ take most_read all)
read-of None left inner limit before text is same most none got = tt
read-of (Some all) left inner limit before text is same most none got =
    subst (λ (o : Option (List ℕ)). IfSome (option_map (take limit) o) (λ xs. text ≡ before ++ xs)) (same ∙ is) got
    ∙ ap (λ (b : List ℕ). b ++ take limit all) none ∙ ap (λ (n : ℕ). take n all) most

pub returns : goal.returns
returns g c =
    read-of (g.T.Texts.bytes c.args.texts.now c.args.file.now) (g.T.Text.Read.remaining c.in_ok-open.field-0)
    (g.T.Text.Read.remaining c.take.result.inner) c.take.result.limit c.new-text.result.items c.read_to_end.new.buf.items c.in_ok-open.ensures
    (ap g.T.Text.Read.remaining c.take.ensures.inner) c.take.ensures.limit c.new-text.ensures.items c.in_ok-read_to_end.ensures.bytes
