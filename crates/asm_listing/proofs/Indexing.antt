-- Instructions by their places in the list.
use Rattle.std.proofs.Common.{◌≡◌, ℕ, ◌+◌, ◌<◌, ◌==◌, Bool, true, false, if◌then◌else◌, List, length, drop, get_or, refl, sym, ap, ◌∙◌, arith, Option, Some, nat_lt, option_map}
use Rattle.std.specs.Ordering.{is_eq, nat_cmp}
use Rattle.std.specs.declared.cmp.Ordering.TheVariants as orders
use Rattle.std.proofs.Math.Bool.{cond}
use Rattle.std.proofs.lemmas.Bool.{eqb-true, le-ltb}
use Rattle.std.proofs.lemmas.List.{drop_more}
use Rattle.std.proofs.lemmas.Option.{slice_get-get_or}
use Rattle.rv64_instructions.specs.declared.instruction.Instruction.{Instruction}
use Rattle.asm_program.specs.declared.code.CodeLine.{CodeLine}
use Rattle.asm_listing.specs.Listed.{instruction_in, line_found}

same-key : (below same : Bool) → (same ≡ true → below ≡ false) → is_eq (cond below orders.Less (cond same orders.Equal orders.Greater)) ≡ same
same-key true true other = absurd (let t = other refl in cc)
same-key true false other = refl
same-key false true other = refl
same-key false false other = refl

at-key : (x y : ℕ) → is_eq (nat_cmp x y) ≡ (x == y)
at-key x y = same-key (nat_lt x y) (x == y) (λ same. le-ltb x y (let is = eqb-true x y same in omega arith))

picks : (lines : List CodeLine) (same : Bool) (k : ℕ) (found : Option ℕ) (here rest : Option Instruction) → line_found lines (Some k) ≡ here
    → line_found lines found ≡ rest → line_found lines (cond same (Some k) found) ≡ (if same then here else rest)
picks lines true k found here rest is other = is
picks lines false k found here rest is other = other

line-here : (lines : List CodeLine) (k : ℕ) (d : CodeLine) → k < length lines → line_found lines (Some k) ≡ Some (get_or lines k d).instruction
line-here lines k d within =
    ap (λ (found : Option CodeLine). option_map (λ (line : CodeLine). line.instruction) found) (slice_get-get_or lines k d within)

pub first-more : (lines : List CodeLine) (k : ℕ) (d : CodeLine) (found : Option ℕ) (at : ℕ) → k < length lines
    → line_found lines found ≡ instruction_in (drop (k + 1) lines) at
    → line_found lines (cond (is_eq (nat_cmp (get_or lines k d).at at)) (Some k) found) ≡ instruction_in (drop k lines) at
first-more lines k d found at within before =
    let line : CodeLine = get_or lines k d in
    let rest : Option Instruction = instruction_in (drop (k + 1) lines) at in
    ap (λ (same : Bool). line_found lines (cond same (Some k) found)) (at-key line.at at)
    ∙ picks lines (line.at == at) k found (Some line.instruction) rest (line-here lines k d within) before
    ∙ ap (λ (ls : List CodeLine). instruction_in ls at) (sym (drop_more lines k d within))
