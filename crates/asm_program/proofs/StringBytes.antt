-- One byte more of a string.
use Rattle.std.proofs.Common.{◌≡◌, ℕ, zero, suc, ◌+◌, ◌-◌, ◌%◌, ◌^◌, ◌<◌, List, [], ◌∷◌, ◌++◌, length, refl, sym, ap, ◌∙◌, append_assoc, arith, inl, inr, Option, Some, None, Result, Ok}
use Rattle.std.specs.Prelude.{◌⊎◌, option_map}
use Rattle.asm_expressions.specs.declared.faults.Fault.{Fault}
use Rattle.asm_program.specs.declared.data.Datum.{Datum}
use Rattle.asm_program.specs.Data.{datum_at}
use Rattle.asm_program.specs.Inside.Passes.{with_before}
use Rattle.asm_program.specs.Strings.{byte_in, bytes_at, bytes_by, bytes_in, placed_or}

-- no byte is left
pub bytes_done : (tail : List ℕ) (n : ℕ) (text : List ℕ) → (n ≡ 0) ⊎ (length text ≡ 0) → bytes_in tail n text ≡ Some tail
bytes_done tail zero text over = refl
bytes_done tail (suc n) [] over = refl
bytes_done tail (suc n) (first ∷ text) (inl none) = absurd (omega (arith, none))
bytes_done tail (suc n) (first ∷ text) (inr none) = absurd (omega (arith, none))

pub bytes_step : (tail : List ℕ) (n : ℕ) (text : List ℕ) → 0 < n → 0 < length text
    → bytes_in tail n text ≡ bytes_by (bytes_in tail (n - 1)) (byte_in text)
bytes_step tail zero text some more = absurd (omega arith)
bytes_step tail (suc n) [] some more = absurd (omega arith)
bytes_step tail (suc n) (first ∷ text) some more =
    let less : n ≡ suc n - 1 = omega arith in
    ap (λ (k : ℕ). bytes_by (bytes_in tail k) (byte_in (first ∷ text))) less

-- where an escape isn't known, there are no bytes
pub bytes_fail : (tail : List ℕ) (n : ℕ) (text : List ℕ) → 0 < n → 0 < length text → None ≡ byte_in text → bytes_in tail n text ≡ None
bytes_fail tail n text some more none =
    bytes_step tail n text some more ∙ ap (bytes_by (bytes_in tail (n - 1))) (sym none)

placed_more : (before : List Datum) (at left byte : ℕ) (more : Option (List ℕ))
    → with_before before (placed_or at left (option_map (λ bytes. byte ∷ bytes) more))
    ≡ with_before (before ++ datum_at at 1 byte ∷ []) (placed_or ((at + 1) % 2 ^ 64) left more)
placed_more before at left byte None = refl
placed_more before at left byte (Some more) =
    ap Ok (sym (append_assoc before (datum_at at 1 byte ∷ []) (bytes_at ((at + 1) % 2 ^ 64) more)))

pub string_more : (tail : List ℕ) (before now : List Datum) (at left n byte : ℕ) (text behind : List ℕ) (whole : Result (List Datum) Fault)
    → with_before before (placed_or at left (bytes_in tail n text)) ≡ whole → 0 < n → 0 < length text → Some (byte, behind) ≡ byte_in text
    → now ≡ before ++ datum_at at 1 byte ∷ [] → with_before now (placed_or ((at + 1) % 2 ^ 64) left (bytes_in tail (n - 1) behind)) ≡ whole
string_more tail before now at left n byte text behind whole so some more is pushed =
    ap (λ (ds : List Datum). with_before ds (placed_or ((at + 1) % 2 ^ 64) left (bytes_in tail (n - 1) behind))) pushed
    ∙ sym (placed_more before at left byte (bytes_in tail (n - 1) behind))
    ∙ ap (λ (one : Option (ℕ × List ℕ)). with_before before (placed_or at left (bytes_by (bytes_in tail (n - 1)) one))) is
    ∙ ap (λ (bs : Option (List ℕ)). with_before before (placed_or at left bs)) (sym (bytes_step tail n text some more))
    ∙ so

size_one : (size byte : ℕ) (more : Option (List ℕ))
    → option_map (λ bytes. size + 1 + length bytes) more ≡ option_map (λ bytes. size + length bytes) (option_map (λ bytes. byte ∷ bytes) more)
size_one size byte None = refl
size_one size byte (Some more) =
    let e : size + 1 + length more ≡ size + suc (length more) = omega arith in ap Some e

pub size_more : (tail : List ℕ) (size n byte : ℕ) (text behind : List ℕ) (whole : Option ℕ)
    → option_map (λ bytes. size + length bytes) (bytes_in tail n text) ≡ whole → 0 < n → 0 < length text → Some (byte, behind) ≡ byte_in text
    → option_map (λ bytes. size + 1 + length bytes) (bytes_in tail (n - 1) behind) ≡ whole
size_more tail size n byte text behind whole so some more is =
    size_one size byte (bytes_in tail (n - 1) behind)
    ∙ ap (λ (one : Option (ℕ × List ℕ)). option_map (λ bytes. size + length bytes) (bytes_by (bytes_in tail (n - 1)) one)) is
    ∙ ap (option_map (λ bytes. size + length bytes)) (sym (bytes_step tail n text some more))
    ∙ so
