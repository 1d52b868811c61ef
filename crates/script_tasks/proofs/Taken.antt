-- A script's bytes, as they come from a source: those that a reader was given, and those that are pending.
use Rattle.std.proofs.Common.{◌≡◌, ◌≢◌, ℕ, ◌+◌, ◌-◌, ◌<◌, ◌≤◌, List, [], ◌∷◌, ◌++◌, ltb, length, take, drop, Option, Some, None, IfSome, Err, refl, sym, ap, subst, ◌∙◌, inl, inr, arith, length-append}
use Rattle.std.specs.List.{copy_within}
use Rattle.std.specs.Io.KnownBytes.{Consumes}
use Rattle.std.proofs.KnownBytes.{Consumes-nil, Consumes-trans}
use Rattle.std.proofs.Math.Seq.{paste, take-add}
use Rattle.std.proofs.lemmas.List.{append-nil, append_assoc, length-drop, length-take-le, take_all, take-append-le, take-take}
use Rattle.std.proofs.lemmas.Bool.{cases_Bool, ltb-false, ltb-true}
use Rattle.std.proofs.lemmas.List.Edits.{take-paste}
use Rattle.guest_script.specs.Pieces.{AreWhole, HasRead, IsAnswered, Part}
use Rattle.script_tasks.specs.Sources.{HasTaken, HasTakenAll, Lacks, ReadsBehind, ReadsScript, ReadsUpTo, read_limit}
use Rattle.script_tasks.specs.declared.device.pieces.ReadFault.{ReadFault}
use Rattle.script_tasks.specs.declared.device.pieces.ReadFault.TheVariants.{Failed, Script as NoScript}
use Rattle.guest_script.specs.FirstFault.{no_memory}

-- ---- bytes in front of others

pub whole_behind : (front part : List ℕ) → AreWhole part → length part ≢ 0 → AreWhole (front ++ part)
whole_behind front part (inl none) some = absurd (some (ap length none))
whole_behind front part (inr (lines, ends)) some = inr (front ++ lines, rw ends (sym (append_assoc front lines (10 ∷ []))))

pub lines_whole : (bytes : List ℕ) (from lines filled : ℕ) → from ≤ filled → filled ≤ length bytes → lines ≢ 0 → lines ≤ length (take (filled - from) (drop from bytes))
    → AreWhole (take lines (take (filled - from) (drop from bytes))) → AreWhole (take (from + lines) bytes)
lines_whole bytes from lines filled before within some fits are =
    let long : length (take (filled - from) (drop from bytes)) ≡ filled - from = length-take-le (filled - from) (drop from bytes) (omega (arith, length-drop from bytes, before, within)) in
    let part : take lines (take (filled - from) (drop from bytes)) ≡ take lines (drop from bytes) = take-take lines (filled - from) (drop from bytes) (omega (arith, long, fits)) in
    let count : length (take lines (drop from bytes)) ≡ lines = length-take-le lines (drop from bytes) (omega (arith, length-drop from bytes, long, fits, before, within)) in
    rw (take-add from lines bytes) (whole_behind (take from bytes) (take lines (drop from bytes)) (subst AreWhole part are) (λ none. some (sym count ∙ none)))

moved : (bytes : List ℕ) (end filled : ℕ) → end ≤ filled → filled ≤ length bytes → take end bytes ++ take (filled - end) (copy_within bytes end filled 0) ≡ take filled bytes
moved bytes end filled before within =
    let n = filled - end in
    let rest = paste bytes 0 (drop end bytes) n in
    let first : n ≡ 0 + n = omega arith in
    let whole : end + n ≡ filled = omega (arith, before) in
    let moves : take n rest ≡ take n (drop end bytes) =
    ap (λ k. take k rest) first ∙ take-paste bytes 0 (drop end bytes) n (omega arith) (omega (arith, length-drop end bytes, before, within)) in
    ap (λ xs. take end bytes ++ xs) moves ∙ sym (take-add end n bytes) ∙ ap (λ k. take k bytes) whole

-- ---- what was taken

pub nothing_taken : (known : Option (List ℕ)) (reader : Part) → HasRead reader [] → HasTaken known known reader [] 0
nothing_taken known reader read = record { given = []; read = read; taken = Consumes-nil known; long = refl }

pub read_taken : (a b c : Option (List ℕ)) (reader : Part) (first count n : ℕ) (bytes bytes' : List ℕ) → HasTaken a b reader (take first bytes) count → ReadsBehind first b c bytes bytes' n
    → HasTaken a c reader (take (first + n) bytes') (count + n)
read_taken a b c reader first count n bytes bytes' has more =
    let all : has.given ++ take (first + n) bytes' ≡ (has.given ++ take first bytes) ++ more.got =
    ap (λ xs. has.given ++ xs) more.behind ∙ sym (append_assoc has.given (take first bytes) more.got) in
    record {
      given = has.given;
      read = has.read;
      taken = subst (Consumes a c) (sym all) (Consumes-trans a b c (has.given ++ take first bytes) more.got has.taken more.taken);
      long = ap length all ∙ length-append (has.given ++ take first bytes) more.got ∙ (rw (has.long, more.long) refl);
    }

-- a read that gave nothing
pub none_taken : (a b c : Option (List ℕ)) (reader : Part) (first count n : ℕ) (bytes bytes' : List ℕ) → n ≡ 0 → HasTaken a b reader (take first bytes) count
    → ReadsBehind first b c bytes bytes' n → HasTaken a c reader (take first bytes') count
none_taken a b c reader first count n bytes bytes' none has more =
    let same : first + n ≡ first = omega (arith, none) in
    let no_more : count + n ≡ count = omega (arith, none) in
    subst (HasTaken a c reader (take first bytes')) no_more
    (subst (λ k. HasTaken a c reader (take k bytes') (count + n)) same (read_taken a b c reader first count n bytes bytes' has more))

pub taken_up_to : (limit count : ℕ) (a b : Option (List ℕ)) (reader : Part) (pending : List ℕ) → HasTaken a b reader pending count → count ≤ limit → ReadsUpTo limit a b
taken_up_to limit count a b reader pending has within = (has.given ++ pending, has.taken, omega (arith, has.long, within))

pub given_taken : (a b : Option (List ℕ)) (reader reader' : Part) (count : ℕ) (bytes : List ℕ) (end filled : ℕ) → end ≤ filled → filled ≤ length bytes
    → ((before : List ℕ) → HasRead reader before → HasRead reader' (before ++ take end bytes))
    → HasTaken a b reader (take filled bytes) count → HasTaken a b reader' (take (filled - end) (copy_within bytes end filled 0)) count
given_taken a b reader reader' count bytes end filled before within gives has =
    let all : (has.given ++ take end bytes) ++ take (filled - end) (copy_within bytes end filled 0) ≡ has.given ++ take filled bytes =
    append_assoc has.given (take end bytes) (take (filled - end) (copy_within bytes end filled 0)) ∙ ap (λ xs. has.given ++ xs) (moved bytes end filled before within) in
    record {
      given = has.given ++ take end bytes;
      read = gives has.given has.read;
      taken = subst (Consumes a b) (sym all) has.taken;
      long = ap length all ∙ has.long;
    }

-- ---- the end

lacked : {bytes : List ℕ} → IsAnswered bytes (Err no_memory)
lacked = record { script = tt; only = λ s reads. refl; fault = λ other. absurd (other refl); memory = λ none. refl }

pub lacking : (known : Option (List ℕ)) (fault : ReadFault) → Lacks fault → ReadsScript known (Err fault)
lacking None Failed lacks = ([], tt, tt)
lacking (Some all) Failed lacks = (take read_limit all, tt, refl)
lacking None (NoScript fault) lacks = ([], rw lacks lacked, tt)
lacking (Some all) (NoScript fault) lacks = (take read_limit all, rw lacks lacked, refl)

all_taken : (all bytes rest : List ℕ) (count : ℕ) → length bytes ≡ count → count ≤ read_limit → (count < read_limit → rest ≡ []) → all ≡ bytes ++ rest → bytes ≡ take read_limit all
all_taken all bytes rest count long within ended is = elim (cases_Bool (ltb count read_limit)) [
  | inl short ↦
      let whole : all ≡ bytes = is ∙ ap (λ xs. bytes ++ xs) (ended (ltb-true _ _ short)) ∙ append-nil bytes in
      sym (ap (take read_limit) whole ∙ take_all read_limit bytes (omega (arith, long, within)))
  | inr full ↦ sym (ap (take read_limit) is ∙ take-append-le read_limit bytes rest (omega (arith, long, ltb-false _ _ full)) ∙ take_all read_limit bytes (omega (arith, long, within)))
]

pub end_known : (known left : Option (List ℕ)) (reader : Part) (pending : List ℕ) → (all : HasTakenAll known left reader pending)
    → IfSome known (λ bytes. all.1.given ++ pending ≡ take read_limit bytes)
end_known None left reader pending all = tt
end_known (Some bytes) None reader pending (count, has, within, ended) = absurd has.taken
end_known (Some bytes) (Some rest) reader pending (count, has, within, ended) = all_taken bytes (has.given ++ pending) rest count has.long within ended has.taken
