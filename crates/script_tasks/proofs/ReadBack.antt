-- What is printed of a trace is read back.
use Rattle.std.proofs.Common.{◌≡◌, ℕ, zero, suc, ◌+◌, ◌≤◌, Bool, true, false, eqb, List, [], ◌∷◌, ◌++◌, length, map, get_or, Option, Some, None, codes, subst, refl, sym, ap, ◌∙◌, inl, inr, arith}
use Rattle.std.specs.Prelude.{◌⊎◌, if◌then◌else◌, IfSome, Result, Ok, Err, ℤ, pos, negsuc, neg_ℤ, decimal}
use Rattle.std.specs.Fmt.{digits, signed_decimal}
use Rattle.std.specs.List.{AllByRecursion, flat_map, join_with_byte}
use Rattle.std.specs.Str.Lines.{lines}
use Rattle.std.proofs.lemmas.Bool.{and_parts, eqb-true}
use Rattle.std.proofs.lemmas.Fmt.{decimal_is_IsNumeral, digits_is_IsNumeral}
use Rattle.std.proofs.lemmas.List.{append_assoc, append-nil, length-map}
use Rattle.std.proofs.lemmas.List.FromFn.{fill_by_all}
use Rattle.amo.specs.declared.amo.Amo.TheVariants as amos
use Rattle.amo.specs.declared.function.AmoFunction.{AmoFunction}
use Rattle.amo.specs.declared.function.AmoFunction.TheVariants as functions
use Rattle.amo.specs.declared.name.AmoName.{AmoName}
use Rattle.amo.specs.declared.name.AmoName.TheVariants as amo_names
use Rattle.amo.specs.Names.{count}
use Rattle.sbi_abi.specs.declared.call.Regs.{Regs}
use Rattle.sv39.specs.declared.cause.Cause.{Cause}
use Rattle.sv39.specs.declared.cause.Cause.TheVariants as causes
use Rattle.sv39.specs.Causes.{cause_number}
use Rattle.hsm.specs.declared.hart.HartState.{HartState}
use Rattle.hsm.specs.declared.hart.HartState.TheVariants as states
use Rattle.hsm.specs.States.{state_number}
use Rattle.board_terms.specs.declared.config.Config.{Config}
use Rattle.board_terms.specs.declared.op.Actor.{Actor}
use Rattle.board_terms.specs.declared.op.Actor.TheVariants.{Hart, Clock}
use Rattle.board_terms.specs.declared.op.Op.{Op}
use Rattle.board_terms.specs.declared.op.Op.TheVariants.{Ecall, Load, Store, Fetch, Amo, WriteSatp, WriteSie, WriteSstatusSie, ReadSip, ClearSsip, Sfence, FenceI, Wfi, Poll, Serve, Advance, Tick}
use Rattle.board_terms.specs.declared.reply.Refusal.{Refusal}
use Rattle.board_terms.specs.declared.reply.Refusal.TheVariants as refusals
use Rattle.board_terms.specs.declared.reply.Reply.{Reply}
use Rattle.board_terms.specs.declared.reply.Reply.TheVariants as replies
use Rattle.board_terms.specs.Limits.{first_numbers, has_usual_spaces, numbers_of}
use Rattle.board_core.specs.Refusals.{refusal_number}
use Rattle.script_lines.specs.declared.op_name.OpName.TheVariants as op_names
use Rattle.script_lines.specs.declared.said.Said.{Said}
use Rattle.script_lines.specs.declared.script.Doing.{Doing}
use Rattle.script_lines.specs.declared.script.Doing.TheVariants.{Step, Cut}
use Rattle.script_lines.specs.declared.script.Line.{Line}
use Rattle.script_lines.specs.Agreeing.{said_of}
use Rattle.script_lines.specs.Names.{amo_word, op_from}
use Rattle.guest_script.specs.Forms.{AreArguments, Form, form_of, IsArgument, IsNamed, IsSaid, number_at, op_form, regs_of, said_form_of}
use Rattle.guest_script.specs.Grammar.{AreLines, Draft, HasUsualSpaces, Nothing, Traced, IsActor, IsDoing, IsStep, content_of}
use Rattle.guest_script.specs.Words.{AreNumbers, IsLine, IsNumber, last_hart, last_number}
use Rattle.printed_lines.specs.Words.{actor_word, board_line_words, doing_words, hex, hex_or_dash, as_line, op_words, reply_words}
use Rattle.script_tasks.specs.PrintedScripts.{ActorFits, Answered, AreComments, FitsActor, FitsAnswer, FitsAnswered, FitsConfig, FitsError, FitsOp, LineReadsBack, NumberReadsBack, OpFits, SignedReadsBack, TraceReadsBack, trace_line, trace_lines, trace_of, answered_words}
use Rattle.guest_script.proofs.Named.{op_forms}
use Rattle.guest_script.proofs.PlainWords.{append_all, arguments_plain, IsPlain, IsPlainByte, joined_line, lines_printed, name_plain, numbers_plain, spelled_plain}

-- ---- printed numbers

pub number_read_back : NumberReadsBack
number_read_back limit n small limited =
    let ten = decimal_is_IsNumeral n (omega arith) in
    let sixteen = digits_is_IsNumeral 16 false (omega arith) (omega arith) n (omega arith) in
    ((small, inl (ten.0, sym ten.1)), (small, inr (digits 16 false n, refl, sixteen.0, sym sixteen.1)))

hexes_read_back : (ns : List ℕ) → AllByRecursion (λ n. n ≤ last_number) ns → AreArguments false last_number (map hex ns) (map (λ n. Some n) ns)
hexes_read_back [] fits = tt
hexes_read_back (n ∷ ns) fits = ((number_read_back last_number n fits.0 (omega arith)).1, hexes_read_back ns fits.1)

pub signed_read_back : SignedReadsBack
signed_read_back (pos n) fits =
    let ten = decimal_is_IsNumeral n (omega (arith, fits)) in
    inl (ten.0, omega (arith, fits, ten.1), ap pos (sym ten.1))
signed_read_back (negsuc n) fits =
    let ten = decimal_is_IsNumeral (suc n) (omega (arith, fits)) in
    inr (decimal (suc n), refl, ten.0, omega (arith, fits, ten.1), ap (λ m. neg_ℤ (pos m)) (sym ten.1))

-- ---- printed steps

record IsSpelled {A : Type 0} (form_of : List ℕ → Option (Form A)) (words : List (List ℕ)) (value : A) : Type 0 where
  is_named : IsNamed form_of words value
  plain : AllByRecursion IsPlain words

spelled : {A : Type 0} (form_of : List ℕ → Option (Form A)) (name : List ℕ) (arguments : List (List ℕ)) (form : Form A) (ns : List (Option ℕ)) → form_of name ≡ Some form → IsPlain name
    → form.least ≤ length arguments → length arguments ≤ form.most → AreArguments form.may_be_absent form.limit arguments ns → IsSpelled form_of (name ∷ arguments) (form.makes ns)
spelled form_of name arguments form ns at plain enough not_more numbers = record {
  is_named = record {
    name = name;
    others = arguments;
    form = form;
    arguments = ns;
    parts = refl;
    has_form = at;
    enough = enough;
    not_more = not_more;
    are_arguments = numbers;
    made = refl;
  };
  plain = (plain, arguments_plain form.may_be_absent form.limit arguments ns numbers);
}

number_written : (ns : List ℕ) (k : ℕ) → number_at (map (λ n. Some n) ns) k ≡ get_or ns k 0
number_written [] k = refl
number_written (n ∷ ns) zero = refl
number_written (n ∷ ns) (suc k) = number_written ns k

-- the arguments that a call's printed numbers are
abbrev written : Regs → List (Option ℕ)
written regs = Some regs.eid ∷ Some regs.fid ∷ map (λ n. Some n) regs.a

six_arguments : (regs : Regs) → length regs.a ≡ 6 → regs_of (written regs) ≡ regs
six_arguments regs six =
    ap (λ (a : List ℕ). record { eid = regs.eid; fid = regs.fid; a = a })
    (sym (fill_by_all (λ k. number_at (map (λ n. Some n) regs.a) k) regs.a 6 0 six (λ k h. sym (number_written regs.a k))))

optional_read_back : (n : Option ℕ) → IfSome n (λ m. m ≤ last_number) → IsArgument true last_number (hex_or_dash n) n
optional_read_back (Some n) fits = (number_read_back last_number n fits (omega arith)).1
optional_read_back None fits = (refl, refl)

-- a name with `.w` behind it
half_plain : (name : List ℕ) → IsPlain name → IsPlain (name ++ codes ".w")
half_plain [] plain = absurd (plain.0 refl)
half_plain (b ∷ name) plain = (
  (λ e. cc),
  append_all IsPlainByte (b ∷ name) (codes ".w") plain.1
      (record { allowed = refl; solid = refl; no_hash = refl }, (record { allowed = refl; solid = refl; no_hash = refl }, tt)),
)

double_plain : (function : AmoFunction) → IsPlain (amo_word (amo_names.Double function))
double_plain functions.Swap = name_plain (codes "amoswap") (λ e. cc) (omega arith)
double_plain functions.Add = name_plain (codes "amoadd") (λ e. cc) (omega arith)
double_plain functions.And = name_plain (codes "amoand") (λ e. cc) (omega arith)
double_plain functions.Or = name_plain (codes "amoor") (λ e. cc) (omega arith)
double_plain functions.Xor = name_plain (codes "amoxor") (λ e. cc) (omega arith)
double_plain functions.Min = name_plain (codes "amomin") (λ e. cc) (omega arith)
double_plain functions.Max = name_plain (codes "amomax") (λ e. cc) (omega arith)
double_plain functions.Minu = name_plain (codes "amominu") (λ e. cc) (omega arith)
double_plain functions.Maxu = name_plain (codes "amomaxu") (λ e. cc) (omega arith)

amo_plain : (name : AmoName) → IsPlain (amo_word name)
amo_plain (amo_names.Double function) = double_plain function
amo_plain (amo_names.Half functions.Swap) = half_plain (codes "amoswap") (double_plain functions.Swap)
amo_plain (amo_names.Half functions.Add) = half_plain (codes "amoadd") (double_plain functions.Add)
amo_plain (amo_names.Half functions.And) = half_plain (codes "amoand") (double_plain functions.And)
amo_plain (amo_names.Half functions.Or) = half_plain (codes "amoor") (double_plain functions.Or)
amo_plain (amo_names.Half functions.Xor) = half_plain (codes "amoxor") (double_plain functions.Xor)
amo_plain (amo_names.Half functions.Min) = half_plain (codes "amomin") (double_plain functions.Min)
amo_plain (amo_names.Half functions.Max) = half_plain (codes "amomax") (double_plain functions.Max)
amo_plain (amo_names.Half functions.Minu) = half_plain (codes "amominu") (double_plain functions.Minu)
amo_plain (amo_names.Half functions.Maxu) = half_plain (codes "amomaxu") (double_plain functions.Maxu)
amo_plain amo_names.Cas = name_plain (codes "amocas") (λ e. cc) (omega arith)
amo_plain amo_names.Store1 = name_plain (codes "store1") (λ e. cc) (omega arith)
amo_plain amo_names.Store2 = name_plain (codes "store2") (λ e. cc) (omega arith)
amo_plain amo_names.Store4 = name_plain (codes "store4") (λ e. cc) (omega arith)

-- an operation on the word around its address: the address and its numbers behind its name
amo_read_back : (name : AmoName) (ns : List ℕ) → length ns ≡ 1 + count name → AllByRecursion (λ n. n ≤ last_number) ns
    → IsSpelled form_of (amo_word name ∷ map hex ns) (op_from (op_names.Amo name) (map (λ n. Some n) ns))
amo_read_back name ns same fits =
    let as_many = length-map ns hex in
    spelled form_of (amo_word name) (map hex ns) (op_form (op_names.Amo name)) (map (λ n. Some n) ns) (op_forms (op_names.Amo name)).0 (amo_plain name)
    (omega (arith, as_many, same)) (omega (arith, as_many, same)) (hexes_read_back ns fits)

op_read_back : (op : Op) → FitsOp op → IsSpelled form_of (op_words op) op
unfolding form_of
op_read_back (Ecall regs) fits =
    let number = λ (n : ℕ) (small : n ≤ last_number). (number_read_back last_number n small (omega arith)).1 in
    let count = length-map regs.a hex in
    subst (λ (r : Regs). IsSpelled form_of (op_words (Ecall regs)) (Ecall r)) (six_arguments regs fits.2)
    (spelled form_of (codes "ecall") (hex regs.eid ∷ hex regs.fid ∷ map hex regs.a) _ (written regs) refl
    (name_plain (codes "ecall") (λ e. cc) (omega arith)) (omega (arith, count)) (omega (arith, count, fits.2))
    (number regs.eid fits.0, (number regs.fid fits.1, hexes_read_back regs.a fits.3)))
op_read_back (Load va) fits =
    spelled form_of (codes "load") (hex va ∷ []) _ (Some va ∷ []) refl (name_plain (codes "load") (λ e. cc) (omega arith)) (omega arith) (omega arith)
    ((number_read_back last_number va fits (omega arith)).1, tt)
op_read_back (Store va value) fits =
    spelled form_of (codes "store") (hex va ∷ hex value ∷ []) _ (Some va ∷ Some value ∷ []) refl (name_plain (codes "store") (λ e. cc) (omega arith)) (omega arith) (omega arith)
    ((number_read_back last_number va fits.0 (omega arith)).1, ((number_read_back last_number value fits.1 (omega arith)).1, tt))
op_read_back (Fetch va) fits =
    spelled form_of (codes "fetch") (hex va ∷ []) _ (Some va ∷ []) refl (name_plain (codes "fetch") (λ e. cc) (omega arith)) (omega arith) (omega arith)
    ((number_read_back last_number va fits (omega arith)).1, tt)
op_read_back (Amo at (amos.Double function n)) fits = amo_read_back (amo_names.Double function) (at ∷ n ∷ []) refl fits
op_read_back (Amo at (amos.Half function n)) fits = amo_read_back (amo_names.Half function) (at ∷ n ∷ []) refl fits
op_read_back (Amo at (amos.Cas expected value)) fits = amo_read_back amo_names.Cas (at ∷ expected ∷ value ∷ []) refl fits
op_read_back (Amo at (amos.Store1 n)) fits = amo_read_back amo_names.Store1 (at ∷ n ∷ []) refl fits
op_read_back (Amo at (amos.Store2 n)) fits = amo_read_back amo_names.Store2 (at ∷ n ∷ []) refl fits
op_read_back (Amo at (amos.Store4 n)) fits = amo_read_back amo_names.Store4 (at ∷ n ∷ []) refl fits
op_read_back (WriteSatp value) fits =
    spelled form_of (codes "satp") (hex value ∷ []) _ (Some value ∷ []) refl (name_plain (codes "satp") (λ e. cc) (omega arith)) (omega arith) (omega arith)
    ((number_read_back last_number value fits (omega arith)).1, tt)
op_read_back (WriteSie value) fits =
    spelled form_of (codes "sie") (hex value ∷ []) _ (Some value ∷ []) refl (name_plain (codes "sie") (λ e. cc) (omega arith)) (omega arith) (omega arith)
    ((number_read_back last_number value fits (omega arith)).1, tt)
op_read_back (WriteSstatusSie false) fits =
    spelled form_of (codes "sstatus") (decimal 0 ∷ []) _ (Some 0 ∷ []) refl (name_plain (codes "sstatus") (λ e. cc) (omega arith)) (omega arith) (omega arith)
    ((number_read_back 1 0 (omega arith) (omega arith)).0, tt)
op_read_back (WriteSstatusSie true) fits =
    spelled form_of (codes "sstatus") (decimal 1 ∷ []) _ (Some 1 ∷ []) refl (name_plain (codes "sstatus") (λ e. cc) (omega arith)) (omega arith) (omega arith)
    ((number_read_back 1 1 (omega arith) (omega arith)).0, tt)
op_read_back ReadSip fits =
    spelled form_of (codes "sip") [] _ [] refl (name_plain (codes "sip") (λ e. cc) (omega arith)) (omega arith) (omega arith) tt
op_read_back ClearSsip fits =
    spelled form_of (codes "clearssip") [] _ [] refl (name_plain (codes "clearssip") (λ e. cc) (omega arith)) (omega arith) (omega arith) tt
op_read_back (Sfence va asid) fits =
    spelled form_of (codes "sfence") (hex_or_dash va ∷ hex_or_dash asid ∷ []) _ (va ∷ asid ∷ []) refl (name_plain (codes "sfence") (λ e. cc) (omega arith)) (omega arith) (omega arith)
    (optional_read_back va fits.0, (optional_read_back asid fits.1, tt))
op_read_back FenceI fits =
    spelled form_of (codes "fencei") [] _ [] refl (name_plain (codes "fencei") (λ e. cc) (omega arith)) (omega arith) (omega arith) tt
op_read_back Wfi fits =
    spelled form_of (codes "wfi") [] _ [] refl (name_plain (codes "wfi") (λ e. cc) (omega arith)) (omega arith) (omega arith) tt
op_read_back Poll fits =
    spelled form_of (codes "poll") [] _ [] refl (name_plain (codes "poll") (λ e. cc) (omega arith)) (omega arith) (omega arith) tt
op_read_back Serve fits =
    spelled form_of (codes "serve") [] _ [] refl (name_plain (codes "serve") (λ e. cc) (omega arith)) (omega arith) (omega arith) tt
op_read_back Advance fits =
    spelled form_of (codes "advance") [] _ [] refl (name_plain (codes "advance") (λ e. cc) (omega arith)) (omega arith) (omega arith) tt
op_read_back (Tick n) fits =
    spelled form_of (codes "tick") (hex n ∷ []) _ (Some n ∷ []) refl (name_plain (codes "tick") (λ e. cc) (omega arith)) (omega arith) (omega arith)
    ((number_read_back last_number n fits (omega arith)).1, tt)

actor_read_back : (actor : Actor) → FitsActor actor → IsActor (actor_word actor) actor
actor_read_back (Hart h) fits = (number_read_back last_hart h fits (omega arith)).0
actor_read_back Clock fits = refl

actor_plain : (actor : Actor) → FitsActor actor → IsPlain (actor_word actor)
actor_plain (Hart h) fits = spelled_plain (decimal h) h (number_read_back last_hart h fits (omega arith)).0.1
actor_plain Clock fits = name_plain (codes "c") (λ e. cc) (omega arith)

step_is : (actor : Actor) (op : Op) → FitsActor actor → FitsOp op → IsStep (actor_word actor ∷ op_words op) actor op
step_is actor op fits_actor fits_op = record {
  first = actor_word actor;
  others = op_words op;
  parts = refl;
  is_actor = actor_read_back actor fits_actor;
  is_op = (op_read_back op fits_op).is_named;
}

doing_is : (doing : Doing) → ActorFits doing → OpFits doing → IsDoing (doing_words doing) doing
doing_is (Step actor op) fits_actor fits_op = step_is actor op fits_actor fits_op
doing_is Cut fits_actor fits_op = refl

doing_plain : (doing : Doing) → ActorFits doing → OpFits doing → AllByRecursion IsPlain (doing_words doing)
doing_plain (Step actor op) fits_actor fits_op = (actor_plain actor fits_actor, (op_read_back op fits_op).plain)
doing_plain Cut fits_actor fits_op = (name_plain (codes "cut") (λ e. cc) (omega arith), tt)

-- ---- printed answers

record IsAnswer (words : List (List ℕ)) (said : Said) : Type 0 where
  is_said : IsSaid words said
  plain : AllByRecursion IsPlain words

named_answer : (words : List (List ℕ)) (said : Said) → IsSpelled said_form_of words said → IsAnswer words said
named_answer words said is = record { is_said = inr is.is_named; plain = is.plain }

signed_plain : (e : ℤ) → FitsError e → IsPlain (signed_decimal e)
signed_plain (pos n) fits = spelled_plain (decimal n) n (number_read_back last_number n (omega (arith, fits)) (omega arith)).0.1
signed_plain (negsuc n) fits =
    let digits = spelled_plain (decimal (suc n)) (suc n) (number_read_back last_number (suc n) (omega (arith, fits)) (omega arith)).0.1 in
    ((λ e. cc), (record { allowed = refl; solid = refl; no_hash = refl }, digits.1))

alone_answer : (name : List ℕ) (form : Form Said) → said_form_of name ≡ Some form → form.least ≡ 0 → form.most ≡ 0 → IsPlain name → IsAnswer (name ∷ []) (form.makes [])
alone_answer name form at least most plain =
    named_answer (name ∷ []) (form.makes []) (spelled said_form_of name [] form [] at plain (omega (arith, least)) (omega (arith, most)) tt)

one_answer : (name word : List ℕ) (n : ℕ) (form : Form Said) → said_form_of name ≡ Some form → form.least ≡ 1 → form.most ≡ 1 → form.may_be_absent ≡ false → form.limit ≡ last_number
    → IsPlain name → IsNumber last_number word n → IsAnswer (name ∷ word ∷ []) (form.makes (Some n ∷ []))
one_answer name word n form at least most absent limit plain number =
    named_answer (name ∷ word ∷ []) (form.makes (Some n ∷ [])) (spelled said_form_of name (word ∷ []) form (Some n ∷ []) at plain (omega (arith, least)) (omega (arith, most))
    (rw limit (number, tt)))

cause_small : (cause : Cause) → cause_number cause ≤ last_number
cause_small causes.InstructionAddressMisaligned = omega arith
cause_small causes.InstructionAccessFault = omega arith
cause_small causes.LoadAddressMisaligned = omega arith
cause_small causes.LoadAccessFault = omega arith
cause_small causes.StoreAddressMisaligned = omega arith
cause_small causes.StoreAccessFault = omega arith
cause_small causes.InstructionPageFault = omega arith
cause_small causes.LoadPageFault = omega arith
cause_small causes.StorePageFault = omega arith

state_small : (state : HartState) → state_number state ≤ last_number
state_small states.Started = omega arith
state_small states.Stopped = omega arith
state_small states.StartPending = omega arith
state_small states.StopPending = omega arith
state_small states.Suspended = omega arith
state_small states.SuspendPending = omega arith
state_small states.ResumePending = omega arith

refusal_small : (refusal : Refusal) → refusal_number refusal ≤ last_number
refusal_small refusals.Off = omega arith
refusal_small refusals.WrongPhase = omega arith
refusal_small refusals.Nothing = omega arith
refusal_small refusals.HistoryFull = omega arith
refusal_small refusals.TimeFull = omega arith

answer_read_back : (answer : Result Reply Refusal) → FitsAnswer answer → IsAnswer (reply_words answer) (said_of answer)
unfolding said_form_of
answer_read_back (Ok (replies.Ret answer)) fits =
    let value = (number_read_back last_number answer.value fits.1 (omega arith)).1 in
    record {
      is_said = inl (record {
        error_word = signed_decimal answer.error;
        value_word = hex answer.value;
        error = answer.error;
        value = answer.value;
        parts = refl;
        is_error = signed_read_back answer.error fits.0;
        is_value = value;
        made = refl;
      });
      plain = (name_plain (codes "ret") (λ e. cc) (omega arith), (signed_plain answer.error fits.0, (spelled_plain (hex answer.value) answer.value value.1, tt)));
    }
answer_read_back (Ok replies.Waiting) fits = alone_answer (codes "waiting") _ refl refl refl (name_plain (codes "waiting") (λ e. cc) (omega arith))
answer_read_back (Ok replies.Gone) fits = alone_answer (codes "gone") _ refl refl refl (name_plain (codes "gone") (λ e. cc) (omega arith))
answer_read_back (Ok (replies.Entry addr hart opaque)) fits =
    named_answer _ _ (spelled said_form_of (codes "entry") (hex addr ∷ decimal hart ∷ hex opaque ∷ []) _ (Some addr ∷ Some hart ∷ Some opaque ∷ []) refl
    (name_plain (codes "entry") (λ e. cc) (omega arith)) (omega arith) (omega arith) (
      (number_read_back last_number addr fits.0 (omega arith)).1,
      ((number_read_back last_number hart fits.1 (omega arith)).0, ((number_read_back last_number opaque fits.2 (omega arith)).1, tt)),
    ))
answer_read_back (Ok (replies.Value value)) fits =
    one_answer (codes "value") (hex value) value _ refl refl refl refl refl (name_plain (codes "value") (λ e. cc) (omega arith))
    (number_read_back last_number value fits (omega arith)).1
answer_read_back (Ok (replies.Fault cause)) fits =
    one_answer (codes "fault") (decimal (cause_number cause)) (cause_number cause) _ refl refl refl refl refl (name_plain (codes "fault") (λ e. cc) (omega arith))
    (number_read_back last_number (cause_number cause) (cause_small cause) (omega arith)).0
answer_read_back (Ok replies.Served) fits = alone_answer (codes "served") _ refl refl refl (name_plain (codes "served") (λ e. cc) (omega arith))
answer_read_back (Ok (replies.Moved state)) fits =
    one_answer (codes "moved") (decimal (state_number state)) (state_number state) _ refl refl refl refl refl (name_plain (codes "moved") (λ e. cc) (omega arith))
    (number_read_back last_number (state_number state) (state_small state) (omega arith)).0
answer_read_back (Ok replies.Done) fits = alone_answer (codes "done") _ refl refl refl (name_plain (codes "done") (λ e. cc) (omega arith))
answer_read_back (Err refusal) fits =
    one_answer (codes "refused") (decimal (refusal_number refusal)) (refusal_number refusal) _ refl refl refl refl refl (name_plain (codes "refused") (λ e. cc) (omega arith))
    (number_read_back last_number (refusal_number refusal) (refusal_small refusal) (omega arith)).0

-- ---- printed lines

arrow_plain : IsPlain (codes "->")
arrow_plain = ((λ e. cc), (record { allowed = refl; solid = refl; no_hash = refl }, (record { allowed = refl; solid = refl; no_hash = refl }, tt)))

words_plain : (step : Answered) → FitsAnswered step → AllByRecursion IsPlain (answered_words step)
words_plain step fits =
    append_all IsPlain (doing_words step.doing) (codes "->" ∷ reply_words step.answer)
    (doing_plain step.doing fits.actor fits.op) (arrow_plain, (answer_read_back step.answer fits.answer).plain)

pub line_read_back : LineReadsBack
line_read_back n step fits = (
  joined_line (answered_words step) (words_plain step fits),
  (
    doing_words step.doing,
    reply_words step.answer,
    said_of step.answer,
    refl,
    refl,
    refl,
    doing_is step.doing fits.actor fits.op,
    (answer_read_back step.answer fits.answer).is_said,
  ),
)

-- ---- printed traces

comments_pass : (n : ℕ) (draft : Draft) (texts : List (List ℕ)) → AllByRecursion (λ text. IsLine text []) texts → AreLines n draft texts draft
comments_pass n draft [] all = refl
comments_pass n draft (text ∷ texts) all = inl (all.0, comments_pass (n + 1) draft texts all.1)

abbrev printed_lines : List Answered → List ℕ → List ℕ
printed_lines steps comments = flat_map (λ step. as_line (answered_words step)) steps ++ comments

first_line : (step : Answered) (steps : List Answered) (comments : List ℕ) → FitsAnswered step
    → lines (printed_lines (step ∷ steps) comments) ≡ join_with_byte 32 (answered_words step) ∷ lines (printed_lines steps comments)
first_line step steps comments fits =
    ap lines (append_assoc (as_line (answered_words step)) (flat_map (λ s. as_line (answered_words s)) steps) comments)
    ∙ lines_printed (answered_words step) (printed_lines steps comments) (words_plain step fits)

lines_read_back : (n : ℕ) (before : List Line) (steps : List Answered) (comments : List ℕ) → AllByRecursion FitsAnswered steps → AreComments comments
    → AreLines n (Traced before) (lines (printed_lines steps comments)) (Traced (before ++ trace_lines n steps))
lines_read_back n before [] comments fits are =
    subst (λ l. AreLines n (Traced before) (lines comments) (Traced l)) (sym (append-nil before)) (comments_pass n (Traced before) (lines comments) are)
lines_read_back n before (step ∷ steps) comments fits are =
    let read = line_read_back n step fits.0 in
    let line = trace_line n step in
    rw (first_line step steps comments fits.0)
    (inr (
      answered_words step,
      Traced (before ++ line ∷ []),
      read.0,
      (line, read.1, refl),
      subst (λ l. AreLines (n + 1) (Traced (before ++ line ∷ [])) (lines (printed_lines steps comments)) (Traced l))
          (append_assoc before (line ∷ []) (trace_lines (n + 1) steps)) (lines_read_back (n + 1) (before ++ line ∷ []) steps comments fits.1 are),
    ))

-- what all lines say
abbrev draft_of : List Line → Draft
draft_of [] = Nothing
draft_of (line ∷ lines) = Traced (line ∷ lines)

all_read_back : (n : ℕ) (steps : List Answered) (comments : List ℕ) → AllByRecursion FitsAnswered steps → AreComments comments
    → AreLines n Nothing (lines (printed_lines steps comments)) (draft_of (trace_lines n steps))
all_read_back n [] comments fits are = comments_pass n Nothing (lines comments) are
all_read_back n (step ∷ steps) comments fits are =
    let read = line_read_back n step fits.0 in
    let line = trace_line n step in
    rw (first_line step steps comments fits.0)
    (inr (answered_words step, Traced (line ∷ []), read.0, (line, read.1, refl), lines_read_back (n + 1) (line ∷ []) steps comments fits.1 are))

content_drafted : (lines : List Line) → trace_of lines ≡ content_of (draft_of lines)
content_drafted [] = refl
content_drafted (line ∷ lines) = refl

-- the words of a board's numbers, of which the last two are left out where they are the usual ones
abbrev arguments_of : Config → (usual : Bool) → List (List ℕ)
arguments_of c usual =
    decimal c.harts ∷ decimal c.pages ∷ decimal c.limit ∷ decimal c.boot_hart ∷ hex c.boot_addr ∷ hex c.boot_opaque
    ∷ (if usual then [] else decimal c.asid_len ∷ decimal c.width ∷ [])

-- they are all numbers, or the first six of a board with the usual two
abbrev AreBoard : Config → (usual : Bool) → Type 0
AreBoard c usual =
    AreNumbers last_number (arguments_of c usual) (numbers_of c)
    ⊎ (AreNumbers last_number (arguments_of c usual) (first_numbers c) × HasUsualSpaces c)

board_numbers : (c : Config) (usual : Bool) → has_usual_spaces c ≡ usual → FitsConfig c → AreBoard c usual
board_numbers c true is fits =
    let number = λ (n : ℕ) (small : n ≤ last_number). number_read_back last_number n small (omega arith) in
    let parts = and_parts (eqb c.asid_len 16) (eqb c.width 39) is in
    inr (
      (
        (number c.harts fits.0).0,
        (
          (number c.pages fits.1.0).0,
          (
            (number c.limit fits.1.1.0).0,
            ((number c.boot_hart fits.1.1.1.0).0, ((number c.boot_addr fits.1.1.1.1.0).1, ((number c.boot_opaque fits.1.1.1.1.1.0).1, tt))),
          ),
        ),
      ),
      record { asid_len = eqb-true c.asid_len 16 parts.0; width = eqb-true c.width 39 parts.1 },
    )
board_numbers c false is fits =
    let number = λ (n : ℕ) (small : n ≤ last_number). number_read_back last_number n small (omega arith) in
    inl (
      (number c.harts fits.0).0,
      (
        (number c.pages fits.1.0).0,
        (
          (number c.limit fits.1.1.0).0,
          (
            (number c.boot_hart fits.1.1.1.0).0,
            (
              (number c.boot_addr fits.1.1.1.1.0).1,
              (
                (number c.boot_opaque fits.1.1.1.1.1.0).1,
                ((number c.asid_len fits.1.1.1.1.1.1.0).0, ((number c.width fits.1.1.1.1.1.1.1.0).0, tt)),
              ),
            ),
          ),
        ),
      ),
    )

numbers_are_plain : (c : Config) (usual : Bool) → AreBoard c usual → AllByRecursion IsPlain (arguments_of c usual)
numbers_are_plain c usual (inl all) = numbers_plain last_number (arguments_of c usual) (numbers_of c) all
numbers_are_plain c usual (inr first) = numbers_plain last_number (arguments_of c usual) (first_numbers c) first.0

board_plain : (c : Config) → FitsConfig c → AllByRecursion IsPlain (board_line_words c)
board_plain c fits = (
  name_plain (codes "board") (λ e. cc) (omega arith),
  numbers_are_plain c (has_usual_spaces c) (board_numbers c (has_usual_spaces c) refl fits),
)

pub trace_read_back : TraceReadsBack
trace_read_back c steps comments fits fit are short =
    let body = printed_lines steps comments in
    let plain = board_plain c fits in (
      short,
      rw (lines_printed (board_line_words c) body plain)
          (inr (
            board_line_words c,
            draft_of (trace_lines 2 steps),
            joined_line (board_line_words c) plain,
            record { arguments = arguments_of c (has_usual_spaces c); parts = refl; are_numbers = board_numbers c (has_usual_spaces c) refl fits },
            all_read_back 2 steps comments fit are,
            content_drafted (trace_lines 2 steps),
          )),
    )
