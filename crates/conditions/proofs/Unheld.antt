-- Words of patterns that no step can have, one by one.
use Rattle.std.proofs.Common.{◌≡◌, ℕ, ◌+◌, ◌<◌, ◌≤◌, Bool, true, false, List, length, refl, sym, ap, ◌∙◌, ◌⊎◌, inl, inr, subst, below_more, arith}
use Rattle.std.specs.Prelude.{◌↔◌, if◌then◌else◌, MatchOption, Option, Some, None}
use Rattle.std.proofs.lemmas.Option.{none-some, same_Some, slice_get_within}
use Rattle.script_lines.specs.declared.op_name.OpName.{OpName}
use Rattle.script_lines.specs.declared.op_name.OpName.TheVariants.{Tick}
use Rattle.script_lines.specs.declared.said_name.SaidName.{SaidName}
use Rattle.condition_script.specs.declared.items.Item.{Item}
use Rattle.condition_script.specs.declared.items.Item.TheVariants.{Word}
use Rattle.conditions.specs.declared.misfits.Misfit.{Misfit}
use Rattle.conditions.specs.declared.misfits.Misfit.TheVariants.{NoMark, NoReply, Untold}
use Rattle.condition_script.specs.declared.marks.Mark.{Mark}
use Rattle.condition_script.specs.declared.names.Name.TheVariants.{Op, Said}
use Rattle.condition_script.specs.declared.names.Name.TheVariants as names
use Rattle.condition_script.specs.declared.patterns.Pattern.{Pattern}
use Rattle.condition_script.specs.declared.rules.Rule.{Rule}
use Rattle.conditions.specs.Inside.Held.{HasAnswer, HasHeldAt, HasNoAnswer, HasRightAt, IsDoneBy, meant, no_reply}
use Rattle.conditions.specs.Misfits.{CanDo, IsAnswerMisfit, IsClocks, IsDoerMisfit, IsMarkMisfit, IsMarked, IsMisfitBy, IsOpMisfit, IsReplyMisfit, IsWrongAnswer, IsWrongInReply, MeansOp, OpCanHave, IsWordAt, is_access, is_reply_to}

-- ---- an operation's words

abbrev pub HeldBefore : Pattern → OpName → ℕ → Type 0
HeldBefore p op n = (k : ℕ) → k < n → 2 ≤ k → HasHeldAt p op k

pub op-keep : (p : Pattern) (op : OpName) (n : ℕ) → HasHeldAt p op n → HeldBefore p op n → HeldBefore p op (n + 1)
op-keep p op n here before =
    let P : ℕ → Type 0 = λ k. 2 ≤ k → HasHeldAt p op k in
    below_more P n before (λ behind. here)

named_op : OpName → Option (Option Item) → OpName
named_op other (Some (Some (Word (Op op)))) = op
named_op other _ = other

same-op : (words : List (Option Item)) (a b : OpName) → IsWordAt words 1 (Word (Op a)) → IsWordAt words 1 (Word (Op b)) → a ≡ b
unfolding named_op
same-op words a b first second = ap (named_op a) (sym first ∙ second)

pub no-op-misfit : (p : Pattern) (op : OpName) (n : ℕ) → IsWordAt p.step.items 1 (Word (Op op)) → length p.step.items ≤ n → HeldBefore p op n
    → (any : Misfit) → ¬ IsOpMisfit p any
no-op-misfit p op n named long before any is =
    let within : is.place < length p.step.items = slice_get_within p.step.items is.place (Some is.item) is.stands in
    let held : OpCanHave op is.item = before is.place (omega arith) is.behind is.item is.stands in
    let P : OpName → Type 0 = λ name. OpCanHave name is.item in
    is.unheld (subst P (same-op p.step.items op is.op named is.named) held)

-- ---- a reply's words

abbrev pub RightBefore : ℕ → Pattern → SaidName → ℕ → Type 0
RightBefore harts p said n = (k : ℕ) → k < n → 1 ≤ k → HasRightAt harts p said k

pub reply-keep : (harts : ℕ) (p : Pattern) (said : SaidName) (n : ℕ) → HasRightAt harts p said n → RightBefore harts p said n → RightBefore harts p said (n + 1)
reply-keep harts p said n here before =
    let P : ℕ → Type 0 = λ k. 1 ≤ k → HasRightAt harts p said k in
    below_more P n before (λ behind. here)

named_said : SaidName → Option (Option Item) → SaidName
named_said other (Some (Some (Word (Said said)))) = said
named_said other _ = other

same-said : (words : List (Option Item)) (a b : SaidName) → IsWordAt words 0 (Word (Said a)) → IsWordAt words 0 (Word (Said b)) → a ≡ b
unfolding named_said
same-said words a b first second = ap (named_said a) (sym first ∙ second)

pub no-reply-misfit : (harts : ℕ) (p : Pattern) (said : SaidName) (n : ℕ) → IsWordAt p.reply.items 0 (Word (Said said)) → length p.reply.items ≤ n
    → RightBefore harts p said n → (any : Misfit) → ¬ IsReplyMisfit harts p any
no-reply-misfit harts p said n named long before any is =
    let within : is.place < length p.reply.items = slice_get_within p.reply.items is.place (Some is.item) is.stands in
    let P : SaidName → Type 0 = λ name. IsWrongInReply harts p name is.place is.item any in
    before is.place (omega arith) is.behind is.item is.stands any (subst P (sym (same-said p.reply.items said is.said named is.named)) is.wrong)

pub reply-at : (harts : ℕ) (p : Pattern) (said : SaidName) (place : ℕ) → IsWordAt p.reply.items 0 (Word (Said said)) → 1 ≤ place
    → (item : Item) → IsWordAt p.reply.items place item → (o : Option Misfit)
    → MatchOption o ((any : Misfit) → ¬ IsWrongInReply harts p said place item any) (IsWrongInReply harts p said place item)
    → MatchOption o (HasRightAt harts p said place) (IsReplyMisfit harts p)
reply-at harts p said place named behind item stands None right = λ other at any wrong.
    let same : other ≡ item = same_Some other item (same_Some (Some other) (Some item) (sym at ∙ stands)) in
    let P : Item → Type 0 = λ x. IsWrongInReply harts p said place x any in
    right any (subst P same wrong)
reply-at harts p said place named behind item stands (Some misfit) wrong = record {
  said = said;
  named = named;
  place = place;
  item = item;
  behind = behind;
  stands = stands;
  wrong = wrong;
}

-- ---- one part after the other

pub none-or : (A B : Misfit → Type 0) (o : Option Misfit) → ((any : Misfit) → ¬ A any) → MatchOption o ((any : Misfit) → ¬ B any) B
    → MatchOption o ((any : Misfit) → ¬ (A any ⊎ B any)) (λ misfit. A misfit ⊎ B misfit)
none-or A B None first second = λ any is. elim is [ inl a ↦ first any a | inr b ↦ second any b ]
none-or A B (Some misfit) first is = inr is

-- ---- an operation and a reply

same-meant : (p : Pattern) (a b : OpName) → MeansOp p a → MeansOp p b → a ≡ b
same-meant p a b (inl first) (inl second) = first.1 ∙ sym second.1
same-meant p a b (inl first) (inr second) = absurd (second.0 first.0)
same-meant p a b (inr first) (inl second) = absurd (first.0 second.0)
same-meant p a b (inr first) (inr second) = same-op p.step.items a b first.1 second.1

kind-by : (p : Pattern) (op : OpName) (said : SaidName) (can : Bool) → is_reply_to op said ≡ can → MeansOp p op
    → IsWordAt p.reply.items 0 (Word (Said said)) → (found : Option Misfit) → found ≡ (if can then None else Some (NoReply op said))
    → MatchOption found ((any : Misfit) → ¬ IsAnswerMisfit p any) (IsAnswerMisfit p)
kind-by p op said true is meant replied found same = rw same (λ any x.
    let P : OpName → SaidName → Type 0 = λ o s. is_reply_to o s ≡ true in
    let on-op : is_reply_to x.op said ≡ true = subst (λ o. P o said) (same-meant p op x.op meant x.meant) is in
    let on-said : is_reply_to x.op x.said ≡ true = subst (λ s. P x.op s) (same-said p.reply.items said x.said replied x.replied) on-op in
    let clash = sym x.unheld ∙ on-said in
    cc)
kind-by p op said false is meant replied found same =
    rw same (record { op = op; meant = meant; said = said; replied = replied; unheld = is; told = refl })

pub kind-of : (p : Pattern) (op : Option OpName) (said : Option SaidName) (found : Option Misfit)
    → ((o : OpName) → (op ≡ Some o) ↔ MeansOp p o) → ((s : SaidName) → (said ≡ Some s) ↔ IsWordAt p.reply.items 0 (Word (Said s)))
    → found ≡ no_reply op said → MatchOption found ((any : Misfit) → ¬ IsAnswerMisfit p any) (IsAnswerMisfit p)
kind-of p (Some op) (Some said) found ops saids same = kind-by p op said (is_reply_to op said) refl ((ops op).0 refl) ((saids said).0 refl) found same
kind-of p (Some op) None found ops saids same = rw same (λ any x. none-some x.said ((saids x.said).1 x.replied))
kind-of p None said found ops saids same = rw same (λ any x. none-some x.op ((ops x.op).1 x.meant))

-- ---- an operation and a word of its reply

pub answer-of : (p : Pattern) (op : Option OpName) (said : SaidName) (item : Item) (found : Option Misfit)
    → ((o : OpName) → (op ≡ Some o) ↔ MeansOp p o) → MatchOption found (HasAnswer op said item) (HasNoAnswer op said item)
    → MatchOption found ((any : Misfit) → ¬ IsWrongAnswer p said item any) (IsWrongAnswer p said item)
answer-of p op said item None ops has = λ any x. x.2 (has x.0 ((ops x.0).1 x.1))
answer-of p op said item (Some misfit) ops has = (has.0, (ops has.0).0 has.1, has.2, has.3)

-- ---- an actor and its operation

pub meant-of : (p : Pattern) (is_clocks : Bool) (named found : Option OpName) → (is_clocks ≡ true) ↔ IsClocks p
    → ((o : OpName) → (named ≡ Some o) ↔ IsWordAt p.step.items 1 (Word (Op o))) → found ≡ meant is_clocks named
    → (o : OpName) → (found ≡ Some o) ↔ MeansOp p o
meant-of p true named found clocks is same o = rw same (
  (λ e. inl (clocks.0 refl, sym (same_Some Tick o e))),
  (λ m. elim m [ inl a ↦ ap Some (sym a.1) | inr b ↦ absurd (b.0 (clocks.0 refl)) ]),
)
meant-of p false named found clocks is same o = rw same (
  (λ e. inr ((λ at. let clash = clocks.1 at in cc), (is o).0 e)),
  (λ m. elim m [ inl a ↦ absurd (let clash = clocks.1 a.0 in cc) | inr b ↦ (is o).1 b.1 ]),
)

pub done-at : (p : Pattern) (actor : Item) → IsWordAt p.step.items 0 actor → (found : Option Misfit)
    → MatchOption found (IsDoneBy p actor) (IsDoerMisfit p) → MatchOption found ((any : Misfit) → ¬ IsDoerMisfit p any) (IsDoerMisfit p)
done-at p actor stands None done = λ any is.
    let same : actor ≡ is.actor = same_Some actor is.actor (same_Some (Some actor) (Some is.actor) (sym stands ∙ is.stands)) in
    is.unable (subst (λ a. CanDo a is.op) same (done is.op is.named))
done-at p actor stands (Some misfit) is = is

-- ---- marks

pub mark-none : (told : Bool) (p : Pattern) → ((mark : Mark) → IsMarked p mark → ⊥) → (any : Misfit) → ¬ IsMarkMisfit told p any
mark-none false p none any is = none is.0 is.1
mark-none true p none any is = none is.0 is.1

pub untold : (told : Bool) (p : Pattern) (mark : Mark) → told ≡ false → IsMarked p mark → IsMarkMisfit told p (Untold mark)
untold false p mark is marked = (mark, marked, refl)
untold true p mark is marked = cc

pub of-none : (told : Bool) (p : Pattern) (mark : Mark) (op : OpName) → told ≡ true → IsMarked p mark → MeansOp p op → is_access op ≡ false → IsMarkMisfit told p (NoMark op mark)
of-none false p mark op is marked means other = cc
of-none true p mark op is marked means other = (mark, marked, (op, means, other, refl))

pub of-one : (told : Bool) (p : Pattern) (op : OpName) → told ≡ true → MeansOp p op → is_access op ≡ true → (any : Misfit) → ¬ IsMarkMisfit told p any
of-one false p op is means access any found = cc
of-one true p op is means access any found =
    let yes = subst (λ (o : OpName). is_access o ≡ true) (same-meant p op found.2.0 means found.2.1) access in
    let no = found.2.2 in
    cc

pub of-access : (told : Bool) (p : Pattern) → told ≡ true → ((op : OpName) → MeansOp p op → is_access op ≡ true) → (any : Misfit) → ¬ IsMarkMisfit told p any
of-access false p is access any found = cc
of-access true p is access any found = let yes = access found.2.0 found.2.1 in let no = found.2.2 in cc

-- ---- conditions

pub misfit-by : (told : Bool) (harts : ℕ) (self rule : Rule) → self ≡ rule → (found : Option Misfit)
    → MatchOption found ((any : Misfit) → ¬ IsMisfitBy told harts rule any) (IsMisfitBy told harts rule)
    → MatchOption found ((any : Misfit) → ¬ IsMisfitBy told harts self any) (IsMisfitBy told harts self)
misfit-by told harts self rule same found is =
    let P : Rule → Type 0 = λ r. MatchOption found ((any : Misfit) → ¬ IsMisfitBy told harts r any) (IsMisfitBy told harts r) in
    subst P (sym same) is
