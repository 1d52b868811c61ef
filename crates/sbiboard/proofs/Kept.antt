-- What a keeper has appended while lines wait on its page.
use Rattle.std.proofs.Common.{◌≡◌, ◌∙◌, ℕ, List, [], ◌∷◌, ◌++◌, Option, sym, ap, subst, append_assoc, append-nil}
use Rattle.std.specs.Io.KnownBytes.{Appends}
use Rattle.std.proofs.KnownBytes.{Appends-nil, Appends-trans}
use Rattle.sbiboard.specs.declared.keeping.Step.{Step}
use Rattle.sbiboard.specs.Keeping.{AppendsLines, accepted_line, steps_text}

-- what was appended, and then what waits, are the lines of some steps
pub record HasKept (before after : Option (List ℕ)) (waiting : List ℕ) : Type 0 where
  pub steps : List Step
  pub taken : List ℕ
  pub written : Appends before after taken
  pub text : taken ++ waiting ≡ steps_text steps

steps_text-more : (steps : List Step) (s : Step) → steps_text (steps ++ s ∷ []) ≡ steps_text steps ++ accepted_line s
steps_text-more [] s = append-nil (accepted_line s)
steps_text-more (first ∷ steps) s = ap (λ text. accepted_line first ++ text) (steps_text-more steps s) ∙ sym (append_assoc (accepted_line first) (steps_text steps) (accepted_line s))

pub has_kept-none : (known : Option (List ℕ)) (waiting : List ℕ) → waiting ≡ [] → HasKept known known waiting
has_kept-none known waiting none = record { steps = []; taken = []; written = Appends-nil known; text = none }

-- one more line came, and some of what waited was written
pub has_kept-passed : (before middle after : Option (List ℕ)) (taken waiting later : List ℕ) (s : Step)
    → taken ++ later ≡ waiting ++ accepted_line s → HasKept before middle waiting → Appends middle after taken → HasKept before after later
has_kept-passed before middle after taken waiting later s passes so_far more = record {
  steps = so_far.steps ++ s ∷ [];
  taken = so_far.taken ++ taken;
  written = Appends-trans before middle after so_far.taken taken so_far.written more;
  text = append_assoc so_far.taken taken later ∙ ap (λ t. so_far.taken ++ t) passes ∙ sym (append_assoc so_far.taken waiting (accepted_line s))
      ∙ ap (λ t. t ++ accepted_line s) so_far.text ∙ sym (steps_text-more so_far.steps s);
}

-- all that waited was written
pub has_kept-put : (before middle after : Option (List ℕ)) (waiting : List ℕ) → HasKept before middle waiting → Appends middle after waiting → AppendsLines before after
has_kept-put before middle after waiting so_far put =
    (so_far.steps, subst (Appends before after) so_far.text (Appends-trans before middle after so_far.taken waiting so_far.written put))

pub appends_none : (known : Option (List ℕ)) → AppendsLines known known
appends_none known = ([], Appends-nil known)
