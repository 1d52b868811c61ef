-- What a check has found after some of the lines.
use Rattle.std.proofs.Common.{◌≡◌, ℕ, List, ◌∷◌, Some, subst, sym, ap, ◌∙◌, inl, inr}
use Rattle.std.specs.Prelude.{Result}
use Rattle.board_terms.specs.declared.reply.Refusal.{Refusal}
use Rattle.board_terms.specs.declared.reply.Reply.{Reply}
use Rattle.board_core.specs.Course.{Course}
use Rattle.script_lines.specs.declared.script.Line.{Line}
use Rattle.script_lines.specs.Agreeing.{said_of}
use Rattle.script_tasks.specs.Check.{Agrees, AllAgree, DiffersFirst}
use Rattle.script_tasks.specs.Running.{after_line, answer_of, StopsAtCut}

-- the lines before a cut agree
abbrev pub AgreeToCut : Course → List Line → Type 0
AgreeToCut b lines = (before : List Line) × StopsAtCut lines before × AllAgree b before

pub agree_to_cut-more : (b : Course) (line : Line) (lines others : List Line) → others ≡ line ∷ lines → Agrees b line → AgreeToCut (after_line b line) lines → AgreeToCut b others
agree_to_cut-more b line lines others are agrees (before, stops, agree) =
    (line ∷ before, record { cut = stops.cut; after = stops.after; parts = are ∙ ap (λ ls. line ∷ ls) stops.parts; is_cut = stops.is_cut }, (agrees, agree))

-- from the board b the other lines show what all lines show from the first board
pub record Checking (first b : Course) (lines others : List Line) : Type 0 where
  pub agree : AllAgree b others → AllAgree first lines
  pub stops : AgreeToCut b others → AgreeToCut first lines
  pub differs : (number : ℕ) (answer : Result Reply Refusal) → DiffersFirst b others number answer → DiffersFirst first lines number answer

module _ (b : Course) (line : Line) (rest others : List Line) (are : others ≡ line ∷ rest) (answer : Result Reply Refusal) (answer_is : answer ≡ answer_of b line) where
  pub differs_at : (number : ℕ) → number ≡ line.number → ¬ (line.said ≡ Some (said_of answer)) → DiffersFirst b others number answer
  differs_at number number_is other =
      subst (λ ls. DiffersFirst b ls number answer) (sym are) (inl ((λ agrees. other (agrees ∙ ap (λ a. Some (said_of a)) (sym answer_is))), number_is, answer_is))

  pub checking-more : (first next : Course) (lines : List Line) → next ≡ after_line b line → line.said ≡ Some (said_of answer) → Checking first b lines others → Checking first next lines rest
  checking-more first next lines next_is said so_far =
      let agrees : Agrees b line = said ∙ ap (λ a. Some (said_of a)) answer_is in
      record {
        agree = λ later. so_far.agree (subst (AllAgree b) (sym are) (agrees, subst (λ c. AllAgree c rest) next_is later));
        stops = λ later. so_far.stops (agree_to_cut-more b line rest others are agrees (subst (λ c. AgreeToCut c rest) next_is later));
        differs = λ number answer later.
            so_far.differs number answer (subst (λ ls. DiffersFirst b ls number answer) (sym are) (inr (agrees, subst (λ c. DiffersFirst c rest number answer) next_is later)));
      }
