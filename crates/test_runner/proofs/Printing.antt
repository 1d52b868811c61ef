-- What is printed of files, one behind the other.
use Rattle.std.proofs.Common.{◌≡◌, ℕ, ◌+◌, List, [], ◌∷◌, ◌++◌, length, refl, sym, ap, ◌∙◌, subst, arith}
use Rattle.std.specs.Prelude.{Option, string_bytes}
use Rattle.std.specs.Io.KnownBytes.{Appends}
use Rattle.std.proofs.KnownBytes.{Appends-nil, Appends-trans}
use Rattle.std.proofs.lemmas.List.{append-nil, append_assoc}
use Rattle.test_report.specs.declared.page.Page.{Page}
use Rattle.test_report.specs.declared.report.FileReport.{FileReport}
use Rattle.test_report.specs.Lines.{IsFileText, indented, note_sign, plan_line, version_line}
use Rattle.test_runner.specs.Inside.Telling.{IsBegun, TellsEnd, TellsFile, TellsFiles}
use Rattle.test_runner.specs.Reporting.{AreFileTexts, IsReportText, points_in}

points-more : (files : List FileReport) (file : FileReport) → points_in (files ++ file ∷ []) ≡ points_in files + length file.points.items
points-more [] file = omega arith
points-more (first ∷ files) file = let more = points-more files file in omega arith

texts-more : (before : ℕ) (files : List FileReport) (file : FileReport) (text one : List ℕ) → AreFileTexts before files text
    → IsFileText (before + points_in files) file one → AreFileTexts before (files ++ file ∷ []) (text ++ one)
texts-more before [] file text one none is = (
  one,
  [],
  ap (λ (t : List ℕ). t ++ one) none ∙ sym (append-nil one),
  subst (λ (n : ℕ). IsFileText n file one) (omega arith) is,
  refl,
)
texts-more before (first ∷ files) file text one more is = (
  more.0,
  more.1 ++ one,
  ap (λ (t : List ℕ). t ++ one) more.2 ∙ append_assoc more.0 more.1 one,
  more.3,
  texts-more (before + length first.points.items) files file more.1 one more.4
      (subst (λ (n : ℕ). IsFileText n file one) (omega arith) is),
)

pub begun : (page : Page) (start : Option (List ℕ)) → IsBegun page → TellsFiles page [] start start
begun page start is = record {
  text = [];
  printed = Appends-nil start;
  body = [];
  is = is.text ∙ sym (append-nil (version_line 13));
  are = refl;
  tap = is.tap;
  points = is.none;
}

pub one-file : (old new : Page) (files : List FileReport) (file : FileReport) (start before after : Option (List ℕ))
    → TellsFiles old files start before → TellsFile old new file before after → TellsFiles new (files ++ file ∷ []) start after
one-file old new files file start before after so_far told = record {
  text = so_far.text ++ (string_bytes old.text ++ told.text);
  printed = Appends-trans start before after so_far.text (string_bytes old.text ++ told.text) so_far.printed told.printed;
  body = so_far.body ++ told.text;
  is = ap (λ (t : List ℕ). (so_far.text ++ (string_bytes old.text ++ told.text)) ++ t) told.empty
      ∙ append-nil (so_far.text ++ (string_bytes old.text ++ told.text))
      ∙ sym (append_assoc so_far.text (string_bytes old.text) told.text)
      ∙ ap (λ (t : List ℕ). t ++ told.text) so_far.is
      ∙ append_assoc (version_line 13) so_far.body told.text;
  are = texts-more 0 files file so_far.body told.text so_far.are
      (subst (λ (n : ℕ). IsFileText n file told.text) (let many = so_far.points in omega arith) told.is);
  tap = told.tap;
  points = told.points ∙ ap (λ (n : ℕ). n + length file.points.items) so_far.points ∙ sym (points-more files file);
}

pub ended : (page : Page) (files : List FileReport) (start before after : Option (List ℕ)) → TellsFiles page files start before
    → TellsEnd page before after → (text : List ℕ) × Appends start after text × IsReportText files text
ended page files start before after so_far told =
    let last : List ℕ = plan_line page.points ++ indented note_sign told.said in
    let text : List ℕ = so_far.text ++ (string_bytes page.text ++ last) in (
      text,
      Appends-trans start before after so_far.text (string_bytes page.text ++ last) so_far.printed told.printed,
      record {
        body = so_far.body;
        said = told.said;
        is = sym (append_assoc so_far.text (string_bytes page.text) last)
            ∙ ap (λ (t : List ℕ). t ++ last) so_far.is
            ∙ append_assoc (version_line 13) so_far.body last
            ∙ ap (λ (n : ℕ). version_line 13 ++ (so_far.body ++ (plan_line n ++ indented note_sign told.said))) so_far.points;
        texts = so_far.are;
      },
    )
