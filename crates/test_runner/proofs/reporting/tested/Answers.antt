use Rattle.std.proofs.Common.{◌≡◌, ◌<◌, ◌∷◌, ◌++◌, ℕ, List, [], length, refl, sym, ap, subst, arith}
use Rattle.std.specs.Prelude.{Option, Some, map, slice_get}
use Rattle.std.proofs.lemmas.List.{length-append}
use Rattle.std.proofs.lemmas.Option.{slice_get_read}
use Rattle.test_report.specs.declared.report.FileReport.{FileReport}
use Rattle.test_runner.specs.Inside.Telling.{TellsFiles}
use Rattle.test_runner.proofs.Printing.{one-file}
use Rattle.test_runner.proofs.Reports.{EachIsReport, one-report}
use Rattle.test_runner.proofs.reporting.tested.Goals as goal

-- one file more has its report, and its text was told
pub loop-place-preserved : goal.loop-place-preserved
loop-place-preserved g c =
    let before = c.loop-place.invariant in
    let options = c.args.options.now in
    let place : ℕ = c.loop-place.place in
    let old : List FileReport = c.loop-place.files.items in
    let found : FileReport = c.in_ok-found.found in
    let more : c.push.new.self.items ≡ old ++ found ∷ [] = c.in_ok-push.ensures.items in
    let start : Option (List ℕ) = g.W.Write.contents c.args.out.now in
    let after : Option (List ℕ) = g.W.Write.contents c.tell_file.new.out in
    let inside : place < length options.files.items = omega (arith, c.loop-place-test.true, c.len-place-end.ensures, options.files.ok.0) in
    let named : slice_get options.files.items place ≡ Some c.index.result.now =
    slice_get_read options.files.items (length options.files.items) place c.index.result.now refl inside c.index.ensures in (
      (let long = ap length more in let is = length-append old (found ∷ []) in let many = before.0 in omega arith),
      subst (λ (files : List FileReport). EachIsReport (g.T.Texts.bytes c.args.texts.now) options (map (λ named. named.now) options.files.items) files) (sym more)
          (one-report (g.T.Texts.bytes c.args.texts.now) options (λ named. named.now) options.files.items c.index.result.now old found before.1
          (subst (λ (n : ℕ). slice_get options.files.items n ≡ Some c.index.result.now) (sym before.0) named) c.in_ok-found.ensures),
      (λ is.
          let so_far = before.2 is in
          subst (λ (files : List FileReport). TellsFiles c.tell_file.new.self.shown files start after) (sym more)
          (one-file c.loop-place.output.shown c.tell_file.new.self.shown old found start (g.W.Write.contents c.loop-place.out) after so_far
          (c.in_ok-tell_file.ensures so_far.tap))),
    )
