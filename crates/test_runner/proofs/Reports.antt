-- Reports about files, one behind the other.
use Rattle.std.proofs.Common.{◌≡◌, ℕ, zero, suc, List, [], ◌∷◌, ◌++◌, length, sym, ap, ◌∙◌, subst}
use Rattle.std.specs.Prelude.{Option, Some, map, slice_get}
use Rattle.std.specs.Option.{option_map}
use Rattle.std.proofs.lemmas.Option.{none-some, same_Some, slice_get-map}
use Rattle.test_report.specs.declared.report.FileReport.{FileReport}
use Rattle.test_terms.specs.declared.options.Options.{Options}
use Rattle.test_runner.specs.Reporting.{IsReportOf}
use Rattle.test_runner.proofs.Lists.{each-more}

-- each of these reports is about the file of the name in its place
abbrev pub EachIsReport : (bytes_of : List ℕ → Option (List ℕ)) → Options → (names : List (List ℕ)) → List FileReport → Type 0
EachIsReport bytes_of options names files =
    (k : ℕ) (name : List ℕ) (file : FileReport) → slice_get names k ≡ Some name → slice_get files k ≡ Some file
    → IsReportOf (bytes_of name) options file

nothing : {X : Type 0} (k : ℕ) (x : X) → slice_get [] k ≡ Some x → ⊥
nothing zero x at = none-some x at
nothing (suc k) x at = none-some x at

pub no-report : (bytes_of : List ℕ → Option (List ℕ)) (options : Options) (names : List (List ℕ)) (files : List FileReport) → files ≡ []
    → EachIsReport bytes_of options names files
no-report bytes_of options names files none k name file has at =
    absurd (nothing k file (subst (λ (xs : List FileReport). slice_get xs k ≡ Some file) none at))

pub one-report : {X : Type 0} (bytes_of : List ℕ → Option (List ℕ)) (options : Options) (name_of : X → List ℕ) (named : List X) (it : X)
    (files : List FileReport) (file : FileReport) → EachIsReport bytes_of options (map name_of named) files
    → slice_get named (length files) ≡ Some it → IsReportOf (bytes_of (name_of it)) options file
    → EachIsReport bytes_of options (map name_of named) (files ++ file ∷ [])
one-report bytes_of options name_of named it files file each at is k name one has there =
    each-more (λ j x. (name : List ℕ) → slice_get (map name_of named) j ≡ Some name → IsReportOf (bytes_of name) options x) files file
    (λ j x there name has. each j name x has there)
    (λ name has.
    let mine : slice_get (map name_of named) (length files) ≡ Some (name_of it) =
    slice_get-map name_of named (length files) ∙ ap (option_map name_of) at in
    subst (λ (name : List ℕ). IsReportOf (bytes_of name) options file) (same_Some (name_of it) name (sym mine ∙ has)) is)
    k one there name has
