use Rattle.std.proofs.Common.{rules, ap, sym, codes, map, option_map, Some, None, ◌≡◌, ◌∙◌}
use Rattle.std.specs.Prelude.{option_and_then}
use Rattle.std.specs.String.{string_bytes}
use Rattle.clap.specs.Words.{first_of, first_value, found_of, rows_of, subcommand_name_of, subcommand_of}
use Rattle.clap.proofs.TakesLemmas.{passed_up}
use Rattle.clap.proofs.WalkLemmas.{first_value-rows}
use Rattle.command_line.specs.CommandLine.{asked, asking, keep_option, sbiboard, with_file}
use Rattle.command_line.proofs.Asked.{asked_is, has_found, memory_alone, met_is, none_asked, none_met, sound, task_named, the_third}
use Rattle.command_line.proofs.words.command.Goals as goal
use Rattle.command_line.proofs.words.command.Goals.{in_default-via-in-None-1, in_default-via-in-Some+in-None-1}
use Rattle.command_line.proofs.words.command.Goals.{in-run, in-check, in_default}

pub returns-in_err-matches-clause-refused : goal.returns-in_err-matches-clause-refused
returns-in_err-matches-clause-refused c =
    passed_up c.from_residual-in_err-matches.result c.in_err-matches.field-0.0 _ c.from_residual-in_err-matches.ensures.1
    (memory_alone _ (map string_bytes c.args.words.now) c.in_err-matches.field-0.0 c.in_ok-sbiboard.ensures c.in_err-matches.ensures.kinds)

pub returns-clause-task : goal.returns-clause-task
returns-clause-task c =
    let words = map string_bytes c.args.words.now in
    let none = sound _ words c.in_ok-sbiboard.ensures c.in_ok-matches.ensures.kinds in
    let found = has_found _ words c.in_ok-matches.matches c.in_ok-sbiboard.ensures c.in_ok-matches.ensures.ok.2 in
    let rows = rows_of (found_of c.in-Some.found.now) in
    let met = met_is c.in_ok-matches.matches c.in-Some.name.now rows c.in-Some.ensures.name c.in-Some.ensures.rows in
    let path : first_of (codes "FILE") rows ≡ Some c.in-Some-get_str.file.now = sym (c.in-Some-get_str.ensures ∙ first_value-rows (found_of c.in-Some.found.now) (codes "FILE")) in
    let sub : subcommand_of sbiboard words ≡ Some (c.in-Some.name.now, rows) = sym found ∙ met in
    let is : asked words ≡ Some (asking c.in-Some.name.now c.in-Some-get_str.file.now (keep_option (c.in-Some.name.now, rows))) =
    asked_is words none ∙ ap (option_and_then with_file) sub
    ∙ ap (option_map (λ p. asking c.in-Some.name.now p (keep_option (c.in-Some.name.now, rows)))) path in
    let task = task_named words c.in-Some.name.now rows none sub in
    elim c.match-name.branch [
      | in-run w ↦ let run : codes "run" ≡ c.in-Some.name.now = search rules in
          rw w.result-is (is ∙ ap (λ n. Some (asking n c.in-Some-get_str.file.now (keep_option (n, rows)))) (sym run)
          ∙ ap (λ k. Some (asking (codes "run") c.in-Some-get_str.file.now k)) (sym (w.get_str-in-run.ensures ∙ first_value-rows (found_of c.in-Some.found.now) (codes "keep"))))
      | in-check w ↦ let check : codes "check" ≡ c.in-Some.name.now = search rules in rw w.result-is (is ∙ ap (λ n. Some (asking n c.in-Some-get_str.file.now (keep_option (n, rows)))) (sym check))
      | in_default w ↦
          let not_run : c.in-Some.name.now ≡ codes "run" → ⊥ = search rules in
          let not_check : c.in-Some.name.now ≡ codes "check" → ⊥ = search rules in
          rw w.result-is (is ∙ ap (λ n. Some (asking n c.in-Some-get_str.file.now (keep_option (n, rows)))) (sym (the_third c.in-Some.name.now task not_run not_check)))
    ]

pub returns-2-clause-refused : goal.returns-2-clause-refused
returns-2-clause-refused c =
    let words = map string_bytes c.args.words.now in
    let none = sound _ words c.in_ok-sbiboard.ensures c.in_ok-matches.ensures.kinds in
    let found = has_found _ words c.in_ok-matches.matches c.in_ok-sbiboard.ensures c.in_ok-matches.ensures.ok.2 in
    elim c.in_default.branch [
      | in_default-via-in-None-1 w ↦ λ some.
          let no_name : None ≡ subcommand_name_of c.in_ok-matches.matches = search rules in
          absurd (none_asked words none (ap (option_and_then with_file) (sym found ∙ none_met c.in_ok-matches.matches no_name)) some)
      | in_default-via-in-Some+in-None-1 w ↦ λ some.
          let rows = rows_of (found_of w.in-Some.found.now) in
          let met = met_is c.in_ok-matches.matches w.in-Some.name.now rows w.in-Some.ensures.name w.in-Some.ensures.rows in
          let no_file : None ≡ first_value (found_of w.in-Some.found.now) (codes "FILE") = search rules in
          let no_path : first_of (codes "FILE") rows ≡ None = sym (no_file ∙ first_value-rows (found_of w.in-Some.found.now) (codes "FILE")) in
          absurd (none_asked words none (ap (option_and_then with_file) (sym found ∙ met) ∙ ap (option_map (λ p. asking w.in-Some.name.now p (keep_option (w.in-Some.name.now, rows)))) no_path) some)
    ]
