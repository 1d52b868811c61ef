use Rattle.std.proofs.Common.{rules, ap, ap₂, codes, false, ◌≡◌, ◌∙◌}
use Rattle.std.proofs.lemmas.Result.{IfOk-weaker}
use Rattle.clap.specs.Words.{app_of, shape_of, with_subcommand}
use Rattle.clap.specs.Simple.{shape_of_fields}
use Rattle.clap.specs.declared.builder.command.Command.TheViews.{out-Command as fields_of}
use Rattle.command_line.specs.CommandLine.{of_a_run, of_one_file, program}
use Rattle.command_line.proofs.words.described.Goals as goal

pub returns : goal.returns
returns c =
    let run_is : shape_of c.about-run.result ≡ of_a_run =
    ap shape_of_fields c.about-run.ensures ∙ c.in_ok-of_run.ensures.0 in
    let replay_is : shape_of c.about-replay.result ≡ of_one_file (codes "replay") =
    ap shape_of_fields c.about-replay.ensures ∙ c.in_ok-of_file.ensures.0 in
    let check_is : shape_of c.about-check.result ≡ of_one_file (codes "check") =
    ap shape_of_fields c.about-check.ensures ∙ c.in_ok-of_file-2.ensures.0 in
    let program_is : app_of c.subcommand_required.result ≡ program = search rules in
    let run_local : (fields_of c.about-run.result).has_globals ≡ false = ap (λ f. f.has_globals) c.about-run.ensures ∙ c.in_ok-of_run.ensures.1 in
    let replay_local : (fields_of c.about-replay.result).has_globals ≡ false = ap (λ f. f.has_globals) c.about-replay.ensures ∙ c.in_ok-of_file.ensures.1 in
    let check_local : (fields_of c.about-check.result).has_globals ≡ false = ap (λ f. f.has_globals) c.about-check.ensures ∙ c.in_ok-of_file-2.ensures.1 in
    let with_run = c.in_ok-subcommand.ensures.shape run_local ∙ ap₂ with_subcommand program_is run_is in
    let with_replay = c.in_ok-subcommand-2.ensures.shape replay_local ∙ ap₂ with_subcommand with_run replay_is in
    IfOk-weaker c.subcommand-3.result _ _ (λ r added. added.shape check_local ∙ ap₂ with_subcommand with_replay check_is) c.subcommand-3.ensures
