use Rattle.std.proofs.Common.{◌≡◌, ◌∙◌, rules}
use Rattle.std.specs.Prelude.{find, option_map}
use Rattle.std.specs.Str.{bytes_eq}
use Rattle.std.proofs.lemmas.Iterator.{YieldsList-from_slice}
use Rattle.std.proofs.lemmas.Iterator.Search.{find_from_yields_List}
use Rattle.script_lines.specs.Names.{op_named, op_names, op_word}
use Rattle.script_lines.proofs.NamesFound.{matched_by_word}
use Rattle.script_lines.proofs.op_name.OpName.of.Goals as goal

pub returns : goal.returns
unfolding op_named
returns c =
    let found : option_map (λ name. name.now) c.find.result ≡ find (λ name. bytes_eq c.args.word.now (op_word name)) op_names =
    find_from_yields_List (λ name. bytes_eq c.args.word.now (op_word name)) _ _ c.find.result c.find.ensures.ran (YieldsList-from_slice op_names c.iter.ensures.rest) (λ x b q k. search rules) in
    matched_by_word op_word c.args.word.now op_names c.copied.result (c.copied.ensures ∙ found)
