use Rattle.std.proofs.Common.{◌≡◌, IfOk, None, lit<, string_bytes, subst}
use Rattle.std.proofs.lemmas.Str.Pattern.{strip_prefix_char}
use Rattle.gqlvalidate_settings.proofs.PathLemmas.{placed_path}
use Rattle.gqlvalidate_settings.proofs.paths.placed.Goals as goal

pub returns-in-None : goal.returns-in-None
returns-in-None c =
    let differs = strip_prefix_char 33 c.args.word.now None c.in-None.ensures.cases (lit< tt) in
    subst (λ t. IfOk c.joined-in-None.result (λ text. string_bytes text ≡ t)) (placed_path c.args.folder.now c.args.word.now differs) c.joined-in-None.ensures
