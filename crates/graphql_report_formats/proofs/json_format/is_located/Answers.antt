use Rattle.std.proofs.Common.{◌∙◌, ap}
use Rattle.std.specs.Option.{is_some}
use Rattle.graphql_report_formats.specs.NamedTexts.{part}
use Rattle.graphql_report_formats.proofs.TextLemmas.{some_mapped}
use Rattle.graphql_report_formats.proofs.json_format.is_located.Goals as goal

pub returns : goal.returns
returns c = c.is_some.ensures ∙ some_mapped part c.locate.result ∙ ap is_some c.locate.ensures
