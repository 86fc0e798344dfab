use Rattle.std.proofs.Common.{◌≡◌, map, take}
use Rattle.graphql_report_formats.specs.declared.named_texts.NamedText.{NamedText}
use Rattle.graphql_report_formats.proofs.schema_texts.sources_of.Given as goal

abbrev pub invariant-loop-text : goal.invariant-loop-text
invariant-loop-text l = l.sources.items ≡ map (λ (text : NamedText). text.source) (take l.text-index l.named)
