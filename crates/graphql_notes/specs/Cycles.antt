-- The way round a cycle. Specification: 3.10 Input Objects; 3.13 Directives; 5.5.2.2 Fragment Spreads Must Not Form Cycles.
use Rattle.std.specs.Prelude.{ℕ, List, [], ◌∷◌, ◌++◌, Option, codes}
use Rattle.graphql_documents.specs.TypeReferences.{inner_named_type}
use Rattle.graphql_documents.specs.declared.documents.definitions.InputValueDefinition.{InputValueDefinition}
use Rattle.graphql_documents.specs.declared.documents.directives.Directive.{Directive}
use Rattle.graphql_documents.specs.declared.documents.executables.FragmentSpread.{FragmentSpread}
use Rattle.graphql_nodes.specs.Names.{NameText}
use Rattle.graphql_nodes.specs.declared.nodes.Node.{Node}
use Rattle.graphql_nodes.specs.declared.spans.SourceSpan.{SourceSpan}
use Rattle.graphql_notes.specs.Labels.{Label, label}
use Rattle.graphql_notes.specs.declared.cycles.Reference.{Reference}

-- a reference to a definition
pub record Step : Type 0 where
  pub place : Option SourceSpan
  pub target : NameText

abbrev pub step_of : Reference → Step
step_of reference = record { place = reference.place; target = reference.target.now }

-- a spread refers to its fragment, an input field to its innermost type, and an application to its directive
abbrev pub spread_step : Node FragmentSpread → Step
spread_step spread = record { place = spread.location; target = spread.value.value.fragment_name }

abbrev pub input_field_step : Node InputValueDefinition → Step
input_field_step field = record { place = field.location; target = inner_named_type field.value.value.ty.value.value }

abbrev pub application_step : Node Directive → Step
application_step directive = record { place = directive.location; target = directive.value.value.name }

-- which definition makes the step in front of these steps of a way back to this name: the target of the one before it, which is the first of them
abbrev pub source_of : NameText → List Step → NameText
source_of name [] = name
source_of name (step ∷ steps) = step.target

abbrev pub refers : NameText → NameText → List ℕ
refers source target = codes "`" ++ (source.text ++ (codes "` refers to `" ++ (target.text ++ codes "` here")))

-- the way from the definition of this name back to it, from its own step on: the last step is in front of the list
abbrev pub cycle_labels : NameText → List Step → List Label
cycle_labels name [] = []
cycle_labels name (step ∷ steps) = cycle_labels name steps ++ label step.place (refers (source_of name steps) step.target) ∷ []
