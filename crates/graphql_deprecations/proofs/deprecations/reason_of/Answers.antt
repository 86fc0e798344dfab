use Rattle.std.proofs.Common.{◌≡◌, ◌∙◌, List, None, Option, Some, ap, codes, rules, sym, ℕ}
use Rattle.std.specs.Option.{option_map_or}
use Rattle.graphql_nodes.specs.declared.nodes.Node.{Node}
use Rattle.graphql_documents.specs.declared.documents.directives.Argument.{Argument}
use Rattle.graphql_deprecations.specs.Deprecations.{reason_argument, reason_in}
use Rattle.graphql_deprecations.proofs.deprecations.reason_of.Goals as goal

-- the reason that an argument gives, if there is one
abbrev given : Option (Node Argument) → List ℕ
given o = option_map_or (λ (a : Node Argument). reason_in a.value.value.value.value.value) o (codes "No longer supported")

pub returns-in-Some : goal.returns-in-Some
returns-in-Some c =
    let is : reason_argument c.args.deprecation.now ≡ Some c.in-Some.argument.now = search rules in
    let value = c.deref-in-Some.ensures ∙ ap (λ (a : Argument). a.value.value.value) c.deref.ensures in
    c.reason_in.ensures ∙ ap reason_in value ∙ sym (ap given is)

pub returns-in-None : goal.returns-in-None
returns-in-None c =
    let none : reason_argument c.args.deprecation.now ≡ None = search rules in
    sym (ap given none)
