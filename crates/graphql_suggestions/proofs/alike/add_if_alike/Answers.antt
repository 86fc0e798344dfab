use Rattle.std.proofs.Common.{rules, ◌≡◌, ◌∙◌, ap, subst, sym, ℕ, List, Contains}
use Rattle.graphql_nodes.specs.Names.{NameText}
use Rattle.graphql_suggestions.specs.Suggestions.{edits}
use Rattle.graphql_suggestions.specs.declared.alike.Suggestion.{Suggestion}
use Rattle.graphql_suggestions.proofs.SuggestionLemmas.{one_more}
use Rattle.graphql_suggestions.proofs.alike.add_if_alike.Goals as goal

pub returns : goal.returns
returns c names among all =
    let s : Suggestion = record { name = c.in_ok-name.name; edits = c.in_ok-edits.edits } in
    let to : c.as_str-3.result.now ≡ c.in_ok-name.name.text = c.as_str-3.ensures.text ∙ sym (ap (λ (n : NameText). n.text) c.in_ok-name.ensures) in
    one_more names c.args.wanted.now c.args.found.now.items c.push.new.self.items s c.in_ok-push.ensures.items all
    (record {
      defined = subst (Contains names) (sym c.in_ok-name.ensures) among;
      edits_are = c.in_ok-edits.ensures.value ∙ ap (λ (from : List ℕ). edits from c.as_str-3.result.now) c.as_str-2.ensures.text ∙ ap (edits c.args.wanted.now.text) to;
      alike = search rules;
    })
