use Rattle.std.proofs.Common.{◌∙◌, ◌∷◌, [], Bor, ap, map, refl, sym}
use Rattle.std.specs.Prelude.{not}
use Rattle.std.proofs.lemmas.List.{map-append}
use Rattle.graphql_nodes.specs.Names.{NameText, stands_on}
use Rattle.graphql_documents.specs.Selections.{fragments_of}
use Rattle.graphql_variables.proofs.SelectionWalkLemmas.{refs_any, refs_with}
use Rattle.graphql_reach.specs.Reached.{reached_names}
use Rattle.graphql_reach.proofs.SpreadLemmas.{adds_known, adds_new, is_defined, not_false, not_true}
use Rattle.graphql_reach.proofs.reached.Reached.add_spread.Goals as goal

abbrev text : Bor NameText → NameText
text reference = reference.now

pub returns-in_ok-push : goal.returns-in_ok-push
returns-in_ok-push c =
    let old = c.args.self.now in
    let name = c.args.name.now in
    let is_new = c.in_ok-insert.ensures.added ∙ ap not (refs_any text name old.names.keys) in
    let found = is_defined (fragments_of c.args.document.now name) (sym c.contains_key.ensures ∙ c.if-not-contains_key.false) in
    adds_new c.args.document.now name old (record { names = c.insert.new.self; pending = c.push.new.self }) found.0 found.1
    (not_true c.in_ok-insert.field-0 (stands_on (reached_names old) name) is_new c.if-branch.true)
    (refs_with text old.names.keys c.insert.new.self.keys c.args.name c.in_ok-insert.ensures.keys)
    (ap (map text) c.in_ok-push.ensures.items ∙ map-append text old.pending.items (c.args.name ∷ []))

pub returns-else-branch : goal.returns-else-branch
returns-else-branch c =
    let old = c.args.self.now in
    let name = c.args.name.now in
    let is_new = c.in_ok-insert.ensures.added ∙ ap not (refs_any text name old.names.keys) in
    adds_known c.args.document.now name old (record { names = c.insert.new.self; pending = old.pending })
    (not_false c.in_ok-insert.field-0 (stands_on (reached_names old) name) is_new c.if-branch.false)
    (refs_with text old.names.keys c.insert.new.self.keys c.args.name c.in_ok-insert.ensures.keys) refl
