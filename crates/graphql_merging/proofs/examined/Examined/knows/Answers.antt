use Rattle.std.proofs.Common.{sym, ◌∙◌}
use Rattle.graphql_merging.proofs.NumberedFieldLemmas.{among, compared_with_any, fields_of}
use Rattle.graphql_merging.proofs.examined.Examined.knows.Goals as goal

pub returns : goal.returns
returns c =
    let one = c.requires in
    let list = c.args.list.now in
    let known = c.args.self.now.lists.keys in
    let by_fields = c.contains.ensures ∙ among one.contents one.table list known one.fields_are one.known in
    let same = compared_with_any list.fields.items (fields_of known) in
    (λ e. same.0 (sym by_fields ∙ e), λ any. by_fields ∙ same.1 any)
