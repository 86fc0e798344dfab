use Rattle.std.proofs.Common.{◌∙◌}
use Rattle.graphql_merging.proofs.NumberedFieldLemmas.{added_list, among, fields_of, lists_after}
use Rattle.graphql_merging.proofs.PassStepLemmas.{not_known}
use Rattle.graphql_merging.proofs.examined.Examined.add.Goals as goal

pub returns-clause-lists : goal.returns-clause-lists
returns-clause-lists c =
    let one = c.requires.numbered in
    let list = c.args.list in
    let known = c.args.self.now.lists.keys in
    added_list list known c.insert.new.self.keys
    (among one.contents one.table list known one.fields_are one.known ∙ not_known list.fields.items (fields_of known) c.requires.is_new)
    c.in_ok-insert.ensures.keys

pub returns-clause-numbered : goal.returns-clause-numbered
returns-clause-numbered c contents of_known of_list =
    lists_after c.insert.result contents c.args.list c.args.self.now.lists.keys c.insert.new.self.keys c.insert.ensures.keys c.insert.ensures.err of_known of_list
