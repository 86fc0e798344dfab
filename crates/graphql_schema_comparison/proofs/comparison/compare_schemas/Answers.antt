use Rattle.std.proofs.Common.{List, false, true, refl, subst}
use Rattle.std.specs.Prelude.{◌↔◌, Any, IsTrue}
use Rattle.graphql_change_kinds.specs.Breaks.{Breaks}
use Rattle.graphql_change_kinds.specs.declared.changes.SchemaChange.{SchemaChange}
use Rattle.graphql_schema_comparison.proofs.ExplainedLemmas.{all_harmless, answer_turned, breaks_too, no_too}
use Rattle.graphql_schema_comparison.proofs.KeptLemmas.{documents_kept, lone_fields_kept}
use Rattle.graphql_schema_comparison.proofs.comparison.compare_schemas.Goals as goal

pub returns : goal.returns
returns c =
    let list = c.in_ok-changes.changes.items in
    let old = c.args.old.now in
    let new = c.args.new.now in
    let lone = c.break_documents-breaks_lone_fields.result in
    let all = c.break_documents-breaks_documents.result in
    let lone_is : IsTrue lone ↔ Any (Breaks false) list =
    subst (λ (l : List SchemaChange). IsTrue lone ↔ Any (Breaks false) l) c.deref.ensures.value c.break_documents-breaks_lone_fields.ensures in
    let all_is : IsTrue all ↔ Any (Breaks true) list =
    subst (λ (l : List SchemaChange). IsTrue all ↔ Any (Breaks true) l) c.deref-2.ensures.value c.break_documents-breaks_documents.ensures in
    record {
      roots = λ keeps. (c.in_ok-changes.ensures.keeps false (all_harmless false list lone lone_is keeps)).roots;
      lone_fields = λ keeps old_names new_names outputs new_outputs.
          lone_fields_kept old new false (c.in_ok-changes.ensures.keeps false (all_harmless false list lone lone_is keeps)) old_names new_names outputs;
      documents = λ keeps old_names new_names outputs new_outputs.
          documents_kept old new true (c.in_ok-changes.ensures.keeps true (all_harmless true list all all_is keeps)) old_names new_names refl outputs new_outputs;
      fewer = no_too (Any (Breaks false) list) (Any (Breaks true) list) lone all lone_is all_is (breaks_too list);
      lone_fields_explained = answer_turned (Any (Breaks false) list) lone lone_is;
      each = c.in_ok-changes.ensures.each;
      explained = answer_turned (Any (Breaks true) list) all all_is;
    }
