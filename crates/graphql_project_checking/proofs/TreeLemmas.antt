-- From reports on documents that were put together of nodes, to reports on the trees that these say. Specification: 2.2 Document, 5 Validation.
use Rattle.std.proofs.Common.{◌≡◌, ◌∙◌, List, [], ◌∷◌, ◌++◌, Option, None, Some, map, ap, refl, subst, sym}
use Rattle.std.specs.Prelude.{All, Any, Contains, flat_map}
use Rattle.std.specs.List.{AllZip}
use Rattle.std.specs.Map.{lookup}
use Rattle.std.proofs.lemmas.List.{append-nil}
use Rattle.std.proofs.lemmas.List.Elements.{All-cons, All-head, All-nil, All-tail, filter_map-append}
use Rattle.graphql_diagnostics.specs.declared.lists.DiagnosticEntry.{DiagnosticEntry}
use Rattle.graphql_documents.proofs.ListLemmas.{stands_flat}
use Rattle.graphql_documents.specs.Executables.{operations_of}
use Rattle.graphql_documents.specs.Selections.{fragments_of}
use Rattle.graphql_documents.specs.declared.documents.executables.ExecutableDocument.{ExecutableDocument}
use Rattle.graphql_documents.specs.declared.documents.executables.Fragment.{Fragment}
use Rattle.graphql_documents.specs.declared.documents.schemas.Schema.{Schema}
use Rattle.graphql_document_checking.proofs.BuiltLemmas.{document_is_built}
use Rattle.graphql_document_checking.specs.BuildingRules.{DefinitionBuilds, DocumentBuilds}
use Rattle.graphql_document_checking.specs.Documents.{DocumentSays, FragmentSays, SaysUnderName}
use Rattle.graphql_document_checking.specs.Trees.{anonymous_operations_in, as_anonymous_operation, as_fragment, as_named_operation, fragments_in, named_operations_in, operations_in}
use Rattle.graphql_frontend.specs.Schemas.{IsUsable}
use Rattle.graphql_frontend.specs.declared.reports.Reports.{Reports}
use Rattle.graphql_nodes.specs.Names.{NameText, same_name}
use Rattle.graphql_nodes.specs.declared.nodes.Node.{Node}
use Rattle.graphql_parser.specs.declared.bounds.Bounds.{Bounds}
use Rattle.graphql_pools.specs.Pools.{Entry, HasFirst, IsSameFound, entries_among}
use Rattle.graphql_projects.specs.OperationTrees.{Pool, ReachesFragment, fragment_named, fragments_among}
use Rattle.graphql_projects.specs.Projects.{operations_among}
use Rattle.graphql_projects.proofs.OperationDocumentLemmas.{own, own_fragments}
use Rattle.graphql_projects.proofs.SaidDefinitionLemmas.{operation_is_said, operation_says}
use Rattle.graphql_projects.proofs.SaidReachLemmas.{SaysIfAny, fragment_said, names_say, tree_spread_is_reached, zip_first, zip_second}
use Rattle.graphql_trees.specs.declared.documents.Definition.TheVariants as definition
use Rattle.graphql_trees.specs.declared.documents.Definition.{Definition}
use Rattle.graphql_trees.specs.declared.documents.Document.{Document}
use Rattle.graphql_trees.specs.declared.executable.FragmentDefinition.{FragmentDefinition}
use Rattle.graphql_trees.specs.declared.executable.OperationDefinition.{OperationDefinition}
use Rattle.graphql_variables.specs.Uses.{IsNamedIn}
use Rattle.graphql_project_checking.proofs.FileLemmas.{no_names, no_operations, same_operations_say, zip_append}
use Rattle.graphql_project_checking.proofs.OperationLemmas.{HasOwnNames, document_is_of_tree, fragment_in_tree, fragment_said_of_same}
use Rattle.graphql_project_checking.proofs.ProjectLemmas.{among_own_names, flat_of_both, flat_says, made_flat}
use Rattle.graphql_project_checking.specs.Silence.{BorrowsForAll, IsReachedByOne}
use Rattle.graphql_project_checking.specs.Truth.{AreOfDefinitions, AreOfFile, AreOfOneFile, AreOfOneOperation, AreOfParts, IsUnnamedEntry, IsUnusedEntry, KeepsThatBuild, NotesAll, PartsThatBuild, keeps_next, keeps_none, next_part, no_parts, of_definitions, of_file_tree, of_operation, of_tree}

-- ==== files of which each can be built

all_kept : (s : Schema) (ds : List Definition) → All (DefinitionBuilds (Some s)) ds → KeepsThatBuild s ds ds
all_kept s [] all = keeps_none
all_kept s (d ∷ ds) all = keeps_next (All-head (DefinitionBuilds (Some s)) d ds all) (all_kept s ds (All-tail (DefinitionBuilds (Some s)) d ds all))

pub whole_parts : (s : Schema) (trees : List Document) → All (DocumentBuilds (Some s)) trees → PartsThatBuild s trees trees
whole_parts s [] all = no_parts
whole_parts s (t ∷ ts) all =
    let builds = All-head (DocumentBuilds (Some s)) t ts all in
    next_part (all_kept s t.definitions builds.definitions) builds (whole_parts s ts (All-tail (DocumentBuilds (Some s)) t ts all))

-- ==== what the pool says

said_of_found : (schema : Option Schema) (o : Option FragmentDefinition) (p q : Option (Node Fragment)) → SaysIfAny schema o p → IsSameFound p q → SaysIfAny schema o q
said_of_found schema None None None says same = tt
said_of_found schema None None (Some e) says same = absurd same
said_of_found schema None (Some d) q says same = absurd says
said_of_found schema (Some x) None q says same = absurd says
said_of_found schema (Some x) (Some d) None says same = absurd same
said_of_found schema (Some x) (Some d) (Some e) says same = fragment_said_of_same schema x d e says same

module _ (s : Schema) (usable : IsUsable s) (own_trees lent : List Document) (files lenders : List ExecutableDocument) (own_say : AllZip (DocumentSays (Some s)) own_trees files)
    (lent_say : AllZip (DocumentSays (Some s)) lent lenders) (d : ExecutableDocument) (first : HasFirst (entries_among files ++ entries_among lenders) [] d.fragments.entries) where
  abbrev pool : Pool
  pool = fragments_among (own_trees ++ lent)

  own_named : HasOwnNames pool
  own_named = among_own_names (own_trees ++ lent)

  all_said : (name : NameText) → SaysIfAny (Some s) (fragment_named pool name) (fragments_of d name)
  all_said name =
      let entries = entries_among files ++ entries_among lenders in
      let both : AllZip (SaysUnderName (FragmentSays (Some s))) (fragments_among own_trees ++ fragments_among lent) entries =
      zip_append (SaysUnderName (FragmentSays (Some s))) (fragments_among own_trees) (fragments_among lent) (entries_among files) (entries_among lenders)
      (flat_says s own_trees files own_say) (flat_says s lent lenders lent_say) in
      let said : AllZip (SaysUnderName (FragmentSays (Some s))) pool entries =
      subst (λ l. AllZip (SaysUnderName (FragmentSays (Some s))) l entries) (sym (flat_of_both (λ (t : Document). fragments_in t.definitions) own_trees lent)) both in
      said_of_found (Some s) (fragment_named pool name) (lookup (same_name name) entries) (fragments_of d name) (names_say (Some s) name pool entries said) (first name)

  -- ==== operations

  of_one_operation : (bounds : Bounds) (tree : Document) (file : ExecutableDocument) → Contains own_trees tree → DocumentSays (Some s) tree file → (r : Reports) →
      AreOfOneOperation bounds s d (operations_of file) r → AreOfParts bounds s pool own_trees r
  of_one_operation bounds tree file among says r (o, c, are) =
      let x = operation_is_said (Some s) tree file says o c in
      let whole = document_is_of_tree (Some s) pool d all_said own_named x.0 o x.2 are.names are.reached are.of_document.document are.of_document.is in
      of_tree (record {
        x = x.0;
        among = stands_flat (λ (t : Document). operations_in t.definitions) own_trees tree x.0 among x.1;
        whole = whole.0;
        is = whole.1;
        document = are.of_document.document;
        says = whole.2;
        built = document_is_built s whole.0 are.of_document.document whole.2 usable.names usable.output_fields;
        bytes = are.of_document.bytes;
        judged = are.of_document.judged;
      })

  -- ==== the definitions of a file

  module _ (tree : Document) (file : ExecutableDocument) (says : DocumentSays (Some s) tree file) where
    abbrev IsReached : FragmentDefinition → Type 0
    IsReached b = Any (λ x. ReachesFragment pool x b) (operations_in tree.definitions)

    borrowed_trees : (added : List Entry) → All (IsReachedByOne d (operations_of file)) added →
        (bs : List FragmentDefinition) × AllZip (SaysUnderName (FragmentSays (Some s))) (map own bs) added × All IsReached bs
    borrowed_trees [] all = ([], tt, All-nil IsReached)
    borrowed_trees (e ∷ es) all =
        let r = All-head (IsReachedByOne d (operations_of file)) e es all in
        let x = operation_is_said (Some s) tree file says r.o r.among in
        let f = fragment_in_tree (Some s) pool d all_said own_named x.0 r.o x.2 r.name r.d r.reached.0 r.found in
        let rest = borrowed_trees es (All-tail (IsReachedByOne d (operations_of file)) e es all) in (
          f.0 ∷ rest.0,
          ((r.key ∙ f.1.name, fragment_said_of_same (Some s) f.0 r.d e.1 f.1 r.same), rest.1),
          All-cons IsReached f.0 rest.0 (x.1.0, x.0, x.1.1, x.1.2, f.2) rest.2,
        )

    whole_is_said : (whole : ExecutableDocument) (bs : List FragmentDefinition) (added : List Entry) → whole.operations ≡ file.operations →
        whole.fragments.entries ≡ file.fragments.entries ++ added → AllZip (SaysUnderName (FragmentSays (Some s))) (map own bs) added →
        DocumentSays (Some s) (record { definitions = tree.definitions ++ map definition.Fragment bs; span = tree.span }) whole
    whole_is_said whole bs added same appended said =
        let definitions = tree.definitions ++ map definition.Fragment bs in
        let whole_fragments : fragments_in definitions ≡ fragments_in tree.definitions ++ map own bs =
        filter_map-append as_fragment tree.definitions (map definition.Fragment bs) ∙ ap (λ l. fragments_in tree.definitions ++ l) (own_fragments bs) in
        same_operations_say (Some s) tree (record { definitions = definitions; span = tree.span }) file whole says same
        (filter_map-append as_anonymous_operation tree.definitions (map definition.Fragment bs) ∙
        ap (λ l. anonymous_operations_in tree.definitions ++ l) (no_operations bs) ∙ append-nil (anonymous_operations_in tree.definitions))
        (filter_map-append as_named_operation tree.definitions (map definition.Fragment bs) ∙
        ap (λ l. named_operations_in tree.definitions ++ l) (no_names bs) ∙ append-nil (named_operations_in tree.definitions))
        (subst (λ l. AllZip (SaysUnderName (FragmentSays (Some s))) (fragments_in definitions) l) (sym appended)
        (subst (λ l. AllZip (SaysUnderName (FragmentSays (Some s))) l (file.fragments.entries ++ added)) (sym whole_fragments)
        (zip_append (SaysUnderName (FragmentSays (Some s))) (fragments_in tree.definitions) (map own bs) file.fragments.entries added says.fragments said)))

    of_whole : (bounds : Bounds) (whole : ExecutableDocument) (r : Reports) → Contains own_trees tree → whole.operations ≡ file.operations →
        BorrowsForAll d (operations_of file) file.fragments.entries whole.fragments.entries → AreOfDefinitions whole r → AreOfParts bounds s pool own_trees r
    of_whole bounds whole r among same borrows are =
        let bs = borrowed_trees borrows.added borrows.each in
        of_file_tree (record {
          file = tree;
          among = among;
          borrowed = bs.0;
          each = bs.2;
          whole = record { definitions = tree.definitions ++ map definition.Fragment bs.0; span = tree.span };
          is = refl;
          document = whole;
          says = whole_is_said whole bs.0 borrows.added same borrows.appended bs.1;
          of_definitions = are;
        })

  of_said_file : (bounds : Bounds) (tree : Document) (file : ExecutableDocument) → Contains own_trees tree → DocumentSays (Some s) tree file → (r : Reports) →
      AreOfFile bounds s d file r → AreOfParts bounds s pool own_trees r
  of_said_file bounds tree file among says r (of_operation are) = of_one_operation bounds tree file among says r are
  of_said_file bounds tree file among says r (of_definitions whole same borrows are) = of_whole tree file says bounds whole r among same borrows are

  -- what is true of the typed form of a file is true of its tree
  pub of_one_file : (bounds : Bounds) (r : Reports) → AreOfOneFile bounds s d files r → AreOfParts bounds s pool own_trees r
  of_one_file bounds r (file, c, are) =
      let t = zip_first (DocumentSays (Some s)) own_trees files file own_say c in
      of_said_file bounds t.0 file t.1 t.2 r are

  -- ==== unused fragments

  -- a fragment that is not noted is reached by no operation
  pub unnamed_is_unused : (used : List NameText) → NotesAll d (flat_map operations_of files) [] used → (e : DiagnosticEntry) → IsUnnamedEntry used (fragments_among own_trees) e →
      IsUnusedEntry pool own_trees e
  unnamed_is_unused used notes e (p, c, unnamed, is) = (p, c, λ x among reaches. unnamed (named x among reaches), is) where
    named : (x : OperationDefinition) → Contains (operations_among own_trees) x → ReachesFragment pool x p.1 → IsNamedIn used p.0
    named x among reaches =
        let t = made_flat (λ (t : Document). operations_in t.definitions) own_trees x among in
        let file = zip_second (DocumentSays (Some s)) own_trees files t.0 own_say t.1 in
        let o = operation_says (Some s) t.0 file.0 file.2 x t.2 in
        let reach = tree_spread_is_reached (Some s) pool (fragments_of d) all_said reaches.spread o.0.value.value.selection_set (o.0.value.value.selection_set.ty, o.2.selections) in
        let node = fragment_said (Some s) (fragment_named pool reaches.name) (fragments_of d reaches.name) p.1 (all_said reaches.name) reaches.found in
        let noted = notes.noted o.0 reaches.name node.0 (stands_flat operations_of files file.0 o.0 file.1 o.1) (reach.0, reach.1, sym reach.2) node.1 in
        let own_name : p.0 ≡ p.1.name = among_own_names own_trees p c in
        subst (IsNamedIn used) (node.2.name ∙ sym own_name) noted
