-- From what holds of each file, to what holds of all files together. Specification: 5 Validation.
use Rattle.std.proofs.Common.{◌≡◌, ◌∙◌, zero, suc, ◌+◌, Bool, true, false, List, [], ◌∷◌, ◌++◌, Some, arith, length, map, ap, inl, inr, refl, sym, subst}
use Rattle.std.specs.Prelude.{◌⊎◌, All, AllPairs, Any, Contains, IsFalse, filter, flat_map, not}
use Rattle.std.specs.List.{AllZip}
use Rattle.std.proofs.lemmas.List.{append_assoc, get_or-append-add, get_or_append_left, length-append, map-append}
use Rattle.std.proofs.lemmas.List.Elements.{All-append, All-contains, All-weaker, Contains-append_cases, Contains-append_left}
use Rattle.graphql_nodes.specs.Names.{AreDistinct, DifferentNames, NameText, SameName}
use Rattle.graphql_documents.proofs.ListLemmas.{each_standing, kept_by_filter, none_stands, stands_flat}
use Rattle.graphql_documents.specs.Executables.{operations_of}
use Rattle.graphql_documents.specs.Selections.{fragments_of}
use Rattle.graphql_documents.specs.declared.documents.executables.ExecutableDocument.{ExecutableDocument}
use Rattle.graphql_documents.specs.declared.documents.schemas.Schema.{Schema}
use Rattle.graphql_trees.specs.declared.documents.Definition.TheVariants as definition
use Rattle.graphql_trees.specs.declared.documents.Definition.{Definition}
use Rattle.graphql_trees.specs.declared.documents.Document.{Document}
use Rattle.graphql_trees.specs.declared.executable.FragmentDefinition.{FragmentDefinition}
use Rattle.graphql_document_checking.specs.BuildingRules.{DefinitionBuilds, DocumentBuilds}
use Rattle.graphql_document_checking.specs.Documents.{DocumentSays, FragmentSays, SaysUnderName}
use Rattle.graphql_document_checking.specs.Trees.{fragments_in, operations_in}
use Rattle.graphql_frontend.proofs.RuleSetLemmas.{none_is_off}
use Rattle.graphql_frontend.specs.RuleSets.{RuleSet, nothing_off}
use Rattle.graphql_frontend.specs.Schemas.{IsUsable}
use Rattle.graphql_frontend.specs.declared.texts.SourceText.{SourceText}
use Rattle.graphql_parser.specs.declared.bounds.Bounds.{Bounds}
use Rattle.graphql_pools.specs.Pools.{Entry, Gathers, SameEntry, entries_among}
use Rattle.graphql_projects.specs.OperationTrees.{Pool, ReachesFragment, fragment_named, fragments_among}
use Rattle.graphql_projects.specs.Projects.{FileHolds, OperationIsValid, OperationIsValidBut, ProjectHolds, ProjectHoldsBut, ReadFiles, operations_among}
use Rattle.graphql_projects.proofs.SaidDefinitionLemmas.{one_found, operation_is_said, own_names}
use Rattle.graphql_projects.proofs.SaidReachLemmas.{SaysIfAny, names_say, zip_first, zip_second}
use Rattle.graphql_project_checking.proofs.FileLemmas.{distinct_is_found, file_holds, operations_are_valid, zip_append}
use Rattle.graphql_project_checking.proofs.OperationLemmas.{HasOwnNames, fragment_in_tree, fragment_said_of_same, found_by_own}
use Rattle.graphql_project_checking.specs.Silence.{BuildAsLent, FilePasses, FilesHold, HasFragmentsOf, IsUsedName, NotesUses, OthersBuild, is_fragment, others_in}
use Rattle.graphql_project_checking.specs.declared.building.Lent.{Lent}
use Rattle.graphql_variables.specs.Uses.{IsNamedIn}

-- ==== lists of lists

pub flat_of_both : {X Y : Type 0} (f : X → List Y) (xs ys : List X) → flat_map f (xs ++ ys) ≡ flat_map f xs ++ flat_map f ys
flat_of_both f [] ys = refl
flat_of_both f (x ∷ xs) ys = ap (λ l. f x ++ l) (flat_of_both f xs ys) ∙ sym (append_assoc (f x) (flat_map f xs) (flat_map f ys))

pub made_flat : {X Y : Type 0} (f : X → List Y) (xs : List X) (y : Y) → Contains (flat_map f xs) y → (x : X) × Contains xs x × Contains (f x) y
made_flat f [] y (k, within, is) = absurd (omega (arith, within))
made_flat f (x ∷ xs) y c = elim (Contains-append_cases (f x) (flat_map f xs) y c) [
  | inl here ↦ (x, (0, omega arith, refl), here)
  | inr there ↦ let deep = made_flat f xs y there in (deep.0, (suc deep.1.0, omega (arith, deep.1.1), deep.1.2), deep.2)
]

pairs_front : {X : Type 0} (R : X → X → Type 0) (xs ys : List X) → AllPairs R (xs ++ ys) → AllPairs R xs
pairs_front R xs ys all = λ i j d before within.
    rw (get_or_append_left xs ys d i (omega (arith, before, within)), get_or_append_left xs ys d j within) at
    (all i j d before (omega (arith, within, length-append xs ys)))

pairs_back : {X : Type 0} (R : X → X → Type 0) (xs ys : List X) → AllPairs R (xs ++ ys) → AllPairs R ys
pairs_back R xs ys all = λ i j d before within.
    rw (get_or-append-add xs ys i d, get_or-append-add xs ys j d) at
    (all (length xs + i) (length xs + j) d (omega (arith, before)) (omega (arith, within, length-append xs ys)))

abbrev pub name_of : NameText × FragmentDefinition → NameText
name_of p = p.0

distinct_front : (xs ys : Pool) → AreDistinct (map name_of (xs ++ ys)) → AreDistinct (map name_of xs)
distinct_front xs ys distinct = pairs_front DifferentNames (map name_of xs) (map name_of ys) (subst AreDistinct (map-append name_of xs ys) distinct)

distinct_back : (xs ys : Pool) → AreDistinct (map name_of (xs ++ ys)) → AreDistinct (map name_of ys)
distinct_back xs ys distinct = pairs_back DifferentNames (map name_of xs) (map name_of ys) (subst AreDistinct (map-append name_of xs ys) distinct)

pub part_distinct : (trees : List Document) (t : Document) → Contains trees t → AreDistinct (map name_of (fragments_among trees)) → AreDistinct (map name_of (fragments_in t.definitions))
part_distinct [] t (k, within, is) distinct = absurd (omega (arith, within))
part_distinct (u ∷ trees) t (zero, within, is) distinct =
    subst (λ (t : Document). AreDistinct (map name_of (fragments_in t.definitions))) is (distinct_front (fragments_in u.definitions) (fragments_among trees) distinct)
part_distinct (u ∷ trees) t (suc k, within, is) distinct =
    part_distinct trees t (k, omega (arith, within), is) (distinct_back (fragments_in u.definitions) (fragments_among trees) distinct)

pub among_own_names : (trees : List Document) → HasOwnNames (fragments_among trees)
among_own_names trees p c = let t = made_flat (λ (t : Document). fragments_in t.definitions) trees p c in own_names t.0.definitions p t.2

-- ==== files that are lent

pub alone_fragments : (ds : List Definition) → fragments_in (filter is_fragment ds) ≡ fragments_in ds
alone_fragments [] = refl
alone_fragments (definition.Fragment x ∷ ds) = ap (λ l. (x.name, x) ∷ l) (alone_fragments ds)
alone_fragments (_ ∷ ds) = alone_fragments ds

pub same_fragments : (trees alone : List Document) → AllZip HasFragmentsOf trees alone → fragments_among alone ≡ fragments_among trees
same_fragments [] [] zip = refl
same_fragments [] (u ∷ us) zip = absurd zip
same_fragments (t ∷ ts) [] zip = absurd zip
same_fragments (t ∷ ts) (u ∷ us) zip =
    ap (λ l. l ++ fragments_among us) (ap fragments_in zip.0 ∙ alone_fragments t.definitions) ∙ ap (λ l. fragments_in t.definitions ++ l) (same_fragments ts us zip.1)

-- what holds of the fragments and of the other definitions holds of all
both_parts : (P : Definition → Type 0) (ds : List Definition) → All P (filter is_fragment ds) → All P (others_in ds) → All P ds
both_parts P ds fragments others = each_standing P ds (λ d c. by d c (is_fragment d) refl) where
  by : (d : Definition) → Contains ds d → (f : Bool) → is_fragment d ≡ f → P d
  by d c true is = All-contains P (filter is_fragment ds) d fragments (kept_by_filter is_fragment ds d c is)
  by d c false is = All-contains P (others_in ds) d others (kept_by_filter (λ d. not (is_fragment d)) ds d c (ap not is))

lent_definitions_build : (s : Schema) (trees : List Document) (lent : Lent) → BuildAsLent s trees lent → All (λ (t : Document). All (DefinitionBuilds (Some s)) t.definitions) trees
lent_definitions_build s trees lent build = each_standing (λ (t : Document). All (DefinitionBuilds (Some s)) t.definitions) trees (λ t c.
    let u = zip_second HasFragmentsOf trees lent.documents.items t build.fragments c in
    both_parts (DefinitionBuilds (Some s)) t.definitions
    (subst (All (DefinitionBuilds (Some s))) u.2 (All-contains (DocumentBuilds (Some s)) lent.documents.items u.0 build.build.0 u.1).definitions)
    (All-contains (OthersBuild s) trees t build.others c))

pub lent_distinct : (own lent : List Document) → AreDistinct (map name_of (fragments_among (own ++ lent))) → AreDistinct (map name_of (fragments_among lent))
lent_distinct own lent distinct = distinct_back (fragments_among own) (fragments_among lent)
    (subst (λ (l : Pool). AreDistinct (map name_of l)) (flat_of_both (λ (t : Document). fragments_in t.definitions) own lent) distinct)

pub same_pool : (own lent alone : List Document) → AllZip HasFragmentsOf lent alone → fragments_among (own ++ alone) ≡ fragments_among (own ++ lent)
same_pool own lent alone zip =
    flat_of_both (λ (t : Document). fragments_in t.definitions) own alone ∙ ap (λ l. fragments_among own ++ l) (same_fragments lent alone zip) ∙
    sym (flat_of_both (λ (t : Document). fragments_in t.definitions) own lent)

-- ==== the pool

module _ (s : Schema) where
  abbrev Says : NameText × FragmentDefinition → Entry → Type 0
  Says = SaysUnderName (FragmentSays (Some s))

  pub flat_says : (trees : List Document) (files : List ExecutableDocument) → AllZip (DocumentSays (Some s)) trees files → AllZip Says (fragments_among trees) (entries_among files)
  flat_says [] [] zip = tt
  flat_says [] (f ∷ fs) zip = absurd zip
  flat_says (t ∷ ts) [] zip = absurd zip
  flat_says (t ∷ ts) (f ∷ fs) zip = zip_append Says (fragments_in t.definitions) (fragments_among ts) f.fragments.entries (entries_among fs) zip.0.fragments (flat_says ts fs zip.1)

  said_of_same : (pool : Pool) (es new : List Entry) → AllZip Says pool es → AllZip SameEntry es new → AllZip Says pool new
  said_of_same [] [] [] says same = tt
  said_of_same [] [] (n ∷ ns) says same = absurd same
  said_of_same [] (e ∷ es) new says same = absurd says
  said_of_same (p ∷ ps) [] new says same = absurd says
  said_of_same (p ∷ ps) (e ∷ es) [] says same = absurd same
  said_of_same (p ∷ ps) (e ∷ es) (n ∷ ns) says same =
      ((same.0.0 ∙ says.0.0, fragment_said_of_same (Some s) p.1 e.1 n.1 says.0.1 same.0.1), said_of_same ps es ns says.1 same.1)

  said_names : (pool : Pool) (es : List Entry) → AllZip Says pool es → map (λ (e : Entry). e.0) es ≡ map name_of pool
  said_names [] [] says = refl
  said_names [] (e ∷ es) says = absurd says
  said_names (p ∷ ps) [] says = absurd says
  said_names (p ∷ ps) (e ∷ es) says = ap (λ n. n ∷ map (λ (e : Entry). e.0) es) says.0.0 ∙ ap (λ l. p.0 ∷ l) (said_names ps es says.1)

  pub pool_says : (own lent : List Document) (files lenders : List ExecutableDocument) (new : List Entry) → AllZip (DocumentSays (Some s)) own files →
      AllZip (DocumentSays (Some s)) lent lenders → AreDistinct (map name_of (fragments_among (own ++ lent))) → Gathers (entries_among files ++ entries_among lenders) [] new →
      AllZip Says (fragments_among (own ++ lent)) new
  pool_says own lent files lenders new own_say lent_say distinct gathers =
      let joined = flat_of_both (λ (t : Document). fragments_in t.definitions) own lent in
      let both = zip_append Says (fragments_among own) (fragments_among lent) (entries_among files) (entries_among lenders) (flat_says own files own_say) (flat_says lent lenders lent_say) in
      let names = said_names (fragments_among own ++ fragments_among lent) (entries_among files ++ entries_among lenders) both in
      let apart = subst AreDistinct (sym names) (subst (λ (l : Pool). AreDistinct (map name_of l)) joined distinct) in
      let made = gathers apart in
      subst (λ l. AllZip Says l new) (sym joined) (subst (AllZip Says (fragments_among own ++ fragments_among lent)) (sym made.1)
      (said_of_same (fragments_among own ++ fragments_among lent) (entries_among files ++ entries_among lenders) made.0 both made.2))

-- ==== all files

pub files_hold : (off : RuleSet) (s : Schema) (own lent : List Document) (files : List ExecutableDocument) (pool : ExecutableDocument) (used : List NameText) → IsUsable s →
    All (DocumentBuilds (Some s)) own → AllZip (DocumentSays (Some s)) own files →
    AllZip (SaysUnderName (FragmentSays (Some s))) (fragments_among (own ++ lent)) pool.fragments.entries →
    AreDistinct (map name_of (fragments_among (own ++ lent))) → All (FilePasses off s pool) files → NotesUses pool (flat_map operations_of files) [] used →
    (IsFalse off.unused_fragments → All (λ p. IsNamedIn used p.0) (fragments_among own)) → FilesHold off s own lent
files_hold off s own lent files pool used usable build say pool_said distinct pass notes named = record {
  files = each_standing (FileHolds s (fragments_among (own ++ lent))) own (λ t c.
      let f = zip_second (DocumentSays (Some s)) own files t say c in
      file_holds s (fragments_among (own ++ lent)) pool all_said own_named distinct t f.0 f.2 (within t c) off (All-contains (FilePasses off s pool) files f.0 pass f.1)
      (All-contains (DocumentBuilds (Some s)) own t build c));
  operations = each_standing (OperationIsValidBut off s (fragments_among (own ++ lent))) (operations_among own) (λ x c.
      let t = made_flat (λ (t : Document). operations_in t.definitions) own x c in
      let f = zip_second (DocumentSays (Some s)) own files t.0 say t.1 in
      All-contains (OperationIsValidBut off s (fragments_among (own ++ lent))) (operations_in t.0.definitions) x
      (operations_are_valid s (fragments_among (own ++ lent)) pool all_said own_named distinct t.0 f.0 f.2 (within t.0 t.1) off usable (All-contains (FilePasses off s pool) files f.0 pass f.1).operations) t.2);
  used = λ on. each_standing (λ p. Any (λ x. ReachesFragment (fragments_among (own ++ lent)) x p.1) (operations_among own)) (fragments_among own) (λ p c.
      let name = All-contains (λ p. IsNamedIn used p.0) (fragments_among own) p (named on) c in
      is_used p c name.0 name.2 (notes name.0 name.1));
}
  where
    own_named : HasOwnNames (fragments_among (own ++ lent))
    own_named = among_own_names (own ++ lent)

    all_said : (name : NameText) → SaysIfAny (Some s) (fragment_named (fragments_among (own ++ lent)) name) (fragments_of pool name)
    all_said name = names_say (Some s) name (fragments_among (own ++ lent)) pool.fragments.entries pool_said

    within : (t : Document) → Contains own t → (p : NameText × FragmentDefinition) → Contains (fragments_in t.definitions) p → Contains (fragments_among (own ++ lent)) p
    within t c p there = stands_flat (λ (t : Document). fragments_in t.definitions) (own ++ lent) t p (Contains-append_left own lent t c) there

    is_used : (p : NameText × FragmentDefinition) → Contains (fragments_among own) p → (u : NameText) → SameName u p.0 →
        Contains [] u ⊎ IsUsedName pool (flat_map operations_of files) u → Any (λ x. ReachesFragment (fragments_among (own ++ lent)) x p.1) (operations_among own)
    is_used p c u same (inl none) = absurd (none_stands u none)
    is_used p c u same (inr r) =
        let f = made_flat operations_of files r.o r.among in
        let t = zip_first (DocumentSays (Some s)) own files f.0 say f.1 in
        let x = operation_is_said (Some s) t.0 f.0 t.2 r.o f.2 in
        let g = fragment_in_tree (Some s) (fragments_among (own ++ lent)) pool all_said own_named x.0 r.o x.2 r.name r.d r.reached.0 r.found in
        let of = made_flat (λ (t : Document). fragments_in t.definitions) own p c in
        let there : Contains (fragments_among (own ++ lent)) p = within of.0 of.1 p of.2 in
        let found = distinct_is_found (fragments_among (own ++ lent)) p distinct there in
        let named : u ≡ g.0.name = r.is ∙ g.1.name in
        let alike : SameName g.0.name p.0 = subst (λ n. SameName n p.0) named same in
        let both : Some g.0 ≡ Some p.1 = sym (found_by_own (Some s) (fragments_among (own ++ lent)) pool all_said own_named g.2.name g.0 g.2.found) ∙ one_found (fragments_among (own ++ lent)) g.0.name p.0 alike ∙ found in
        let one : g.0 ≡ p.1 = cc in
        let stands = stands_flat (λ (t : Document). operations_in t.definitions) own t.0 x.0 t.1 x.1 in
        (stands.0, x.0, stands.1, stands.2, subst (ReachesFragment (fragments_among (own ++ lent)) x.0) one g.2)

-- ==== the project

pub project_holds : (off : RuleSet) (bounds : Bounds) (s : Schema) (sources lent_sources : List SourceText) (own lent_trees : List Document) (lent : Lent) →
    ReadFiles bounds sources own → ReadFiles bounds lent_sources lent_trees → AreDistinct (map name_of (fragments_among (own ++ lent_trees))) →
    All (DocumentBuilds (Some s)) own → BuildAsLent s lent_trees lent → FilesHold off s own lent.documents.items → ProjectHoldsBut off bounds s sources lent_sources
project_holds off bounds s sources lent_sources own lent_trees lent are lent_are distinct build lent_build hold =
    let same = same_pool own lent_trees lent.documents.items lent_build.fragments in
    record {
      trees = own;
      lent_trees = lent_trees;
      are = are;
      lent_are = lent_are;
      build = All-append (λ (t : Document). All (DefinitionBuilds (Some s)) t.definitions) own lent_trees
          (All-weaker (DocumentBuilds (Some s)) (λ (t : Document). All (DefinitionBuilds (Some s)) t.definitions) (λ t b. b.definitions) own build)
          (lent_definitions_build s lent_trees lent lent_build);
      fragment_names = distinct;
      files = subst (λ (l : Pool). All (FileHolds s l) own) same hold.files;
      operations = subst (λ (l : Pool). All (OperationIsValidBut off s l) (operations_among own)) same hold.operations;
      used = λ on. subst (λ (l : Pool). All (λ p. Any (λ x. ReachesFragment l x p.1) (operations_among own)) (fragments_among own)) same (hold.used on);
    }

-- if no rule is off, every rule holds
pub whole_project_holds : (bounds : Bounds) (s : Schema) (sources lent : List SourceText) → ProjectHoldsBut nothing_off bounds s sources lent → ProjectHolds bounds s sources lent
whole_project_holds bounds s sources lent hold = record {
  trees = hold.trees;
  lent_trees = hold.lent_trees;
  are = hold.are;
  lent_are = hold.lent_are;
  build = hold.build;
  fragment_names = hold.fragment_names;
  files = hold.files;
  operations = All-weaker (OperationIsValidBut nothing_off s pool) (OperationIsValid s pool)
      (λ x (whole, document, tree, says, holds). (whole, document, tree, says, (none_is_off (Some s) document).0 holds)) (operations_among hold.trees) hold.operations;
  used = hold.used refl;
} where
  pool : Pool
  pool = fragments_among (hold.trees ++ hold.lent_trees)
